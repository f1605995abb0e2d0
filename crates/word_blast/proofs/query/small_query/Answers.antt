use Rattle.std.proofs.Common.{◌≡◌, ◌++◌, ap, ◌∙◌, arith}
use Rattle.word_blast.proofs.Asked.{in-range, whole-is, weight-is}
use Rattle.word_blast.proofs.query.small_query.Goals as goal

pub gates-requires : goal.gates-requires
gates-requires c =
    let e : c.deref.result.now ≡ c.args.truths.now ++ c.args.falsehoods.now = c.deref.ensures.value ∙ c.in_ok-extend_from_slice.ensures.items ∙ ap (λ xs. xs ++ c.args.falsehoods.now) c.in_ok-roots.ensures.items in
    in-range c.args.terms.now c.args.truths.now c.args.falsehoods.now c.deref.result.now e c.requires.truths c.requires.falsehoods

pub blast_terms-requires : goal.blast_terms-requires
blast_terms-requires c =
    let e : c.deref-2.result.now ≡ c.args.truths.now ++ c.args.falsehoods.now = c.deref-2.ensures.value ∙ c.in_ok-extend_from_slice.ensures.items ∙ ap (λ xs. xs ++ c.args.falsehoods.now) c.in_ok-roots.ensures.items in
    in-range c.args.terms.now c.args.truths.now c.args.falsehoods.now c.deref-2.result.now e c.requires.truths c.requires.falsehoods

pub returns : goal.returns
returns c =
    let e : c.deref.result.now ≡ c.args.truths.now ++ c.args.falsehoods.now = c.deref.ensures.value ∙ c.in_ok-extend_from_slice.ensures.items ∙ ap (λ xs. xs ++ c.args.falsehoods.now) c.in_ok-roots.ensures.items in
    let f : c.deref-2.result.now ≡ c.args.truths.now ++ c.args.falsehoods.now = c.deref-2.ensures.value ∙ c.in_ok-extend_from_slice.ensures.items ∙ ap (λ xs. xs ++ c.args.falsehoods.now) c.in_ok-roots.ensures.items in
    let weight = weight-is c.args.terms.now c.args.truths.now c.args.falsehoods.now c.deref.result.now e c.in_ok-weight.weight c.in_ok-weight.ensures in (
      c.in_ok-blast.ensures.formed,
      whole-is c.args.terms.now c.args.truths.now c.args.falsehoods.now c.deref-2.result.now f c.in_ok-blast.blast c.in_ok-parts.parts.variables c.from_vec.result c.in_ok-parts.parts.inputs.items
          c.in_ok-blast.ensures.circuit c.in_ok-parts.ensures.variables (c.from_vec.ensures ∙ c.in_ok-parts.ensures.clauses) c.in_ok-parts.ensures.inputs,
      omega (arith, weight, c.if-weight-gt-WEIGHT.false),
    )
