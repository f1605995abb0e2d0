-- What is answered by hand of the proof of `invariants_of`.
use Rattle.std.proofs.Common.{rules, ◌≡◌, ◌∙◌, ◌∷◌, List, ap, sym, true}
use Rattle.built_text.specs.declared.token.Fixed.TheVariants as mark
use Rattle.built_text.specs.Tree.{NoteTree}
use Rattle.built_text.specs.Views.{note_view, notes_view}
use Rattle.built_text.specs.Plan.{Plan, notes, after_note, run}
use Rattle.built_text.proofs.Failing.{fails_as}
use Rattle.built_text.specs.Plan.{is}
use Rattle.built_text.proofs.Loops.{notes_pushed, notes_on, onto, onto_more}
use Rattle.built_text.proofs.statements.invariants_of.Goals as goal

pub returns-in-Err-clause-reads : goal.returns-in-Err-clause-reads
returns-in-Err-clause-reads c = λ next.
    let N : List NoteTree → Plan = onto (notes_view c.loop-token.found) next in
    let s : c.loop-token.rest.now ≡ c.in-Some.token.now ∷ c.in-Some.behind.now = search rules in
    let n : is mark.Annotation c.in-Some.token.now.kind ≡ true = search rules in
    fails_as _ _ _ (c.loop-token.invariant.reads next ∙ ap (run (notes c.args.room N)) s ∙ notes_on c.args.room N c.in-Some.token.now c.in-Some.behind.now n) (c.in-Err.ensures.reads (after_note c.args.room N))

pub loop-token-preserved : goal.loop-token-preserved
loop-token-preserved c = record {
  reads = λ next.
      let N : List NoteTree → Plan = onto (notes_view c.loop-token.found) next in
      let s : c.loop-token.rest.now ≡ c.in-Some.token.now ∷ c.in-Some.behind.now = search rules in
      let n : is mark.Annotation c.in-Some.token.now.kind ≡ true = search rules in
      let ts = c.in-Ok.value.1.now in
      let v = notes_pushed _ _ _ c.in_ok-push.ensures.ok in
      c.loop-token.invariant.reads next ∙ ap (run (notes c.args.room N)) s ∙ notes_on c.args.room N c.in-Some.token.now c.in-Some.behind.now n
      ∙ c.in-Ok.ensures.reads (after_note c.args.room N)
      ∙ ap (λ k. run (notes c.args.room k) ts) (onto_more (notes_view c.loop-token.found) next (note_view c.in-Ok.value.0))
      ∙ ap (λ l. run (notes c.args.room (onto l next)) ts) (sym v);
  shorter = search rules;
}
