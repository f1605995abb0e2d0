use Rattle.std.proofs.Common.{◌≡◌, ◌+◌, length, map, All, List, arith, sym, ap, ◌∙◌, subst, length-append}
use Rattle.word_terms.specs.declared.node.Node.{Node}
use Rattle.word_terms.specs.declared.node.TermId.{TermId}
use Rattle.word_terms.specs.declared.node.Sort.TheVariants.{Word32, Truth}
use Rattle.word_terms.specs.Terms.{symbol, sort_of}
use Rattle.word_terms.specs.Tables.{term}
use Rattle.word_terms.specs.Laws.{Keeps}
use Rattle.solver_bench.specs.Families.{pairs, pair_term, IsKnown}
use Rattle.solver_bench.proofs.Kept.{known_kept, roots_kept, pairs_kept, keeps_twice}
use Rattle.solver_bench.proofs.query.pairs.Goals as goal

pub loop-preserved : goal.loop-preserved
loop-preserved c =
    let old : List Node = c.loop.terms.nodes in
    let mid : List Node = c.symbol-in-loop.new.self.nodes in
    let new : List Node = c.pair_of.new.terms.nodes in
    let right : TermId = c.in_ok-right.right in
    let root : TermId = c.in_ok-pair_of.field-0 in
    let more : Keeps mid new = c.in_ok-pair_of.ensures.kept in
    let keeps : Keeps old new = keeps_twice old mid new c.in_ok-right.ensures.kept more in
    let known : IsKnown mid Word32 right.0 = (omega (arith, c.in_ok-right.ensures.number, simp length-append at (ap length c.in_ok-right.ensures.nodes)), ap sort_of c.in_ok-right.ensures.term) in
    let left_is : term mid c.loop.left.0 ≡ symbol c.loop.counter Word32 = c.in_ok-right.ensures.kept.same c.loop.left.0 c.loop.invariant.known.0 ∙ c.loop.invariant.last in
    let right_is : term mid right.0 ≡ symbol (c.loop.counter + 1) Word32 = c.in_ok-right.ensures.term ∙ ap (λ k. symbol k Word32) c.loop.invariant.symbols in
    let made : term new root.0 ≡ pair_term c.args.pair (symbol c.loop.counter Word32) (symbol (c.loop.counter + 1) Word32) =
    c.in_ok-pair_of.ensures.term ∙ ap (λ t. pair_term c.args.pair t (term mid right.0)) left_is ∙ ap (λ t. pair_term c.args.pair (symbol c.loop.counter Word32) t) right_is in
    record {
      known = known_kept mid new more Word32 right.0 known;
      last = more.same right.0 known.0 ∙ right_is;
      symbols = omega (arith, ap length c.in_ok-pair_of.ensures.sorts, simp length-append at (ap length c.in_ok-right.ensures.sorts));
      truths = subst (λ rs. All (λ (r : TermId). IsKnown new Truth r.0) rs) (sym c.in_ok-push.ensures.items)
          (roots_kept old new c.loop.roots.items root keeps c.loop.invariant.truths c.in_ok-pair_of.ensures.known);
      made = subst (λ rs. map (λ (r : TermId). term new r.0) rs ≡ pairs c.args.pair (c.loop.counter + 1)) (sym c.in_ok-push.ensures.items)
          (pairs_kept c.args.pair c.loop.counter old new c.loop.roots.items root keeps c.loop.invariant.truths c.loop.invariant.made made);
    }
