use Rattle.std.proofs.Common.{◌≡◌, ℕ, ◌||◌, drop}
use Rattle.gc0_tree.specs.Views.{exprs_view}
use Rattle.c0_meaning.specs.Precision.{trees_call}
use Rattle.c0_meaning.specs.Marking.{has, Follows}
use Rattle.c0_meaning.proofs.plain.+called_exprs.Given as goal

abbrev pub invariant-mark_exprs-loop-e : goal.invariant-mark_exprs-loop-e
invariant-mark_exprs-loop-e l = record {
  follows : Follows l.initial.reached l.reached;
  marked : (g : ℕ) → (has l.reached g || trees_call g (exprs_view (drop l.e-index l.es))) ≡ (has l.initial.reached g || trees_call g (exprs_view l.es));
}
