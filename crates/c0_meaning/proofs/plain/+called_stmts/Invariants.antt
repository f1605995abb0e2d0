use Rattle.std.proofs.Common.{◌≡◌, ℕ, ◌||◌, drop}
use Rattle.gc0_tree.specs.Views.{stmts_view}
use Rattle.c0_meaning.specs.Precision.{stmts_call}
use Rattle.c0_meaning.specs.Marking.{has, Follows}
use Rattle.c0_meaning.proofs.plain.+called_stmts.Given as goal

abbrev pub invariant-mark_stmts-loop-s : goal.invariant-mark_stmts-loop-s
invariant-mark_stmts-loop-s l = record {
  follows : Follows l.initial.reached l.reached;
  marked : (g : ℕ) → (has l.reached g || stmts_call g (stmts_view (drop l.s-index l.ss))) ≡ (has l.initial.reached g || stmts_call g (stmts_view l.ss));
}
