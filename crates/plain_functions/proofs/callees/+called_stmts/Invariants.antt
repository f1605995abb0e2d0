use Rattle.std.proofs.Common.{◌≡◌, ℕ, ◌||◌, drop}
use Rattle.gc0_tree.specs.Views.{stmts_view}
use Rattle.c0_meaning.specs.Precision.{stmts_call}
use Rattle.plain_functions.specs.Callers.{among}
use Rattle.plain_functions.proofs.callees.+called_stmts.Given as goal

abbrev pub invariant-add_stmts-loop-s : goal.invariant-add_stmts-loop-s
invariant-add_stmts-loop-s l = (g : ℕ) → (among g l.callees || stmts_call g (stmts_view (drop l.s-index l.ss))) ≡ (among g l.initial.callees || stmts_call g (stmts_view l.ss))
