use Rattle.std.proofs.Common.{◌≡◌, drop}
use Rattle.gc0_tree.specs.Views.{stmts_view}
use Rattle.c0_meaning.specs.Precision.{any_open}
use Rattle.plain_functions.proofs.openness.+open_stmts.Given as goal

abbrev pub invariant-stmts_are_open-loop-s : goal.invariant-stmts_are_open-loop-s
invariant-stmts_are_open-loop-s l = any_open (stmts_view (drop l.s-index l.ss)) ≡ any_open (stmts_view l.ss)
