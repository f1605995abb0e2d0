use Rattle.std.proofs.Common.{drop}
use Rattle.gc0_tree.specs.Views.{stmts_view}
use Rattle.core_lower.proofs.Forms.{Ahead}
use Rattle.core_lower.proofs.statements.+statements.Given as goal

abbrev pub invariant-lower_stmts-loop-s : goal.invariant-lower_stmts-loop-s
invariant-lower_stmts-loop-s l = Ahead l.within l.initial.out l.out (stmts_view (drop l.s-index l.ss)) (stmts_view l.ss)
