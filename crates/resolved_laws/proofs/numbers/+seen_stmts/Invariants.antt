use Rattle.std.proofs.Common.{◌≡◌, drop}
use Rattle.gc0_tree.specs.Views.{stmts_view}
use Rattle.resolved_laws.specs.Numbers.{stmts_numbers}
use Rattle.resolved_laws.proofs.numbers.+seen_stmts.Given as goal

abbrev pub invariant-see_stmts-loop-s : goal.invariant-see_stmts-loop-s
invariant-see_stmts-loop-s l = stmts_numbers (stmts_view (drop l.s-index l.ss)) ≡ stmts_numbers (stmts_view l.ss)
