-- What gets less in the cycle of `stmt`, and what holds at each turn of its loops.
use Rattle.std.proofs.Common.{◌≡◌, drop, fold}
use Rattle.parsed_tree.specs.Views.{stmts_view}
use Rattle.parse_faults.specs.TreeFaults.{stmts_faults}
use Rattle.parse_faults.specs.First.{earlier}
use Rattle.parse_faults.proofs.faults.+stmt.Given as goal

abbrev pub invariant-in_stmts-loop-part : goal.invariant-in_stmts-loop-part
invariant-in_stmts-loop-part l = fold earlier l.found (stmts_faults (stmts_view (drop l.part-index l.stmts))) ≡ fold earlier l.fn.found (stmts_faults (stmts_view l.stmts))
