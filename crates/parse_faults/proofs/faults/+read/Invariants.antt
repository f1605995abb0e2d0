-- What gets less in the cycle of `read`, and what holds at each turn of its loops.
use Rattle.std.proofs.Common.{◌≡◌, drop, fold}
use Rattle.parsed_tree.specs.Views.{exprs_view}
use Rattle.parse_faults.specs.TreeFaults.{all_reads_in}
use Rattle.parse_faults.specs.First.{earlier}
use Rattle.parse_faults.proofs.faults.+read.Given as goal

abbrev pub invariant-first_read_in-loop-part : goal.invariant-first_read_in-loop-part
invariant-first_read_in-loop-part l = fold earlier l.found (all_reads_in (exprs_view (drop l.part-index l.parts))) ≡ fold earlier l.fn.found (all_reads_in (exprs_view l.parts))
