-- What holds at each turn of `in_contract`, and what gets less.
use Rattle.std.proofs.Common.{◌≡◌, drop, fold, map}
use Rattle.parsed_tree.specs.Views.{clause_view}
use Rattle.parse_faults.specs.TreeFaults.{all_of, clause_faults}
use Rattle.parse_faults.specs.First.{earlier}
use Rattle.parse_faults.proofs.faults.in_contract.Given as goal

abbrev pub invariant-loop-part : goal.invariant-loop-part
invariant-loop-part l = fold earlier l.found (all_of clause_faults (map clause_view (drop l.part-index l.part-items))) ≡ fold earlier l.fn.found (all_of clause_faults (map clause_view l.contract.clauses))
