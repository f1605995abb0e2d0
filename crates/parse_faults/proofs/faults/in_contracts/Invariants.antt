-- What holds at each turn of `in_contracts`, and what gets less.
use Rattle.std.proofs.Common.{◌≡◌, drop, fold, map}
use Rattle.parsed_tree.specs.Views.{contract_view}
use Rattle.parse_faults.specs.TreeFaults.{all_of, contract_faults}
use Rattle.parse_faults.specs.First.{earlier}
use Rattle.parse_faults.proofs.faults.in_contracts.Given as goal

abbrev pub invariant-loop-part : goal.invariant-loop-part
invariant-loop-part l = fold earlier l.found (all_of contract_faults (map contract_view (drop l.part-index l.contracts))) ≡ fold earlier l.fn.found (all_of contract_faults (map contract_view l.contracts))
