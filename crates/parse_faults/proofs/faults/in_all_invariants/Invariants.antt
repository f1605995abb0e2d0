-- What holds at each turn of `in_all_invariants`, and what gets less.
use Rattle.std.proofs.Common.{◌≡◌, drop, fold, map}
use Rattle.parsed_tree.specs.Views.{invariants_view}
use Rattle.parse_faults.specs.TreeFaults.{all_of, invariants_faults}
use Rattle.parse_faults.specs.First.{earlier}
use Rattle.parse_faults.proofs.faults.in_all_invariants.Given as goal

abbrev pub invariant-loop-part : goal.invariant-loop-part
invariant-loop-part l = fold earlier l.found (all_of invariants_faults (map invariants_view (drop l.part-index l.all))) ≡ fold earlier l.fn.found (all_of invariants_faults (map invariants_view l.all))
