-- What holds at each turn of `first_fault`, and what gets less.
use Rattle.std.proofs.Common.{◌≡◌, drop, fold, map}
use Rattle.parsed_tree.specs.Views.{item_view, program_view}
use Rattle.parse_faults.specs.TreeFaults.{all_of, item_faults, tree_faults}
use Rattle.parse_faults.specs.First.{first_of, earlier}
use Rattle.parse_faults.proofs.faults.first_fault.Given as goal

abbrev pub invariant-loop-part : goal.invariant-loop-part
invariant-loop-part l = fold earlier l.found (all_of item_faults (map item_view (drop l.part-index l.part-items))) ≡ first_of (tree_faults (program_view l.parsed))
