-- What holds at each turn of `in_predicates`, and what gets less.
use Rattle.std.proofs.Common.{◌≡◌, drop, fold, map}
use Rattle.parsed_tree.specs.Views.{predicate_view}
use Rattle.parse_faults.specs.TreeFaults.{all_of, predicate_faults}
use Rattle.parse_faults.specs.First.{earlier}
use Rattle.parse_faults.proofs.faults.in_predicates.Given as goal

abbrev pub invariant-loop-part : goal.invariant-loop-part
invariant-loop-part l = fold earlier l.found (all_of predicate_faults (map predicate_view (drop l.part-index l.predicates))) ≡ fold earlier l.fn.found (all_of predicate_faults (map predicate_view l.predicates))
