-- What holds in the loop of `all_predicates`.
use Rattle.std.proofs.Common.{◌≡◌, ◌++◌, drop, map}
use Rattle.gc0_tree.specs.Views.{predicate_view}
use Rattle.parsed_tree.specs.Views.{item_view}
use Rattle.c0_numbers.specs.Resolved.{predicates_tree}
use Rattle.c0_numbers.proofs.program.all_predicates.Given as goal

abbrev pub invariant-loop-item : goal.invariant-loop-item
invariant-loop-item l = map predicate_view l.made ++ predicates_tree l.tables (map item_view (drop l.item-index l.items)) ≡ predicates_tree l.tables (map item_view l.items)
