-- What holds in the loop of `in_items`.
use Rattle.std.proofs.Common.{◌≡◌, ◌&&◌, drop, fold, map, []}
use Rattle.c0_value_rules.specs.Violations.{earlier, least_of}
use Rattle.parsed_tree.specs.Views.{item_view}
use Rattle.c0_rules.specs.Rules.{items_violations, unaliased}
use Rattle.c0_rules.proofs.items.in_items.Given as goal

abbrev pub invariant-loop-part : goal.invariant-loop-part
invariant-loop-part l = record {
  least : fold earlier l.least (items_violations l.tables l.above (map item_view (drop l.part-index l.items))) ≡ least_of (items_violations l.fn.tables l.fn.above (map item_view l.items));
  rest : unaliased l.tables ≡ unaliased l.fn.tables;
}
