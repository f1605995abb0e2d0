-- What holds in the loop of `predicates`.
use Rattle.std.proofs.Common.{◌≡◌, ◌&&◌, drop, fold, map, []}
use Rattle.c0_value_rules.specs.Violations.{earlier, least_of}
use Rattle.parsed_tree.specs.Views.{predicate_view}
use Rattle.c0_names.specs.Tables.{with_predicate}
use Rattle.c0_rules.specs.Rules.{predicates_violations}
use Rattle.c0_rules.proofs.items.predicates.Given as goal

abbrev pub invariant-loop-part : goal.invariant-loop-part
invariant-loop-part l = record {
  above : fold with_predicate l.above (map predicate_view (drop l.part-index l.predicates)) ≡ fold with_predicate l.fn.above (map predicate_view l.predicates);
  least : fold earlier l.least (predicates_violations l.tables l.above (map predicate_view (drop l.part-index l.predicates))) ≡ fold earlier l.fn.least (predicates_violations l.tables l.fn.above (map predicate_view l.predicates));
}
