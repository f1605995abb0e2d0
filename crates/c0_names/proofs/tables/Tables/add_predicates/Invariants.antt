-- What holds in the loop of `add_predicates`.
use Rattle.std.proofs.Common.{◌≡◌, drop, fold, map}
use Rattle.parsed_tree.specs.Views.{predicate_view}
use Rattle.c0_names.specs.Tables.{with_predicate}
use Rattle.c0_names.proofs.tables.Tables.add_predicates.Given as goal

abbrev pub invariant-loop-predicate : goal.invariant-loop-predicate
invariant-loop-predicate l = fold with_predicate l.self (map predicate_view (drop l.predicate-index l.predicates)) ≡ fold with_predicate l.fn.self (map predicate_view l.predicates)
