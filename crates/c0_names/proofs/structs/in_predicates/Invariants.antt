-- What holds in the loop of `in_predicates`.
use Rattle.std.proofs.Common.{◌≡◌, drop, fold, map}
use Rattle.c0_names.specs.Names.{names_with}
use Rattle.parsed_tree.specs.Views.{predicate_view}
use Rattle.c0_names.specs.Tables.{predicates_structs}
use Rattle.c0_names.proofs.structs.in_predicates.Given as goal

abbrev pub invariant-loop-predicate : goal.invariant-loop-predicate
invariant-loop-predicate l = fold names_with l.names (predicates_structs (map predicate_view (drop l.predicate-index l.predicates))) ≡ fold names_with l.fn.names (predicates_structs (map predicate_view l.predicates))
