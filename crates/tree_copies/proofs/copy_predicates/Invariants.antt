-- What holds in the loop of `copy_predicates`.
use Rattle.std.proofs.Common.{◌≡◌, ◌++◌, drop, map}
use Rattle.gc0_tree.specs.Views.{predicate_view}
use Rattle.tree_copies.proofs.copy_predicates.Given as goal

abbrev pub invariant-loop-predicate : goal.invariant-loop-predicate
invariant-loop-predicate l = map predicate_view l.copies ++ map predicate_view (drop l.predicate-index l.predicates) ≡ map predicate_view l.predicates
