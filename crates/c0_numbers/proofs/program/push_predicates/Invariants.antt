-- What holds in the loop of `push_predicates`.
use Rattle.std.proofs.Common.{◌≡◌, ◌++◌, drop, map}
use Rattle.gc0_tree.specs.Views.{predicate_view}
use Rattle.parsed_tree.specs.Views as read
use Rattle.c0_numbers.specs.Resolved.{predicate_tree}
use Rattle.c0_numbers.proofs.program.push_predicates.Given as goal

abbrev pub invariant-loop-part : goal.invariant-loop-part
invariant-loop-part l = map predicate_view l.made ++ map (predicate_tree l.tables) (map read.predicate_view (drop l.part-index l.predicates)) ≡ map predicate_view l.fn.made ++ map (predicate_tree l.tables) (map read.predicate_view l.predicates)
