-- What holds in the loop of `places_in_bodies`.
use Rattle.std.proofs.Common.{◌≡◌, ◌++◌, drop, map}
use Rattle.gc0_tree.specs.Views.{predicate_view}
use Rattle.formula_choices.specs.ChoicePlaces.{choice_places}
use Rattle.formula_choices.proofs.places_in_bodies.Given as goal

abbrev pub invariant-loop-predicate : goal.invariant-loop-predicate
invariant-loop-predicate l = l.all ++ map (λ q. choice_places q.body) (map predicate_view (drop l.predicate-index l.predicates)) ≡ map (λ q. choice_places q.body) (map predicate_view l.predicates)
