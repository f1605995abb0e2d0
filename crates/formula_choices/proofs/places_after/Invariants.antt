-- What holds in the loop of `places_after`.
use Rattle.std.proofs.Common.{◌≡◌, ◌++◌, drop, map}
use Rattle.gc0_tree.specs.Views.{function_view}
use Rattle.formula_choices.specs.ChoicePlaces.{choice_places}
use Rattle.formula_choices.proofs.places_after.Given as goal

abbrev pub invariant-loop-function : goal.invariant-loop-function
invariant-loop-function l = l.all ++ map (λ f. choice_places f.after.parts) (map function_view (drop l.function-index l.functions)) ≡ map (λ f. choice_places f.after.parts) (map function_view l.functions)
