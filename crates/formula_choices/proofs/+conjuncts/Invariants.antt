-- What holds in the loop of the calls around `push_part`.
use Rattle.std.proofs.Common.{◌≡◌, ◌++◌, drop}
use Rattle.gc0_tree.specs.Views.{conjuncts_view}
use Rattle.formula_choices.specs.ChoicePlaces.{choice_places}
use Rattle.formula_choices.proofs.+conjuncts.Given as goal

abbrev pub invariant-push_parts-loop-part : goal.invariant-push_parts-loop-part
invariant-push_parts-loop-part l = l.places ++ choice_places (conjuncts_view (drop l.part-index l.parts)) ≡ l.fn.places ++ choice_places (conjuncts_view l.parts)
