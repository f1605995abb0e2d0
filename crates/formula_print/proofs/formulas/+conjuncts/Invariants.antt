-- What holds at the loops of the cycle `conjuncts`.
use Rattle.std.proofs.Common.{◌≡◌, ◌++◌, drop}
use Rattle.gc0_tree.specs.Views.{conjuncts_view}
use Rattle.formula_print.specs.Numbered.{parts_text}
use Rattle.formula_print.proofs.formulas.+conjuncts.Given as goal

abbrev pub invariant-push_parts-loop-conjunct : goal.invariant-push_parts-loop-conjunct
invariant-push_parts-loop-conjunct l = l.text.items ++ parts_text l.program l.scope l.front (conjuncts_view (drop l.conjunct-index l.conjuncts)) ≡ l.initial.text.items ++ parts_text l.program l.scope l.first_front (conjuncts_view l.conjuncts)
