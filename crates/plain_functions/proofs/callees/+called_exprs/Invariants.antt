use Rattle.std.proofs.Common.{◌≡◌, ℕ, ◌||◌, drop}
use Rattle.gc0_tree.specs.Views.{exprs_view}
use Rattle.c0_meaning.specs.Precision.{trees_call}
use Rattle.plain_functions.specs.Callers.{among}
use Rattle.plain_functions.proofs.callees.+called_exprs.Given as goal

abbrev pub invariant-add_exprs-loop-e : goal.invariant-add_exprs-loop-e
invariant-add_exprs-loop-e l = (g : ℕ) → (among g l.callees || trees_call g (exprs_view (drop l.e-index l.es))) ≡ (among g l.initial.callees || trees_call g (exprs_view l.es))
