-- What the loop over arguments keeps.
use Rattle.std.proofs.Common.{drop}
use Rattle.gc0_tree.specs.Views.{exprs_view}
use Rattle.lowering_laws.specs.Counts.{Counts}
use Rattle.core_expressions.specs.Writing.{StandsFor}
use Rattle.core_expressions.proofs.Passed.{Further}
use Rattle.core_expressions.proofs.expressions.+lower_expr.Given as goal

-- what is left, behind what came so far, is one of all
abbrev pub invariant-lower_arguments-loop-e : goal.invariant-lower_arguments-loop-e
invariant-lower_arguments-loop-e l =
    (k : Counts) → StandsFor l.initial.out k → Further l.within l.initial.out l.out k (exprs_view l.es) (exprs_view (drop l.e-index l.es)) l.locals
