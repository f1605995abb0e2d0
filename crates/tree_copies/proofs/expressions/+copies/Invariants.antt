-- What holds in the loop of the calls around `copy_expr`.
use Rattle.std.proofs.Common.{◌≡◌, ◌++◌, drop, map}
use Rattle.gc0_tree.specs.Views.{expr_view}
use Rattle.tree_copies.proofs.expressions.+copies.Given as goal

abbrev pub invariant-copy_exprs-loop-e : goal.invariant-copy_exprs-loop-e
invariant-copy_exprs-loop-e l = map expr_view l.copies ++ map expr_view (drop l.e-index l.es) ≡ map expr_view l.es
