use Rattle.std.proofs.Common.{◌≡◌, ◌++◌, drop}
use Rattle.gc0_tree.specs.Sites.{trees_tokens}
use Rattle.gc0_tree.specs.Views.{exprs_view}
use Rattle.gc0_tree.proofs.tokens.+expr_tokens.Given as goal

abbrev pub invariant-push_exprs-loop-e : goal.invariant-push_exprs-loop-e
invariant-push_exprs-loop-e l = l.places.items ++ trees_tokens l.kind (exprs_view (drop l.e-index l.es)) ≡ l.initial.places.items ++ trees_tokens l.kind (exprs_view l.es)
