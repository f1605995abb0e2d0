-- Equal expressions are as many.
use Rattle.std.proofs.Common.{◌≡◌, ℕ, suc, List, [], ◌∷◌, length, refl, sym, ap, ◌∙◌}
use Rattle.gc0_tree.specs.declared.Expr.{Expr}
use Rattle.gc0_tree.specs.Tree.{Trees, no_trees, tree_and}
use Rattle.gc0_tree.specs.Views.{exprs_view}
use Rattle.precision_order.specs.Bare.{all_bare}

abbrev count : Trees → ℕ
count no_trees = 0
count (tree_and e es) = suc (count es)

counted : (es : List Expr) → count (all_bare (exprs_view es)) ≡ length es
counted [] = refl
counted (e ∷ es) = ap (λ n. suc n) (counted es)

pub as_many : (es ts : List Expr) → all_bare (exprs_view es) ≡ all_bare (exprs_view ts) → length es ≡ length ts
as_many es ts h = sym (counted es) ∙ ap count h ∙ counted ts
