-- The number of expressions in a row, as a tree has them and as a list.
use Rattle.std.specs.Prelude.{◌≡◌, suc, List, [], ◌∷◌, length, refl}
use Rattle.parsed_tree.specs.declared.expressions.Expr.{Expr}
use Rattle.parsed_tree.specs.Views.{exprs_view}
use Rattle.c0_names.specs.Typing.{count_of}
use Rattle.std.proofs.Common.{ap}

pub count_view : (es : List Expr) → count_of (exprs_view es) ≡ length es
count_view [] = refl
count_view (e ∷ es) = ap suc (count_view es)
