-- The arguments of a call, before the first of which stands nothing.
use Rattle.std.proofs.Common.{◌≡◌, [], refl}
use Rattle.parsed_tree.specs.Tree.{ExprTrees, no_exprs, expr_and}
use Rattle.c0_layout.specs.Layout.{args_text}
use Rattle.c0_layout.specs.Behind.{behind}
use Rattle.c0_print.specs.Printing.{args_of, more_of}

pub args_behind : (xs : ExprTrees) → behind [] (more_of xs) ≡ args_text (args_of xs)
args_behind no_exprs = refl
args_behind (expr_and x xs) = refl
