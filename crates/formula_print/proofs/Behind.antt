-- The arguments of a call, before the first of which stands nothing.
use Rattle.std.proofs.Common.{◌≡◌, [], refl}
use Rattle.gc0_tree.specs.declared.Program.{Program}
use Rattle.gc0_tree.specs.Tree.{Trees, no_trees, tree_and}
use Rattle.c0_layout.specs.Layout.{args_text}
use Rattle.c0_layout.specs.Behind.{behind}
use Rattle.formula_print.specs.declared.scope.Scope.{Scope}
use Rattle.formula_print.specs.Numbered.{shown_args, shown_more}

pub shown_behind : (p : Program) (s : Scope) (xs : Trees) → behind [] (shown_more p s xs) ≡ args_text (shown_args p s xs)
shown_behind p s no_trees = refl
shown_behind p s (tree_and x xs) = refl
