-- What is answered by hand of the proofs of the cycle `trees`.
use Rattle.std.proofs.Common.{◌≡◌, ℕ, ◌+◌, ◌*◌, sym, ap, ◌∙◌, rules}
use Rattle.gc0_tree.specs.Views.{expr_view, program_view}
use Rattle.gc0_tree.specs.declared.ExprForm.TheViews.{the_lemmas}
use Rattle.gc0_tree.specs.declared.ExprForm.TheFolds.{fold_out-Expr, fold_out-ExprForm}
use Rattle.self_framing.specs.Capped.{capped}
use Rattle.self_framing.specs.Paths.{tree_paths}
use Rattle.self_framing.proofs.paths_trees.+trees.Goals as goal

pub tree_paths-returns-in-Choose : goal.tree_paths-returns-in-Choose
tree_paths-returns-in-Choose t c =
    let p = program_view c.args.program.now in
    let test : ℕ = tree_paths p (expr_view c.in-Choose.a) in
    let one : ℕ = tree_paths p (expr_view c.in-Choose.b) in
    let other : ℕ = tree_paths p (expr_view c.in-Choose.c) in
    let view : tree_paths p (expr_view c.args.e.now) ≡ test * (one + other) = search (rules, the_lemmas, fold_out-Expr, fold_out-ExprForm) in
    let in_test : c.tree_paths-in-Choose-3.result ≡ capped test = search rules in
    let in_one : c.tree_paths-in-Choose.result ≡ capped one = search rules in
    let in_other : c.tree_paths-in-Choose-2.result ≡ capped other = search rules in
    c.product-in-Choose.ensures test (one + other) in_test (c.sum-branches.ensures one other in_one in_other) ∙ ap capped (sym view)
