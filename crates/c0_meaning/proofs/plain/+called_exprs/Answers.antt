use Rattle.std.proofs.Common.{◌≡◌, ◌||◌, Bool, rules}
use Rattle.gc0_tree.specs.Views.{expr_view}
use Rattle.gc0_tree.specs.declared.ExprForm.TheViews.{the_lemmas}
use Rattle.gc0_tree.specs.declared.ExprForm.TheFolds.{fold_out-Expr, fold_out-ExprForm}
use Rattle.c0_meaning.specs.Precision.{tree_calls}
use Rattle.c0_meaning.specs.Marking.{has}
use Rattle.c0_meaning.proofs.Marked.{joined_2, joined_3}
use Rattle.c0_meaning.proofs.plain.+called_exprs.Goals as goal

pub mark_expr-returns-in-Binary-clause-marked : goal.mark_expr-returns-in-Binary-clause-marked
mark_expr-returns-in-Binary-clause-marked t c = λ g.
    let all : Bool = tree_calls g (expr_view c.args.e.now) in
    let a : Bool = tree_calls g (expr_view c.in-Binary.a) in
    let b : Bool = tree_calls g (expr_view c.in-Binary.b) in
    let view : all ≡ (a || b) = search (rules, the_lemmas, fold_out-Expr, fold_out-ExprForm) in
    joined_2 (has c.args.reached.now g) (has c.mark_expr-in-Binary.new.reached g) (has c.mark_expr-in-Binary-2.new.reached g) a b all (search rules) (search rules) view

pub mark_expr-returns-in-Both-clause-marked : goal.mark_expr-returns-in-Both-clause-marked
mark_expr-returns-in-Both-clause-marked t c = λ g.
    let all : Bool = tree_calls g (expr_view c.args.e.now) in
    let a : Bool = tree_calls g (expr_view c.in-Both.a) in
    let b : Bool = tree_calls g (expr_view c.in-Both.b) in
    let view : all ≡ (a || b) = search (rules, the_lemmas, fold_out-Expr, fold_out-ExprForm) in
    joined_2 (has c.args.reached.now g) (has c.mark_expr-in-Both.new.reached g) (has c.mark_expr-in-Both-2.new.reached g) a b all (search rules) (search rules) view

pub mark_expr-returns-in-Either-clause-marked : goal.mark_expr-returns-in-Either-clause-marked
mark_expr-returns-in-Either-clause-marked t c = λ g.
    let all : Bool = tree_calls g (expr_view c.args.e.now) in
    let a : Bool = tree_calls g (expr_view c.in-Either.a) in
    let b : Bool = tree_calls g (expr_view c.in-Either.b) in
    let view : all ≡ (a || b) = search (rules, the_lemmas, fold_out-Expr, fold_out-ExprForm) in
    joined_2 (has c.args.reached.now g) (has c.mark_expr-in-Either.new.reached g) (has c.mark_expr-in-Either-2.new.reached g) a b all (search rules) (search rules) view

pub mark_expr-returns-in-Choose-clause-marked : goal.mark_expr-returns-in-Choose-clause-marked
mark_expr-returns-in-Choose-clause-marked t c = λ g.
    let all : Bool = tree_calls g (expr_view c.args.e.now) in
    let a : Bool = tree_calls g (expr_view c.in-Choose.a) in
    let b : Bool = tree_calls g (expr_view c.in-Choose.b) in
    let d : Bool = tree_calls g (expr_view c.in-Choose.c) in
    let view : all ≡ (a || (b || d)) = search (rules, the_lemmas, fold_out-Expr, fold_out-ExprForm) in
    joined_3 (has c.args.reached.now g) (has c.mark_expr-in-Choose.new.reached g) (has c.mark_expr-in-Choose-2.new.reached g) (has c.mark_expr-in-Choose-3.new.reached g) a b d all (search rules) (search rules) (search rules) view
