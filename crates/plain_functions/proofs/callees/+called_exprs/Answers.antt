use Rattle.std.proofs.Common.{◌≡◌, ◌||◌, Bool, rules}
use Rattle.std.proofs.lemmas.Result.{on_ok_weaker}
use Rattle.gc0_tree.specs.Views.{expr_view}
use Rattle.gc0_tree.specs.declared.ExprForm.TheViews.{the_lemmas}
use Rattle.gc0_tree.specs.declared.ExprForm.TheFolds.{fold_out-Expr, fold_out-ExprForm}
use Rattle.c0_meaning.specs.Precision.{tree_calls}
use Rattle.plain_functions.specs.Callers.{among}
use Rattle.plain_functions.proofs.Among.{joined_2, joined_3}
use Rattle.plain_functions.proofs.callees.+called_exprs.Goals as goal

pub add_expr-returns-in_ok-add_expr-in-Binary : goal.add_expr-returns-in_ok-add_expr-in-Binary
add_expr-returns-in_ok-add_expr-in-Binary t c =
    on_ok_weaker c.add_expr-in-Binary-2.result (λ end g.
    let a : Bool = tree_calls g (expr_view c.in-Binary.a) in
    let b : Bool = tree_calls g (expr_view c.in-Binary.b) in
    let all : Bool = tree_calls g (expr_view c.args.e.now) in
    let view : all ≡ (a || b) = search (rules, the_lemmas, fold_out-Expr, fold_out-ExprForm) in
    let h0 : among g c.add_expr-in-Binary.new.callees ≡ (among g c.args.callees.now || a) = search rules in
    let h1 : among g c.add_expr-in-Binary-2.new.callees ≡ (among g c.add_expr-in-Binary.new.callees || b) = search (rules, end) in
    joined_2 (among g c.args.callees.now) (among g c.add_expr-in-Binary.new.callees) (among g c.add_expr-in-Binary-2.new.callees) a b all h0 h1 view)
    c.add_expr-in-Binary-2.ensures

pub add_expr-returns-in_ok-add_expr-in-Both : goal.add_expr-returns-in_ok-add_expr-in-Both
add_expr-returns-in_ok-add_expr-in-Both t c =
    on_ok_weaker c.add_expr-in-Both-2.result (λ end g.
    let a : Bool = tree_calls g (expr_view c.in-Both.a) in
    let b : Bool = tree_calls g (expr_view c.in-Both.b) in
    let all : Bool = tree_calls g (expr_view c.args.e.now) in
    let view : all ≡ (a || b) = search (rules, the_lemmas, fold_out-Expr, fold_out-ExprForm) in
    let h0 : among g c.add_expr-in-Both.new.callees ≡ (among g c.args.callees.now || a) = search rules in
    let h1 : among g c.add_expr-in-Both-2.new.callees ≡ (among g c.add_expr-in-Both.new.callees || b) = search (rules, end) in
    joined_2 (among g c.args.callees.now) (among g c.add_expr-in-Both.new.callees) (among g c.add_expr-in-Both-2.new.callees) a b all h0 h1 view)
    c.add_expr-in-Both-2.ensures

pub add_expr-returns-in_ok-add_expr-in-Either : goal.add_expr-returns-in_ok-add_expr-in-Either
add_expr-returns-in_ok-add_expr-in-Either t c =
    on_ok_weaker c.add_expr-in-Either-2.result (λ end g.
    let a : Bool = tree_calls g (expr_view c.in-Either.a) in
    let b : Bool = tree_calls g (expr_view c.in-Either.b) in
    let all : Bool = tree_calls g (expr_view c.args.e.now) in
    let view : all ≡ (a || b) = search (rules, the_lemmas, fold_out-Expr, fold_out-ExprForm) in
    let h0 : among g c.add_expr-in-Either.new.callees ≡ (among g c.args.callees.now || a) = search rules in
    let h1 : among g c.add_expr-in-Either-2.new.callees ≡ (among g c.add_expr-in-Either.new.callees || b) = search (rules, end) in
    joined_2 (among g c.args.callees.now) (among g c.add_expr-in-Either.new.callees) (among g c.add_expr-in-Either-2.new.callees) a b all h0 h1 view)
    c.add_expr-in-Either-2.ensures

pub add_expr-returns-in_ok-add_expr-in-Choose-2 : goal.add_expr-returns-in_ok-add_expr-in-Choose-2
add_expr-returns-in_ok-add_expr-in-Choose-2 t c =
    on_ok_weaker c.add_expr-in-Choose-3.result (λ end g.
    let a : Bool = tree_calls g (expr_view c.in-Choose.a) in
    let b : Bool = tree_calls g (expr_view c.in-Choose.b) in
    let d : Bool = tree_calls g (expr_view c.in-Choose.c) in
    let all : Bool = tree_calls g (expr_view c.args.e.now) in
    let view : all ≡ (a || (b || d)) = search (rules, the_lemmas, fold_out-Expr, fold_out-ExprForm) in
    let h0 : among g c.add_expr-in-Choose.new.callees ≡ (among g c.args.callees.now || a) = search rules in
    let h1 : among g c.add_expr-in-Choose-2.new.callees ≡ (among g c.add_expr-in-Choose.new.callees || b) = search rules in
    let h2 : among g c.add_expr-in-Choose-3.new.callees ≡ (among g c.add_expr-in-Choose-2.new.callees || d) = search (rules, end) in
    joined_3 (among g c.args.callees.now) (among g c.add_expr-in-Choose.new.callees) (among g c.add_expr-in-Choose-2.new.callees) (among g c.add_expr-in-Choose-3.new.callees) a b d all h0 h1 h2 view)
    c.add_expr-in-Choose-3.ensures
