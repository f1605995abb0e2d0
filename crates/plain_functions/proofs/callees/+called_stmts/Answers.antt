use Rattle.std.proofs.Common.{◌≡◌, ◌||◌, Bool, rules}
use Rattle.std.proofs.lemmas.Result.{on_ok_weaker}
use Rattle.std.specs.Option.{option_map}
use Rattle.gc0_tree.specs.Views.{expr_view, stmt_view, stmts_in}
use Rattle.gc0_tree.specs.declared.StmtForm.TheViews.{the_lemmas}
use Rattle.gc0_tree.specs.declared.StmtForm.TheFolds.{fold_out-Stmt, fold_out-StmtForm}
use Rattle.c0_meaning.specs.Precision.{tree_calls, stmt_calls, stmts_call}
use Rattle.plain_functions.specs.Callers.{among}
use Rattle.plain_functions.proofs.Among.{joined_2, joined_3, joined_4}
use Rattle.plain_functions.proofs.callees.+called_stmts.Goals as goal

pub add_stmt-returns-in_ok-add_expr-in-Write : goal.add_stmt-returns-in_ok-add_expr-in-Write
add_stmt-returns-in_ok-add_expr-in-Write t c =
    on_ok_weaker c.add_expr-in-Write-2.result (λ end g.
    let a : Bool = tree_calls g (expr_view c.in-Write.base) in
    let b : Bool = tree_calls g (expr_view c.in-Write.value) in
    let all : Bool = stmt_calls g (stmt_view c.args.s.now) in
    let view : all ≡ (a || b) = search (rules, the_lemmas, fold_out-Stmt, fold_out-StmtForm) in
    let h0 : among g c.add_expr-in-Write.new.callees ≡ (among g c.args.callees.now || a) = search rules in
    let h1 : among g c.add_expr-in-Write-2.new.callees ≡ (among g c.add_expr-in-Write.new.callees || b) = search (rules, end) in
    joined_2 (among g c.args.callees.now) (among g c.add_expr-in-Write.new.callees) (among g c.add_expr-in-Write-2.new.callees) a b all h0 h1 view)
    c.add_expr-in-Write-2.ensures

pub add_stmt-returns-in_ok-add_stmt-in-If : goal.add_stmt-returns-in_ok-add_stmt-in-If
add_stmt-returns-in_ok-add_stmt-in-If t c =
    on_ok_weaker c.add_part.result (λ end g.
    let a : Bool = tree_calls g (expr_view c.in-If.condition) in
    let b : Bool = stmt_calls g (stmt_view c.in-If.yes) in
    let d : Bool = stmts_call g (stmts_in (option_map stmt_view c.in-If.no)) in
    let all : Bool = stmt_calls g (stmt_view c.args.s.now) in
    let view : all ≡ (a || (b || d)) = search (rules, the_lemmas, fold_out-Stmt, fold_out-StmtForm) in
    let h0 : among g c.add_expr-in-If.new.callees ≡ (among g c.args.callees.now || a) = search rules in
    let h1 : among g c.add_stmt.new.callees ≡ (among g c.add_expr-in-If.new.callees || b) = search rules in
    let h2 : among g c.add_part.new.callees ≡ (among g c.add_stmt.new.callees || d) = search (rules, end) in
    joined_3 (among g c.args.callees.now) (among g c.add_expr-in-If.new.callees) (among g c.add_stmt.new.callees) (among g c.add_part.new.callees) a b d all h0 h1 h2 view)
    c.add_part.ensures

pub add_stmt-returns-in_ok-add_part-in-For-2 : goal.add_stmt-returns-in_ok-add_part-in-For-2
add_stmt-returns-in_ok-add_part-in-For-2 t c =
    on_ok_weaker c.add_stmt-in-For.result (λ end g.
    let a : Bool = stmts_call g (stmts_in (option_map stmt_view c.in-For.first)) in
    let b : Bool = tree_calls g (expr_view c.in-For.test) in
    let d : Bool = stmts_call g (stmts_in (option_map stmt_view c.in-For.last)) in
    let e : Bool = stmt_calls g (stmt_view c.in-For.body) in
    let all : Bool = stmt_calls g (stmt_view c.args.s.now) in
    let view : all ≡ (a || (b || (d || e))) = search (rules, the_lemmas, fold_out-Stmt, fold_out-StmtForm) in
    let h0 : among g c.add_part-in-For.new.callees ≡ (among g c.args.callees.now || a) = search rules in
    let h1 : among g c.add_expr-in-For.new.callees ≡ (among g c.add_part-in-For.new.callees || b) = search rules in
    let h2 : among g c.add_part-in-For-2.new.callees ≡ (among g c.add_expr-in-For.new.callees || d) = search rules in
    let h3 : among g c.add_stmt-in-For.new.callees ≡ (among g c.add_part-in-For-2.new.callees || e) = search (rules, end) in
    joined_4 (among g c.args.callees.now) (among g c.add_part-in-For.new.callees) (among g c.add_expr-in-For.new.callees) (among g c.add_part-in-For-2.new.callees) (among g c.add_stmt-in-For.new.callees) a b d e all h0 h1 h2 h3 view)
    c.add_stmt-in-For.ensures
