use Rattle.std.proofs.Common.{◌≡◌, ◌||◌, Bool, rules}
use Rattle.std.specs.Option.{option_map}
use Rattle.gc0_tree.specs.Views.{expr_view, stmt_view, stmts_in}
use Rattle.gc0_tree.specs.declared.StmtForm.TheViews.{the_lemmas}
use Rattle.gc0_tree.specs.declared.StmtForm.TheFolds.{fold_out-Stmt, fold_out-StmtForm}
use Rattle.c0_meaning.specs.Precision.{tree_calls, stmt_calls, stmts_call}
use Rattle.c0_meaning.specs.Marking.{has}
use Rattle.c0_meaning.proofs.Marked.{joined_2, joined_3, joined_4}
use Rattle.c0_meaning.proofs.plain.+called_stmts.Goals as goal

pub mark_stmt-returns-in-Write-clause-marked : goal.mark_stmt-returns-in-Write-clause-marked
mark_stmt-returns-in-Write-clause-marked t c = λ g.
    let all : Bool = stmt_calls g (stmt_view c.args.s.now) in
    let a : Bool = tree_calls g (expr_view c.in-Write.base) in
    let b : Bool = tree_calls g (expr_view c.in-Write.value) in
    let view : all ≡ (a || b) = search (rules, the_lemmas, fold_out-Stmt, fold_out-StmtForm) in
    joined_2 (has c.args.reached.now g) (has c.mark_expr-in-Write.new.reached g) (has c.mark_expr-in-Write-2.new.reached g) a b all (search rules) (search rules) view

pub mark_stmt-returns-in-If-clause-marked : goal.mark_stmt-returns-in-If-clause-marked
mark_stmt-returns-in-If-clause-marked t c = λ g.
    let all : Bool = stmt_calls g (stmt_view c.args.s.now) in
    let a : Bool = tree_calls g (expr_view c.in-If.condition) in
    let b : Bool = stmt_calls g (stmt_view c.in-If.yes) in
    let d : Bool = stmts_call g (stmts_in (option_map stmt_view c.in-If.no)) in
    let view : all ≡ (a || (b || d)) = search (rules, the_lemmas, fold_out-Stmt, fold_out-StmtForm) in
    joined_3 (has c.args.reached.now g) (has c.mark_expr-in-If.new.reached g) (has c.mark_stmt.new.reached g) (has c.mark_part.new.reached g) a b d all (search rules) (search rules) (search rules) view

pub mark_stmt-returns-in-While-clause-marked : goal.mark_stmt-returns-in-While-clause-marked
mark_stmt-returns-in-While-clause-marked t c = λ g.
    let all : Bool = stmt_calls g (stmt_view c.args.s.now) in
    let a : Bool = tree_calls g (expr_view c.in-While.test) in
    let b : Bool = stmt_calls g (stmt_view c.in-While.body) in
    let view : all ≡ (a || b) = search (rules, the_lemmas, fold_out-Stmt, fold_out-StmtForm) in
    joined_2 (has c.args.reached.now g) (has c.mark_expr-in-While.new.reached g) (has c.mark_stmt-in-While.new.reached g) a b all (search rules) (search rules) view

pub mark_stmt-returns-in-For-clause-marked : goal.mark_stmt-returns-in-For-clause-marked
mark_stmt-returns-in-For-clause-marked t c = λ g.
    let all : Bool = stmt_calls g (stmt_view c.args.s.now) in
    let a : Bool = stmts_call g (stmts_in (option_map stmt_view c.in-For.first)) in
    let b : Bool = tree_calls g (expr_view c.in-For.test) in
    let d : Bool = stmts_call g (stmts_in (option_map stmt_view c.in-For.last)) in
    let e : Bool = stmt_calls g (stmt_view c.in-For.body) in
    let view : all ≡ (a || (b || (d || e))) = search (rules, the_lemmas, fold_out-Stmt, fold_out-StmtForm) in
    joined_4 (has c.args.reached.now g) (has c.mark_part-in-For.new.reached g) (has c.mark_expr-in-For.new.reached g) (has c.mark_part-in-For-2.new.reached g) (has c.mark_stmt-in-For.new.reached g) a b d e all (search rules) (search rules) (search rules) (search rules) view
