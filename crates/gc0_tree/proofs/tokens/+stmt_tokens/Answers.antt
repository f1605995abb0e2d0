use Rattle.std.proofs.Common.{◌≡◌, rules, List, ◌++◌}
use Rattle.std.specs.Option.{option_map}
use Rattle.gc0_base.specs.declared.place.Place.{Place}
use Rattle.gc0_tree.specs.Sites.{token_if, is_head, tree_tokens, stmt_tokens, stmts_tokens}
use Rattle.gc0_tree.specs.Views.{expr_view, stmt_view, stmts_in}
use Rattle.gc0_tree.specs.declared.StmtForm.TheViews.{the_lemmas}
use Rattle.gc0_tree.specs.declared.StmtForm.TheFolds.{fold_out-Stmt, fold_out-StmtForm}
use Rattle.gc0_tree.proofs.Joins.{joined_2, joined_3, joined_5}
use Rattle.gc0_tree.proofs.tokens.+stmt_tokens.Goals as goal

pub push_stmt-returns-in_ok-push_stmt-in-If : goal.push_stmt-returns-in_ok-push_stmt-in-If
push_stmt-returns-in_ok-push_stmt-in-If t c =
    let a : List Place = tree_tokens c.args.kind (expr_view c.in-If.condition) in
    let b : List Place = stmt_tokens c.args.kind (stmt_view c.in-If.yes) in
    let d : List Place = stmts_tokens c.args.kind (stmts_in (option_map stmt_view c.in-If.no)) in
    let all : List Place = stmt_tokens c.args.kind (stmt_view c.args.s.now) in
    let view : all ≡ a ++ (b ++ d) = search (rules, the_lemmas, fold_out-Stmt, fold_out-StmtForm) in
    joined_3 c.push_part.result c.push_part.new.places.items c.push_stmt.new.places.items c.push_expr-in-If.new.places.items c.args.places.now.items a b d all c.push_part.ensures (search rules) (search rules) view

pub push_stmt-returns-in_ok-push_head-in-While : goal.push_stmt-returns-in_ok-push_head-in-While
push_stmt-returns-in_ok-push_head-in-While t c =
    let a : List Place = token_if (is_head c.args.kind) c.args.s.now.place ++ tree_tokens c.args.kind (expr_view c.in-While.test) in
    let b : List Place = stmt_tokens c.args.kind (stmt_view c.in-While.body) in
    let all : List Place = stmt_tokens c.args.kind (stmt_view c.args.s.now) in
    let view : all ≡ a ++ b = search (rules, the_lemmas, fold_out-Stmt, fold_out-StmtForm) in
    joined_2 c.push_stmt-in-While.result c.push_stmt-in-While.new.places.items c.push_head.new.places.items c.args.places.now.items a b all (search rules) (search rules) view

pub push_stmt-returns-in_ok-push_part-in-For-2 : goal.push_stmt-returns-in_ok-push_part-in-For-2
push_stmt-returns-in_ok-push_part-in-For-2 t c =
    let a : List Place = token_if (is_head c.args.kind) c.args.s.now.place in
    let b : List Place = stmts_tokens c.args.kind (stmts_in (option_map stmt_view c.in-For.first)) in
    let d : List Place = tree_tokens c.args.kind (expr_view c.in-For.test) in
    let e : List Place = stmts_tokens c.args.kind (stmts_in (option_map stmt_view c.in-For.last)) in
    let f : List Place = stmt_tokens c.args.kind (stmt_view c.in-For.body) in
    let all : List Place = stmt_tokens c.args.kind (stmt_view c.args.s.now) in
    let view : all ≡ a ++ (b ++ (d ++ (e ++ f))) = search (rules, the_lemmas, fold_out-Stmt, fold_out-StmtForm) in
    joined_5 c.push_stmt-in-For.result c.push_stmt-in-For.new.places.items c.push_part-in-For-2.new.places.items c.push_expr-in-For.new.places.items c.push_part-in-For.new.places.items c.push_if.new.places.items c.args.places.now.items a b d e f all (search rules) (search rules) (search rules) (search rules) (search rules) view
