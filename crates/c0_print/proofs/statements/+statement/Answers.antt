-- What is answered by hand of the proofs of the cycle `statement`.
use Rattle.std.proofs.Common.{◌≡◌, ℕ, List, ◌++◌, map, sym, ap, ◌∙◌, rules}
use Rattle.std.specs.Prelude.{codes}
use Rattle.std.specs.Option.{option_map}
use Rattle.parsed_tree.specs.declared.statements.Stmt.TheViews.{the_lemmas}
use Rattle.parsed_tree.specs.declared.statements.Stmt.TheFolds.{fold_out-Stmt}
use Rattle.parsed_tree.specs.Tree.{StmtTree, StmtTrees, if_stmt, while_stmt, for_stmt}
use Rattle.parsed_tree.specs.Views.{expr_view, simple_view, invariants_view, stmt_view, stmts_in}
use Rattle.c0_grammar.specs.Texts.{tree_option}
use Rattle.c0_layout.specs.Lists.{all_text}
use Rattle.c0_layout.specs.Layout.{invariants_text, test_text, for_text, line_text}
use Rattle.c0_print.specs.Printing.{written, invariants_of, simple_of, line_of, else_text}
use Rattle.c0_print.proofs.Joins.{else_joined}
use Rattle.c0_print.proofs.Pushes.{joined_3}
use Rattle.c0_print.proofs.statements.+statement.Goals as goal

pub push_stmt-returns-in_ok-push_stmt-in-If : goal.push_stmt-returns-in_ok-push_stmt-in-If
push_stmt-returns-in_ok-push_stmt-in-If t c =
    let no : StmtTrees = stmts_in (option_map stmt_view c.in-If.no) in
    let seen : stmt_view c.args.statement.now ≡ if_stmt c.in-If.place (expr_view c.in-If.test) (stmt_view c.in-If.yes) no = search (rules, the_lemmas, fold_out-Stmt) in
    let a : List ℕ = test_text (codes "if") (written (expr_view c.in-If.test)) in
    let b : List ℕ = line_text (line_of (stmt_view c.in-If.yes)) in
    let all : List ℕ = line_text (line_of (stmt_view c.args.statement.now)) in
    let view : all ≡ a ++ (b ++ else_text no) = ap (λ s. line_text (line_of s)) seen ∙ sym (else_joined c.in-If.place (expr_view c.in-If.test) (stmt_view c.in-If.yes) no) in
    joined_3 c.push_else.result c.push_else.new.text.items c.push_stmt.new.text.items c.push_test.new.text.items c.args.text.now.items a b (else_text no) all c.push_else.ensures (search rules) (search rules) view

pub push_stmt-returns-in_ok-push_invariants-in-While : goal.push_stmt-returns-in_ok-push_invariants-in-While
push_stmt-returns-in_ok-push_invariants-in-While t c =
    let seen : stmt_view c.args.statement.now ≡ while_stmt c.in-While.place (expr_view c.in-While.test) (map invariants_view c.in-While.invariants) (stmt_view c.in-While.body) = search (rules, the_lemmas, fold_out-Stmt) in
    let a : List ℕ = test_text (codes "while") (written (expr_view c.in-While.test)) in
    let b : List ℕ = all_text invariants_text (map invariants_of (map invariants_view c.in-While.invariants)) in
    let d : List ℕ = line_text (line_of (stmt_view c.in-While.body)) in
    let all : List ℕ = line_text (line_of (stmt_view c.args.statement.now)) in
    let view : all ≡ a ++ (b ++ d) = ap (λ s. line_text (line_of s)) seen in
    joined_3 c.push_stmt-in-While.result c.push_stmt-in-While.new.text.items c.push_invariants.new.text.items c.push_test-in-While.new.text.items c.args.text.now.items a b d all (search rules) (search rules) (search rules) view

pub push_stmt-returns-in_ok-push_invariants-in-For : goal.push_stmt-returns-in_ok-push_invariants-in-For
push_stmt-returns-in_ok-push_invariants-in-For t c =
    let seen : stmt_view c.args.statement.now ≡ for_stmt c.in-For.place (option_map simple_view c.in-For.first) (expr_view c.in-For.test) (option_map simple_view c.in-For.last) (map invariants_view c.in-For.invariants) (stmt_view c.in-For.body) = search (rules, the_lemmas, fold_out-Stmt) in
    let a : List ℕ = for_text (tree_option simple_of (option_map simple_view c.in-For.first)) (written (expr_view c.in-For.test)) (tree_option simple_of (option_map simple_view c.in-For.last)) in
    let b : List ℕ = all_text invariants_text (map invariants_of (map invariants_view c.in-For.invariants)) in
    let d : List ℕ = line_text (line_of (stmt_view c.in-For.body)) in
    let all : List ℕ = line_text (line_of (stmt_view c.args.statement.now)) in
    let view : all ≡ a ++ (b ++ d) = ap (λ s. line_text (line_of s)) seen in
    joined_3 c.push_stmt-in-For.result c.push_stmt-in-For.new.text.items c.push_invariants-in-For.new.text.items c.push_for.new.text.items c.args.text.now.items a b d all (search rules) (search rules) (search rules) view
