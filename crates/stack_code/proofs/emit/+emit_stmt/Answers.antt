use Rattle.std.proofs.Common.{◌≡◌, ℕ, rules, List, ◌++◌, ap, sym, ◌∙◌, length}
use Rattle.std.specs.Option.{option_map}
use Rattle.gc0_base.specs.declared.site.Kind.TheVariants as kind
use Rattle.gc0_tree.specs.declared.StmtForm.TheViews.{the_lemmas}
use Rattle.gc0_tree.specs.declared.StmtForm.TheFolds.{fold_out-Stmt, fold_out-StmtForm}
use Rattle.gc0_tree.specs.Tree.{if_at, while_at, Tree, Stmt, Stmts}
use Rattle.gc0_tree.specs.Views.{expr_view, stmt_view, stmts_in, formula_view}
use Rattle.stack_code.specs.Instrs as instr
use Rattle.stack_code.specs.Instrs.{Instr}
use Rattle.stack_code.specs.Coding.{tree_code, stmt_code}
use Rattle.stack_code.specs.Within.{program_of, function_of, places_of, shown}
use Rattle.stack_code.proofs.Written.{on_ok, if_is, if_written, while_written}
use Rattle.stack_code.proofs.emit.+emit_stmt.Goals as goal

pub emit_stmt-returns-in_ok-emit_stmt-in-If : goal.emit_stmt-returns-in_ok-emit_stmt-in-If
emit_stmt-returns-in_ok-emit_stmt-in-If t c =
    let w = c.args.within.now in
    let c0 : List Instr = shown c.args.code.now in
    let coded : Stmt → List Instr = λ s. stmt_code (program_of w) (function_of w) (places_of w) (length c0) s in
    let test : Tree = expr_view c.in-If.condition in
    let b : Stmts = stmts_in (option_map stmt_view c.in-If.no) in
    let A : ℕ → List Instr = λ n. stmt_code (program_of w) (function_of w) (places_of w) n (stmt_view c.in-If.yes) in
    let view : stmt_view c.args.s.now ≡ if_at c.args.s.now.place test (stmt_view c.in-If.yes) b = search (rules, the_lemmas, fold_out-Stmt, fold_out-StmtForm) in
    let body : shown c.emit_stmt.new.code ≡ shown c.emit_test.new.code ++ A (length (shown c.emit_test.new.code)) = search rules in
    on_ok c.emit_else.result
    (λ last. if_written w c0 (tree_code (program_of w) (places_of w) test) (shown c.emit_test.new.code) (shown c.emit_stmt.new.code) (shown c.emit_else.new.code) A b c.in_ok-hole-in-If.hole c.in_ok-hole-in-If.ensures.hole c.in_ok-hole-in-If.ensures.code body last
    ∙ ap (λ l. c0 ++ l) (sym (ap coded view ∙ if_is w (length c0) c.args.s.now.place test (stmt_view c.in-If.yes) b)))
    c.emit_else.ensures

pub emit_stmt-returns-in_ok-emit_stmt-in-While : goal.emit_stmt-returns-in_ok-emit_stmt-in-While
emit_stmt-returns-in_ok-emit_stmt-in-While t c =
    let w = c.args.within.now in
    let c0 : List Instr = shown c.args.code.now in
    let coded : Stmt → List Instr = λ s. stmt_code (program_of w) (function_of w) (places_of w) (length c0) s in
    let test : Tree = expr_view c.in-While.test in
    let A : ℕ → List Instr = λ n. stmt_code (program_of w) (function_of w) (places_of w) n (stmt_view c.in-While.body) in
    let inv = formula_view c.in-While.invariant in
    let entry : Instr = instr.checkwhole (places_of w kind.Entry c.args.s.now.place) inv instr.locals in
    let again : Instr = instr.checkwhole (places_of w kind.Again c.args.s.now.place) inv instr.locals in
    let view : stmt_view c.args.s.now ≡ while_at c.args.s.now.place inv test (stmt_view c.in-While.body) = search (rules, the_lemmas, fold_out-Stmt, fold_out-StmtForm) in
    let body : shown c.emit_stmt-in-While.new.code ≡ shown c.emit_test-in-While.new.code ++ A (length (shown c.emit_test-in-While.new.code)) = search rules in
    on_ok c.emit_back.result
    (λ last. while_written c0 (tree_code (program_of w) (places_of w) test) (shown c.emit_head.new.code) (shown c.emit_test-in-While.new.code) (shown c.emit_stmt-in-While.new.code) (shown c.emit_back.new.code) entry again A c.len-from.result c.in_ok-hole-in-While.hole
    c.in_ok-emit_head-in-While.ensures c.len-from.ensures c.in_ok-hole-in-While.ensures.hole c.in_ok-hole-in-While.ensures.code body last
    ∙ ap (λ l. c0 ++ l) (sym (ap coded view)))
    c.emit_back.ensures
