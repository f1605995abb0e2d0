use Rattle.std.proofs.Common.{rules, ◌≡◌, ◌+◌, List, [], ◌∷◌, Option, OnOk, drop, length, sym, subst}
use Rattle.std.specs.Option.{option_map}
use Rattle.gc0_tree.specs.declared.Stmt as made
use Rattle.gc0_tree.specs.declared.StmtForm.TheViews.{the_lemmas}
use Rattle.gc0_tree.specs.declared.StmtForm.TheFolds.{fold_out-Stmt, fold_out-StmtForm}
use Rattle.gc0_tree.specs.Tree.{Tree, Formula, Stmt, Stmts, stmt_and, if_at, while_at, for_at}
use Rattle.gc0_tree.specs.Views.{expr_view, formula_view, stmt_view, stmts_view, stmts_in}
use Rattle.core_tree.specs.CoreTree.{no_code}
use Rattle.core_tree.specs.CoreViews.{code_view}
use Rattle.lowering_laws.specs.Statements.{stmt_next, stmts_next, stmt_code, stmts_code}
use Rattle.lowering_laws.specs.Tables.{stmt_decisions, stmts_decisions, stmt_placed, stmts_placed}
use Rattle.core_expressions.specs.declared.written.Written.{Written}
use Rattle.core_expressions.specs.Writing.{program_of, function_of, places_of, target_of}
use Rattle.core_lower.specs.Parts.{AreWritten, IsStmt, AreStmts}
use Rattle.core_lower.proofs.Choosing.{drop_at, drop_past}
use Rattle.core_lower.proofs.Joining.{then_so, nested}
use Rattle.core_lower.proofs.Forms.{Ahead, none, alone, one_more, at_last, if_done, while_done, for_done}
use Rattle.core_lower.proofs.statements.+statements.Goals as goal

pub lower_inner-returns-clause-written : goal.lower_inner-returns-clause-written
lower_inner-returns-clause-written t c =
    let w = c.args.within.now in
    let o = c.args.out.now in
    let s : Stmt = stmt_view c.args.s.now in
    nested o c.lower_stmt.new.out c.close.new.out c.open-outer.result (stmt_next (program_of w) (function_of w) (length o.decisions) s) (stmt_code (program_of w) (function_of w) (target_of w) (length o.decisions) s) (stmt_decisions (program_of w) (function_of w) (places_of w) s) (stmt_placed (places_of w) s)
    (subst (λ (x : Written). IsStmt w x c.lower_stmt.new.out s) c.open-outer.ensures.inner c.in_ok-lower_stmt.ensures)
    c.open-outer.ensures.outer c.close.ensures.outer

pub lower_inner_part-returns-clause-written : goal.lower_inner_part-returns-clause-written
lower_inner_part-returns-clause-written t c =
    let w = c.args.within.now in
    let o = c.args.out.now in
    let ss : Stmts = stmts_in (option_map stmt_view c.args.part.now) in
    nested o c.lower_part.new.out c.close.new.out c.open-outer.result (stmts_next (program_of w) (function_of w) (length o.decisions) ss) (stmts_code (program_of w) (function_of w) (target_of w) (length o.decisions) ss) (stmts_decisions (program_of w) (function_of w) (places_of w) ss) (stmts_placed (places_of w) ss)
    (subst (λ (x : Written). AreStmts w x c.lower_part.new.out ss) c.open-outer.ensures.inner c.in_ok-lower_part.ensures)
    c.open-outer.ensures.outer c.close.ensures.outer

pub lower_part-returns-in-None : goal.lower_part-returns-in-None
lower_part-returns-in-None t c =
    subst (λ (v : Option made.Stmt). AreStmts c.args.within.now c.args.out.now c.args.out.now (stmts_in (option_map stmt_view v))) (sym c.in-None.is)
    (none c.args.within.now c.args.out.now)

pub lower_part-returns-in-Some : goal.lower_part-returns-in-Some
lower_part-returns-in-Some t c =
    let w = c.args.within.now in
    let o = c.args.out.now in
    let one : OnOk c.lower_stmt.result (IsStmt w o c.lower_stmt.new.out (stmt_view c.in-Some.s)) = search rules in
    subst (λ (v : Option made.Stmt). OnOk c.lower_stmt.result (AreStmts w o c.lower_stmt.new.out (stmts_in (option_map stmt_view v)))) (sym c.in-Some.is)
    (then_so c.lower_stmt.result one (alone w o c.lower_stmt.new.out (stmt_view c.in-Some.s)))

pub lower_stmt-returns-in_ok-those-in-If : goal.lower_stmt-returns-in_ok-those-in-If
lower_stmt-returns-in_ok-those-in-If t c =
    let w = c.args.within.now in
    let o = c.args.out.now in
    let o1 = c.lower_condition.new.out in
    let o2 = c.lower_inner.new.out in
    let place = c.args.s.now.place in
    let e : Tree = expr_view c.in-If.condition in
    let a : Stmt = stmt_view c.in-If.yes in
    let b : Stmts = stmts_in (option_map stmt_view c.in-If.no) in
    let view : stmt_view c.args.s.now ≡ if_at place e a b = search (rules, the_lemmas, fold_out-Stmt, fold_out-StmtForm) in
    let code : code_view c.in_ok-these-in-If.these ≡ stmt_code (program_of w) (function_of w) (target_of w) (length o1.decisions) a = search rules in
    let written : AreWritten o1 o2 (stmt_next (program_of w) (function_of w) (length o1.decisions) a) no_code (stmt_decisions (program_of w) (function_of w) (places_of w) a) (stmt_placed (places_of w) a) = search rules in
    subst (λ (v : Stmt). OnOk c.close_if.result (IsStmt w o c.close_if.new.out v)) (sym view)
    (then_so c.close_if.result c.close_if.ensures
    (if_done w o o1 o2 c.lower_inner_part.new.out c.close_if.new.out c.in_ok-test-in-If.test c.in_ok-these-in-If.these c.in_ok-those-in-If.those place e a b
    c.in_ok-test-in-If.ensures.test c.in_ok-test-in-If.ensures.written code written c.in_ok-those-in-If.ensures.code c.in_ok-those-in-If.ensures.written))

pub lower_stmt-returns-in_ok-turn-in-While : goal.lower_stmt-returns-in_ok-turn-in-While
lower_stmt-returns-in_ok-turn-in-While t c =
    let w = c.args.within.now in
    let o = c.args.out.now in
    let o1 = c.lower_head.new.out in
    let o2 = c.lower_inner-in-While.new.out in
    let place = c.args.s.now.place in
    let inv : Formula = formula_view c.in-While.invariant in
    let e : Tree = expr_view c.in-While.test in
    let a : Stmt = stmt_view c.in-While.body in
    let view : stmt_view c.args.s.now ≡ while_at place inv e a = search (rules, the_lemmas, fold_out-Stmt, fold_out-StmtForm) in
    let code : code_view c.in_ok-turn-in-While.turn ≡ stmt_code (program_of w) (function_of w) (target_of w) (length o1.decisions) a = search rules in
    let written : AreWritten o1 o2 (stmt_next (program_of w) (function_of w) (length o1.decisions) a) no_code (stmt_decisions (program_of w) (function_of w) (places_of w) a) (stmt_placed (places_of w) a) = search rules in
    subst (λ (v : Stmt). OnOk c.close_loop.result (IsStmt w o c.close_loop.new.out v)) (sym view)
    (then_so c.close_loop.result c.close_loop.ensures
    (while_done w o o1 o2 c.close_loop.new.out c.in_ok-head-in-While.head c.in_ok-turn-in-While.turn place inv e a
    c.in_ok-head-in-While.ensures.head c.in_ok-head-in-While.ensures.written code written))

pub lower_stmt-returns-in_ok-lower_part-in-For-2 : goal.lower_stmt-returns-in_ok-lower_part-in-For-2
lower_stmt-returns-in_ok-lower_part-in-For-2 t c =
    let w = c.args.within.now in
    let o = c.args.out.now in
    let place = c.args.s.now.place in
    let first : Stmts = stmts_in (option_map stmt_view c.in-For.first) in
    let e : Tree = expr_view c.in-For.test in
    let last : Stmts = stmts_in (option_map stmt_view c.in-For.last) in
    let inv : Formula = formula_view c.in-For.invariant in
    let a : Stmt = stmt_view c.in-For.body in
    let r = c.close_loop-in-For.result in
    let o5 = c.close_loop-in-For.new.out in
    let view : stmt_view c.args.s.now ≡ for_at place first e last inv a = search (rules, the_lemmas, fold_out-Stmt, fold_out-StmtForm) in
    let body : IsStmt w c.open-outer.new.out c.lower_stmt.new.out a = search rules in
    subst (λ (v : Stmt). OnOk r (IsStmt w o o5 v)) (sym view)
    (then_so r c.close_loop-in-For.ensures
    (for_done w o c.lower_part.new.out c.lower_head-in-For.new.out c.open-outer.new.out c.lower_stmt.new.out c.lower_part-in-For.new.out c.close-turn.new.out o5
    c.in_ok-head-in-For.head c.close-turn.result c.open-outer.result place first e last inv a
    c.in_ok-lower_part-in-For.ensures c.in_ok-head-in-For.ensures.head c.in_ok-head-in-For.ensures.written
    c.open-outer.ensures.outer c.open-outer.ensures.inner body c.in_ok-lower_part-in-For-2.ensures c.close-turn.ensures.inner c.close-turn.ensures.outer))

pub lower_stmts-loop-s-preserved : goal.lower_stmts-loop-s-preserved
lower_stmts-loop-s-preserved t c =
    let w = c.args.within.now in
    let o = c.args.out.now in
    let ss = c.args.ss.now in
    let i = c.loop-s.s-index in
    let s = c.s-item.result in
    let e : drop i ss ≡ s ∷ drop (i + 1) ss = drop_at ss i s c.loop-s-test.true c.s-item.is in
    let h : Ahead w o c.loop-s.out (stmt_and (stmt_view s) (stmts_view (drop (i + 1) ss))) (stmts_view ss) =
    subst (λ (l : List made.Stmt). Ahead w o c.loop-s.out (stmts_view l) (stmts_view ss)) e c.loop-s.invariant in
    one_more w o c.loop-s.out c.lower_stmt.new.out (stmt_view s) (stmts_view (drop (i + 1) ss)) (stmts_view ss) h c.in_ok-lower_stmt.ensures

pub lower_stmts-returns : goal.lower_stmts-returns
lower_stmts-returns t c =
    let w = c.args.within.now in
    let o = c.args.out.now in
    let ss = c.args.ss.now in
    let e : drop c.loop-s.s-index ss ≡ [] = drop_past ss c.loop-s.s-index c.loop-s-test.false in
    at_last w o c.loop-s.out (stmts_view ss) (subst (λ (l : List made.Stmt). Ahead w o c.loop-s.out (stmts_view l) (stmts_view ss)) e c.loop-s.invariant)
