-- What is answered by hand of the proofs of the cycle `count_stmts`.
use Rattle.std.proofs.Common.{◌≡◌, rules}
use Rattle.std.specs.Option.{option_map}
use Rattle.std.proofs.lemmas.Result.{on_ok_weaker}
use Rattle.gc0_tree.specs.Tree.{Tree, Formula, Stmt, if_at, for_at, Stmts, Program}
use Rattle.gc0_tree.specs.Fits.{Room}
use Rattle.gc0_tree.specs.Views.{expr_view, stmt_view, stmts_in, formula_view, function_view, program_view}
use Rattle.gc0_tree.specs.declared.StmtForm.TheViews.{the_lemmas}
use Rattle.gc0_tree.specs.declared.StmtForm.TheFolds.{fold_out-Stmt, fold_out-StmtForm}
use Rattle.lowering_laws.specs.Statements.{room_of}
use Rattle.temp_counts.proofs.StmtForms.{Tested, UsedIn, AllUsedIn, if_used, for_used}
use Rattle.temp_counts.proofs.statements.+count_stmts.Goals as goal

pub count_stmt-returns-in_ok-count_stmt-in-If : goal.count_stmt-returns-in_ok-count_stmt-in-If
count_stmt-returns-in_ok-count_stmt-in-If t c =
    let p : Program = program_view c.args.program.now in
    let r : Room = room_of (function_view c.args.function.now) in
    let e : Tree = expr_view c.in-If.condition in
    let a : Stmt = stmt_view c.in-If.yes in
    let b : Stmts = stmts_in (option_map stmt_view c.in-If.no) in
    let view : stmt_view c.args.s.now ≡ if_at c.args.s.now.place e a b = search (rules, the_lemmas, fold_out-Stmt, fold_out-StmtForm) in
    let first : Tested p r c.args.tally.now c.count_alone-in-If.new.tally e = search rules in
    let second : UsedIn p r c.count_alone-in-If.new.tally c.count_stmt.new.tally a = search rules in
    on_ok_weaker c.count_part.result
    (λ third. if_used p r c.args.tally.now c.count_alone-in-If.new.tally c.count_stmt.new.tally _ c.count_part.new.tally c.args.s.now.place e a b view first second third)
    c.count_part.ensures

pub count_stmt-returns-in_ok-count_stmt-in-For : goal.count_stmt-returns-in_ok-count_stmt-in-For
count_stmt-returns-in_ok-count_stmt-in-For t c =
    let p : Program = program_view c.args.program.now in
    let r : Room = room_of (function_view c.args.function.now) in
    let a : Stmts = stmts_in (option_map stmt_view c.in-For.first) in
    let e : Tree = expr_view c.in-For.test in
    let b : Stmts = stmts_in (option_map stmt_view c.in-For.last) in
    let d : Stmt = stmt_view c.in-For.body in
    let inv : Formula = formula_view c.in-For.invariant in
    let view : stmt_view c.args.s.now ≡ for_at c.args.s.now.place a e b inv d = search (rules, the_lemmas, fold_out-Stmt, fold_out-StmtForm) in
    let first : AllUsedIn p r c.args.tally.now c.count_part-in-For.new.tally a = search rules in
    let second : Tested p r c.count_part-in-For.new.tally c.count_alone-in-For.new.tally e = search rules in
    let third : UsedIn p r c.count_alone-in-For.new.tally c.count_stmt-in-For.new.tally d = search rules in
    on_ok_weaker c.count_part-in-For-2.result
    (λ fourth. for_used p r c.args.tally.now c.count_part-in-For.new.tally c.count_alone-in-For.new.tally _ c.count_stmt-in-For.new.tally c.count_part-in-For-2.new.tally c.args.s.now.place a e b inv d view first second third fourth)
    c.count_part-in-For-2.ensures
