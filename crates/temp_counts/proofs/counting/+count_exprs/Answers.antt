-- What is answered by hand of the proofs of the cycle `count_exprs`.
use Rattle.std.proofs.Common.{◌≡◌, ◌+◌, rules, drop}
use Rattle.std.specs.Option.{option_map}
use Rattle.std.proofs.lemmas.Result.{on_ok_weaker}
use Rattle.gc0_tree.specs.Tree.{Tree, binary_at, both_at, either_at, choose_at, call_at, library_at, Trees, no_trees, tree_and, Program}
use Rattle.gc0_tree.specs.Fits.{Room}
use Rattle.gc0_tree.specs.Views.{expr_view, exprs_view, trees_in, function_view, program_view}
use Rattle.gc0_tree.specs.declared.ExprForm.TheViews.{the_lemmas}
use Rattle.gc0_tree.specs.declared.ExprForm.TheFolds.{fold_out-Expr, fold_out-ExprForm}
use Rattle.lowering_laws.specs.Counts.{tree_shape, chosen_shape, with_constant, args_counted, first_counted}
use Rattle.lowering_laws.specs.Statements.{room_of}
use Rattle.temp_counts.specs.Counting.{Counting}
use Rattle.temp_counts.proofs.Forms.{Tried, binary_counted, both_counted, either_counted, choose_counted, call_counted, library_counted, argument_counted, none_counted, next_argument, last_argument}
use Rattle.temp_counts.proofs.counting.+count_exprs.Goals as goal

pub count_arguments-loop-e-preserved : goal.count_arguments-loop-e-preserved
count_arguments-loop-e-preserved t c = λ new rest.
    let p : Program = program_view c.args.program.now in
    let r : Room = room_of (function_view c.args.function.now) in
    let e : Tree = expr_view c.e-item.result in
    let es : Trees = exprs_view (drop (c.loop-e.e-index + 1) c.args.es.now) in
    let view : exprs_view (drop c.loop-e.e-index c.args.es.now) ≡ tree_and e es = next_argument c.args.es.now c.loop-e.e-index c.e-item.result c.loop-e-test.true c.e-item.is in
    let first : Tried p r c.loop-e.tally c.count_expr.new.tally e = search rules in
    let shape : c.in_ok-shape.shape ≡ tree_shape p r e = search rules in
    let held : Counting c.count_expr.new.tally c.hold_constant.new.tally (with_constant c.is_constant.result c.in_ok-shape.shape) = search rules in
    c.loop-e.invariant new (argument_counted p r c.loop-e.tally c.count_expr.new.tally c.hold_constant.new.tally e new c.is_constant.result c.in_ok-shape.shape es _ view c.is_constant.ensures shape first held rest)

pub count_arguments-returns : goal.count_arguments-returns
count_arguments-returns t c =
    let p : Program = program_view c.args.program.now in
    let r : Room = room_of (function_view c.args.function.now) in
    let view : exprs_view (drop c.loop-e.e-index c.args.es.now) ≡ no_trees = last_argument c.args.es.now c.loop-e.e-index c.loop-e-test.false in
    c.loop-e.invariant c.loop-e.tally (none_counted p r c.loop-e.tally _ view)

pub count_expr-returns-in_ok-count_expr-in-Binary-2-clause-counting :
    goal.count_expr-returns-in_ok-count_expr-in-Binary-2-clause-counting
count_expr-returns-in_ok-count_expr-in-Binary-2-clause-counting t c =
    let p : Program = program_view c.args.program.now in
    let r : Room = room_of (function_view c.args.function.now) in
    let a : Tree = expr_view c.in-Binary.a in
    let b : Tree = expr_view c.in-Binary.b in
    let view : expr_view c.args.e.now ≡ binary_at c.args.e.now.place c.in-Binary.op a b = search (rules, the_lemmas, fold_out-Expr, fold_out-ExprForm) in
    let first : Tried p r c.args.tally.now c.count_expr-in-Binary.new.tally a = search rules in
    let second : Tried p r c.count_expr-in-Binary.new.tally c.count_expr-in-Binary-2.new.tally b = search rules in
    on_ok_weaker c.hold-in-Binary.result
    (λ third. binary_counted p r c.args.tally.now c.count_expr-in-Binary.new.tally c.count_expr-in-Binary-2.new.tally _ c.hold-in-Binary.new.self c.gives.result c.args.e.now.place c.in-Binary.op a b view c.gives.ensures first second third)
    c.hold-in-Binary.ensures.counting

pub count_expr-returns-in_ok-count_expr-in-Both-2-clause-counting :
    goal.count_expr-returns-in_ok-count_expr-in-Both-2-clause-counting
count_expr-returns-in_ok-count_expr-in-Both-2-clause-counting t c =
    let p : Program = program_view c.args.program.now in
    let r : Room = room_of (function_view c.args.function.now) in
    let a : Tree = expr_view c.in-Both.a in
    let b : Tree = expr_view c.in-Both.b in
    let view : expr_view c.args.e.now ≡ both_at c.args.e.now.place a b = search (rules, the_lemmas, fold_out-Expr, fold_out-ExprForm) in
    let first : Tried p r c.args.tally.now c.count_expr-in-Both.new.tally a = search rules in
    let second : Tried p r c.count_expr-in-Both.new.tally c.count_expr-in-Both-2.new.tally b = search rules in
    on_ok_weaker c.hold-in-Both.result
    (λ third. both_counted p r c.args.tally.now c.count_expr-in-Both.new.tally c.count_expr-in-Both-2.new.tally _ c.hold-in-Both.new.self c.args.e.now.place a b view first second third)
    c.hold-in-Both.ensures.counting

pub count_expr-returns-in_ok-count_expr-in-Either-2-clause-counting :
    goal.count_expr-returns-in_ok-count_expr-in-Either-2-clause-counting
count_expr-returns-in_ok-count_expr-in-Either-2-clause-counting t c =
    let p : Program = program_view c.args.program.now in
    let r : Room = room_of (function_view c.args.function.now) in
    let a : Tree = expr_view c.in-Either.a in
    let b : Tree = expr_view c.in-Either.b in
    let view : expr_view c.args.e.now ≡ either_at c.args.e.now.place a b = search (rules, the_lemmas, fold_out-Expr, fold_out-ExprForm) in
    let first : Tried p r c.args.tally.now c.count_expr-in-Either.new.tally a = search rules in
    let second : Tried p r c.count_expr-in-Either.new.tally c.count_expr-in-Either-2.new.tally b = search rules in
    on_ok_weaker c.hold-in-Either.result
    (λ third. either_counted p r c.args.tally.now c.count_expr-in-Either.new.tally c.count_expr-in-Either-2.new.tally _ c.hold-in-Either.new.self c.args.e.now.place a b view first second third)
    c.hold-in-Either.ensures.counting

pub count_expr-returns-in_ok-no-in-Choose-clause-counting :
    goal.count_expr-returns-in_ok-no-in-Choose-clause-counting
count_expr-returns-in_ok-no-in-Choose-clause-counting t c =
    let p : Program = program_view c.args.program.now in
    let r : Room = room_of (function_view c.args.function.now) in
    let x : Tree = expr_view c.in-Choose.x in
    let a : Tree = expr_view c.in-Choose.a in
    let b : Tree = expr_view c.in-Choose.b in
    let view : expr_view c.args.e.now ≡ choose_at c.args.e.now.place x a b = search (rules, the_lemmas, fold_out-Expr, fold_out-ExprForm) in
    let shape : c.or_int.result ≡ chosen_shape p r a b = search rules in
    let first : Tried p r c.args.tally.now c.count_expr-in-Choose.new.tally x = search rules in
    let second : Tried p r c.count_expr-in-Choose.new.tally c.count_expr-in-Choose-2.new.tally a = search rules in
    let third : Tried p r c.count_expr-in-Choose-2.new.tally c.count_expr-in-Choose-3.new.tally b = search rules in
    on_ok_weaker c.hold-in-Choose.result
    (λ fourth. choose_counted p r c.args.tally.now c.count_expr-in-Choose.new.tally c.count_expr-in-Choose-2.new.tally _ c.count_expr-in-Choose-3.new.tally c.hold-in-Choose.new.self c.or_int.result c.args.e.now.place x a b view shape first second third fourth)
    c.hold-in-Choose.ensures.counting

pub count_expr-returns-in_ok-count_arguments-in-Call-clause-counting :
    goal.count_expr-returns-in_ok-count_arguments-in-Call-clause-counting
count_expr-returns-in_ok-count_arguments-in-Call-clause-counting t c =
    let p : Program = program_view c.args.program.now in
    let r : Room = room_of (function_view c.args.function.now) in
    let es : Trees = exprs_view c.in-Call.arguments in
    let view : expr_view c.args.e.now ≡ call_at c.args.e.now.place c.in-Call.callee es = search (rules, the_lemmas, fold_out-Expr, fold_out-ExprForm) in
    let first : Counting c.args.tally.now c.count_arguments.new.tally (λ k. args_counted p r k es) = search rules in
    on_ok_weaker c.hold_given.result
    (λ second. call_counted p r c.args.tally.now c.count_arguments.new.tally c.hold_given.new.tally _ c.result_of.result c.args.e.now.place c.in-Call.callee es view c.result_of.ensures first second)
    c.hold_given.ensures.counting

pub count_expr-returns-in_ok-count_first-in-Library-clause-counting :
    goal.count_expr-returns-in_ok-count_first-in-Library-clause-counting
count_expr-returns-in_ok-count_first-in-Library-clause-counting t c =
    let p : Program = program_view c.args.program.now in
    let r : Room = room_of (function_view c.args.function.now) in
    let es : Trees = trees_in (option_map expr_view c.in-Library.argument) in
    let view : expr_view c.args.e.now ≡ library_at c.args.e.now.place c.in-Library.call es c.in-Library.text = search (rules, the_lemmas, fold_out-Expr, fold_out-ExprForm) in
    let first : Counting c.args.tally.now c.count_first.new.tally (λ k. first_counted p r k es) = search rules in
    on_ok_weaker c.hold_given-in-Library.result
    (λ second. library_counted p r c.args.tally.now c.count_first.new.tally c.hold_given-in-Library.new.tally _ c.library_gives.result c.args.e.now.place c.in-Library.call es c.in-Library.text view c.library_gives.ensures first second)
    c.hold_given-in-Library.ensures.counting
