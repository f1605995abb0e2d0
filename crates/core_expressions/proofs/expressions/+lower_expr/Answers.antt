-- What is answered by hand of the proofs of the cycle `lower_expr`.
use Rattle.std.specs.Option.{option_map}
use Rattle.std.proofs.Common.{◌≡◌, ℕ, ◌+◌, List, Option, slice_get, drop, append-nil, refl, sym, ap, subst, ◌∙◌, rules, Result, IfOk, OnOk}
use Rattle.std.specs.declared.alloc.AllocError.{AllocError}
use Rattle.gc0_base.specs.declared.site.Kind.TheVariants as kind
use Rattle.gc0_tree.specs.declared.Shape.{Shape}
use Rattle.gc0_tree.specs.Fits.{gives, library_gives}
use Rattle.gc0_tree.specs.declared.ExprForm.TheViews.{the_lemmas}
use Rattle.gc0_tree.specs.declared.ExprForm.TheFolds.{fold_out-Expr, fold_out-ExprForm}
use Rattle.gc0_tree.specs.declared.Expr.{Expr}
use Rattle.gc0_tree.specs.Tree.{Tree, Trees, number_at, truth_at, null_at, local_at, result_at, unary_at, binary_at, both_at, either_at, choose_at, call_at, library_at, read_at, alloc_at}
use Rattle.gc0_tree.specs.Sites.{reads_input}
use Rattle.gc0_tree.specs.Views.{expr_view, exprs_view, trees_in}
use Rattle.core_tree.specs.declared.CoreStmt.{CoreStmt}
use Rattle.core_tree.specs.CoreViews.{code_view}
use Rattle.core_tree.specs.declared.Simple.{Simple}
use Rattle.core_tree.specs.declared.Simple.TheVariants as simple
use Rattle.core_tree.specs.CoreTree.{Code, code_and, do_step, do_unary, do_load, do_call, do_library}
use Rattle.lowering_laws.specs.Counts.{Counts, with_temp, decided, counted, args_counted, first_counted, tree_shape, result_of}
use Rattle.lowering_laws.specs.Trees.{one, join, temp, value_of, tree_code, first_code, args_code, temp_if, site_if, operator_code}
use Rattle.lowering_laws.specs.Tables.{tree_decisions, tree_placed, first_decisions, first_placed}
use Rattle.core_expressions.specs.declared.within.Within.{Within}
use Rattle.core_expressions.specs.declared.written.Written.{Written}
use Rattle.core_expressions.specs.declared.operand.Operand.{Operand}
use Rattle.core_expressions.specs.Writing.{program_of, places_of, room_in, target_of, StandsFor, IsWritten, counts_behind, shape_in, code_in, temp_in}
use Rattle.core_expressions.specs.Branches.{both_code, either_code, shape_with, choice_code}
use Rattle.core_expressions.proofs.Sides.{inner, started, nested, both_done, either_done, other_done, choice_done}
use Rattle.core_expressions.proofs.Passed.{passed, one_further, all_passed, next_argument, last_argument}
use Rattle.core_expressions.proofs.Joins.{alike, counted_alike, followed, with_code, with_taken, with_sites, ap3, nothing, if_then, on_ok, counts_in, stands, values, shapes, wholly}
use Rattle.core_expressions.proofs.expressions.+lower_expr.Goals as goal

pub lower_unary-returns-clause-value : goal.lower_unary-returns-clause-value
lower_unary-returns-clause-value t c = λ k s.
    let w = c.args.within.now in
    let k1 : Counts = counted (program_of w) (room_in w) k (expr_view c.args.a.now) in
    let v = c.in_ok-operand.ensures.written k s in
    ap (λ (n : ℕ). simple.Local n) (c.in_ok-to.ensures.number k1 v.counts ∙ ap (λ (x : Shape). temp (target_of w) x k1) c.unary_shape-shape.ensures)

pub lower_unary-returns-clause-written : goal.lower_unary-returns-clause-written
lower_unary-returns-clause-written t c = λ k s.
    let w = c.args.within.now in
    let k1 : Counts = counted (program_of w) (room_in w) k (expr_view c.args.a.now) in
    let shape : Shape = c.unary_shape-shape.result in
    let v = c.in_ok-operand.ensures.written k s in
    let u = c.in_ok-to.ensures.written k1 v.counts in
    let p = c.in_ok-push_unary.ensures (with_temp shape k1) u.counts in
    let to = c.in_ok-to.ensures.number k1 v.counts ∙ ap (λ (x : Shape). temp (target_of w) x k1) c.unary_shape-shape.ensures in
    let code : Code → Code = λ x. join (tree_code (program_of w) (room_in w) (target_of w) k (expr_view c.args.a.now)) x in
    counted_alike
    (alike (with_code (with_taken v u) p)
    (ap code (ap3 (λ (n : ℕ) (x : Simple) (y : Simple). one (do_unary n c.args.op x)) to (c.in_ok-operand.ensures.value k s) (c.in_ok-operand.ensures.value k s)))
    refl refl)
    (ap (λ (x : Shape). with_temp x k1) c.unary_shape-shape.ensures)

pub lower_read-returns-clause-value : goal.lower_read-returns-clause-value
lower_read-returns-clause-value t c = λ k s.
    let w = c.args.within.now in
    let k1 : Counts = counted (program_of w) (room_in w) k (expr_view c.args.base.now) in
    let v = c.in_ok-operand.ensures.written k s in
    ap (λ (n : ℕ). simple.Local n) (c.in_ok-to.ensures.number k1 v.counts ∙ ap (λ (x : Shape). temp (target_of w) x k1) c.read_shape-shape.ensures)

pub lower_read-returns-clause-written : goal.lower_read-returns-clause-written
lower_read-returns-clause-written t c = λ k s.
    let w = c.args.within.now in
    let k1 : Counts = counted (program_of w) (room_in w) k (expr_view c.args.base.now) in
    let shape : Shape = c.read_shape-shape.result in
    let v = c.in_ok-operand.ensures.written k s in
    let u = c.in_ok-to.ensures.written k1 v.counts in
    let p = c.in_ok-push_load.ensures (with_temp shape k1) u.counts in
    let to = c.in_ok-to.ensures.number k1 v.counts ∙ ap (λ (x : Shape). temp (target_of w) x k1) c.read_shape-shape.ensures in
    let code : Code → Code = λ x. join (tree_code (program_of w) (room_in w) (target_of w) k (expr_view c.args.base.now)) x in
    counted_alike
    (alike (with_sites (with_taken v u) p)
    (ap code (ap3 (λ (n : ℕ) (x : Simple) (y : Simple). one (do_load n x c.args.of_struct c.args.field (places_of w kind.Access c.args.place))) to (c.in_ok-operand.ensures.value k s) (c.in_ok-operand.ensures.value k s)))
    refl refl)
    (ap (λ (x : Shape). with_temp x k1) c.read_shape-shape.ensures)

-- ---- the forms of an expression
abbrev ValueAt : Within → Written → Result Operand AllocError → Tree → Type 0
ValueAt w before r e = (k : Counts) → StandsFor before k → IfOk r (λ x. x.value ≡ value_of (program_of w) (room_in w) (target_of w) k e)

abbrev ShapeAt : Within → Result Operand AllocError → Tree → Type 0
ShapeAt w r e = IfOk r (λ x. x.shape ≡ tree_shape (program_of w) (room_in w) e)

abbrev WrittenAt : Within → (before after : Written) → Result Operand AllocError → Tree → Type 0
WrittenAt w before after r e = (k : Counts) → StandsFor before k → OnOk r (IsWritten before after (counted (program_of w) (room_in w) k e) (tree_code (program_of w) (room_in w) (target_of w) k e) (tree_decisions (program_of w) (places_of w) e) (tree_placed (places_of w) e))

pub lower_expr-returns-in-Number-clause-written : goal.lower_expr-returns-in-Number-clause-written
lower_expr-returns-in-Number-clause-written t c =
    let view : expr_view c.args.e.now ≡ number_at c.args.e.now.place c.in-Number.word.0 = search (rules, the_lemmas, fold_out-Expr, fold_out-ExprForm) in
    subst (λ (x : Tree). WrittenAt c.args.within.now c.args.out.now c.args.out.now c.constant.result x) (sym view)
    (λ k s. if_then c.constant.result (nothing c.args.out.now k s))

pub lower_expr-returns-in-Truth-clause-written : goal.lower_expr-returns-in-Truth-clause-written
lower_expr-returns-in-Truth-clause-written t c =
    let view : expr_view c.args.e.now ≡ truth_at c.args.e.now.place c.in-Truth.b = search (rules, the_lemmas, fold_out-Expr, fold_out-ExprForm) in
    subst (λ (x : Tree). WrittenAt c.args.within.now c.args.out.now c.args.out.now c.constant-in-Truth.result x) (sym view)
    (λ k s. if_then c.constant-in-Truth.result (nothing c.args.out.now k s))

pub lower_expr-returns-in-Null-clause-written : goal.lower_expr-returns-in-Null-clause-written
lower_expr-returns-in-Null-clause-written t c =
    let view : expr_view c.args.e.now ≡ null_at c.args.e.now.place = search (rules, the_lemmas, fold_out-Expr, fold_out-ExprForm) in
    subst (λ (x : Tree). WrittenAt c.args.within.now c.args.out.now c.args.out.now c.constant-in-Null.result x) (sym view)
    (λ k s. if_then c.constant-in-Null.result (nothing c.args.out.now k s))

pub lower_expr-returns-in-Local-clause-written : goal.lower_expr-returns-in-Local-clause-written
lower_expr-returns-in-Local-clause-written t c =
    let view : expr_view c.args.e.now ≡ local_at c.args.e.now.place c.in-Local.i = search (rules, the_lemmas, fold_out-Expr, fold_out-ExprForm) in
    subst (λ (x : Tree). (k : Counts) → StandsFor c.args.out.now k → IsWritten c.args.out.now c.args.out.now (counted (program_of c.args.within.now) (room_in c.args.within.now) k x) (tree_code (program_of c.args.within.now) (room_in c.args.within.now) (target_of c.args.within.now) k x) (tree_decisions (program_of c.args.within.now) (places_of c.args.within.now) x) (tree_placed (places_of c.args.within.now) x)) (sym view)
    (λ k s. nothing c.args.out.now k s)

pub lower_expr-returns-in-ResultValue-clause-written : goal.lower_expr-returns-in-ResultValue-clause-written
lower_expr-returns-in-ResultValue-clause-written t c =
    let view : expr_view c.args.e.now ≡ result_at c.args.e.now.place = search (rules, the_lemmas, fold_out-Expr, fold_out-ExprForm) in
    subst (λ (x : Tree). WrittenAt c.args.within.now c.args.out.now c.args.out.now c.constant-in-ResultValue.result x) (sym view)
    (λ k s. if_then c.constant-in-ResultValue.result (nothing c.args.out.now k s))

pub lower_expr-returns-in-Unary-clause-written : goal.lower_expr-returns-in-Unary-clause-written
lower_expr-returns-in-Unary-clause-written t c =
    let view : expr_view c.args.e.now ≡ unary_at c.args.e.now.place c.in-Unary.op (expr_view c.in-Unary.a) = search (rules, the_lemmas, fold_out-Expr, fold_out-ExprForm) in
    let same : expr_view c.get.result.now ≡ expr_view c.in-Unary.a = search rules in
    subst (λ (x : Tree). WrittenAt c.args.within.now c.args.out.now c.lower_unary.new.out c.lower_unary.result x)
    (ap (λ (x : Tree). unary_at c.args.e.now.place c.in-Unary.op x) same ∙ sym view) c.lower_unary.ensures.written

pub lower_expr-returns-in-Read-clause-value : goal.lower_expr-returns-in-Read-clause-value
lower_expr-returns-in-Read-clause-value t c =
    let view : expr_view c.args.e.now ≡ read_at c.args.e.now.place (expr_view c.in-Read.base) c.in-Read.of_struct c.in-Read.field = search (rules, the_lemmas, fold_out-Expr, fold_out-ExprForm) in
    let same : expr_view c.get-in-Read.result.now ≡ expr_view c.in-Read.base = search rules in
    subst (λ (x : Tree). ValueAt c.args.within.now c.args.out.now c.lower_read.result x)
    (ap (λ (x : Tree). read_at c.args.e.now.place x c.in-Read.of_struct c.in-Read.field) same ∙ sym view) c.lower_read.ensures.value

pub lower_expr-returns-in-Read-clause-written : goal.lower_expr-returns-in-Read-clause-written
lower_expr-returns-in-Read-clause-written t c =
    let view : expr_view c.args.e.now ≡ read_at c.args.e.now.place (expr_view c.in-Read.base) c.in-Read.of_struct c.in-Read.field = search (rules, the_lemmas, fold_out-Expr, fold_out-ExprForm) in
    let same : expr_view c.get-in-Read.result.now ≡ expr_view c.in-Read.base = search rules in
    subst (λ (x : Tree). WrittenAt c.args.within.now c.args.out.now c.lower_read.new.out c.lower_read.result x)
    (ap (λ (x : Tree). read_at c.args.e.now.place x c.in-Read.of_struct c.in-Read.field) same ∙ sym view) c.lower_read.ensures.written

pub lower_expr-returns-in-Alloc-clause-value : goal.lower_expr-returns-in-Alloc-clause-value
lower_expr-returns-in-Alloc-clause-value t c =
    let view : expr_view c.args.e.now ≡ alloc_at c.args.e.now.place c.in-Alloc.k = search (rules, the_lemmas, fold_out-Expr, fold_out-ExprForm) in
    subst (λ (x : Tree). ValueAt c.args.within.now c.args.out.now c.lower_alloc.result x) (sym view) (c.lower_alloc.ensures.value c.args.e.now.place)

pub lower_expr-returns-in-Alloc-clause-shape : goal.lower_expr-returns-in-Alloc-clause-shape
lower_expr-returns-in-Alloc-clause-shape t c =
    let view : expr_view c.args.e.now ≡ alloc_at c.args.e.now.place c.in-Alloc.k = search (rules, the_lemmas, fold_out-Expr, fold_out-ExprForm) in
    subst (λ (x : Tree). ShapeAt c.args.within.now c.lower_alloc.result x) (sym view) (c.lower_alloc.ensures.shape c.args.e.now.place)

pub lower_expr-returns-in-Alloc-clause-written : goal.lower_expr-returns-in-Alloc-clause-written
lower_expr-returns-in-Alloc-clause-written t c =
    let view : expr_view c.args.e.now ≡ alloc_at c.args.e.now.place c.in-Alloc.k = search (rules, the_lemmas, fold_out-Expr, fold_out-ExprForm) in
    subst (λ (x : Tree). WrittenAt c.args.within.now c.args.out.now c.lower_alloc.new.out c.lower_alloc.result x) (sym view) (c.lower_alloc.ensures.written c.args.e.now.place)

pub lower_right-returns-clause-value : goal.lower_right-returns-clause-value
lower_right-returns-clause-value t c = λ k s.
    let w = c.args.within.now in
    let k1 : Counts = counted (program_of w) (room_in w) k (expr_view c.args.b.now) in
    let v = c.in_ok-right.ensures.written k s in
    ap (λ (n : ℕ). simple.Local n) (c.in_ok-to.ensures.number k1 v.counts ∙ ap (λ (y : Shape). temp (target_of w) y k1) c.gives-shape.ensures)

pub lower_right-returns-clause-written : goal.lower_right-returns-clause-written
lower_right-returns-clause-written t c = λ k s.
    let w = c.args.within.now in
    let k1 : Counts = counted (program_of w) (room_in w) k (expr_view c.args.b.now) in
    let shape : Shape = c.gives-shape.result in
    let x = c.in_ok-right.ensures.written k s in
    let u = c.in_ok-to.ensures.written k1 x.counts in
    let p = c.in_ok-lower_operator.ensures (with_temp shape k1) u.counts in
    let to = c.in_ok-to.ensures.number k1 x.counts ∙ ap (λ (y : Shape). temp (target_of w) y k1) c.gives-shape.ensures in
    let code : Code → Code = λ y. join (tree_code (program_of w) (room_in w) (target_of w) k (expr_view c.args.b.now)) y in
    counted_alike
    (alike (with_sites (with_taken x u) p)
    (ap code (ap3 (λ (n : ℕ) (y z : Simple). operator_code n c.args.op (places_of w kind.Trap c.args.place) c.args.left z) to (c.in_ok-right.ensures.value k s) (c.in_ok-right.ensures.value k s)))
    refl refl)
    (ap (λ (y : Shape). with_temp y k1) c.gives-shape.ensures)

pub lower_expr-returns-in_ok-left-in-Binary-clause-written : goal.lower_expr-returns-in_ok-left-in-Binary-clause-written
lower_expr-returns-in_ok-left-in-Binary-clause-written t c =
    let w = c.args.within.now in
    let at = c.args.e.now.place in
    let o = c.in-Binary.op in
    let first : Tree = expr_view c.get-in-Binary.result.now in
    let second : Tree = expr_view c.get-in-Binary-2.result.now in
    let view : expr_view c.args.e.now ≡ binary_at at o (expr_view c.in-Binary.a) (expr_view c.in-Binary.b) = search (rules, the_lemmas, fold_out-Expr, fold_out-ExprForm) in
    let one_same : first ≡ expr_view c.in-Binary.a = search rules in
    let two_same : second ≡ expr_view c.in-Binary.b = search rules in
    subst (λ (x : Tree). WrittenAt w c.args.out.now c.lower_right.new.out c.lower_right.result x)
    (ap (λ (x : Tree). binary_at at o x second) one_same ∙ ap (λ (x : Tree). binary_at at o (expr_view c.in-Binary.a) x) two_same ∙ sym view)
    (λ k s.
    let k1 : Counts = counted (program_of w) (room_in w) k first in
    let v = c.in_ok-left-in-Binary.ensures.written k s in
    let code : Simple → Code = λ y. join (tree_code (program_of w) (room_in w) (target_of w) k first)
    (join (tree_code (program_of w) (room_in w) (target_of w) k1 second)
    (operator_code (temp (target_of w) (gives o) (counted (program_of w) (room_in w) k1 second)) o (places_of w kind.Trap at) y (value_of (program_of w) (room_in w) (target_of w) k1 second))) in
    on_ok c.lower_right.result
    (λ z. alike (followed v z) (ap code (c.in_ok-left-in-Binary.ensures.value k s)) refl refl)
    (c.lower_right.ensures.written k1 v.counts))

-- ---- code that stands apart
pub lower_aside-returns-clause-aside : goal.lower_aside-returns-clause-aside
lower_aside-returns-clause-aside t c = λ k s.
    let o = c.args.out.now in
    let h = inner o c.open-outer.new.out k c.open-outer.ensures.inner s in
    let v = started o c.open-outer.new.out c.lower_expr.new.out c.open-outer.ensures.inner (c.in_ok-x.ensures.written k h) in
    record {
      value = c.in_ok-x.ensures.value k h;
      shape = c.in_ok-x.ensures.shape;
      code = ap (λ (l : List CoreStmt). code_view l) c.close-code.ensures.inner ∙ v.code;
    }

pub lower_aside-returns-clause-written : goal.lower_aside-returns-clause-written
lower_aside-returns-clause-written t c = λ k s.
    let o = c.args.out.now in
    let h = inner o c.open-outer.new.out k c.open-outer.ensures.inner s in
    let v = started o c.open-outer.new.out c.lower_expr.new.out c.open-outer.ensures.inner (c.in_ok-x.ensures.written k h) in
    nested o c.lower_expr.new.out c.close-code.new.out c.open-outer.result v c.open-outer.ensures.outer c.close-code.ensures.outer

-- ---- branches
pub lower_both-returns : goal.lower_both-returns
lower_both-returns t c = λ k s.
    let w = c.args.within.now in
    let b : Tree = expr_view c.args.b.now in
    let d = c.in_ok-decision.ensures.written k s in
    let v = c.in_ok-right.ensures.written (decided 1 k) d.counts in
    both_done w c.args.out.now _ _ _ k c.args.place c.in_ok-decision.decision c.args.left b c.in_ok-right.right c.bare-no.result c.finish_branch.result
    d (c.in_ok-decision.ensures.decision k s) v (c.in_ok-right.ensures.aside (decided 1 k) d.counts)
    (c.bare-no.ensures.value ∙ c.zero.ensures) c.bare-no.ensures.code
    (c.finish_branch.ensures (counts_behind w (decided 1 k) b) v.counts)

pub lower_either-returns : goal.lower_either-returns
lower_either-returns t c = λ k s.
    let w = c.args.within.now in
    let b : Tree = expr_view c.args.b.now in
    let d = c.in_ok-decision.ensures.written k s in
    let v = c.in_ok-right.ensures.written (decided 1 k) d.counts in
    either_done w c.args.out.now _ _ _ k c.args.place c.in_ok-decision.decision c.args.left b c.bare-yes.result c.in_ok-right.right c.finish_branch.result
    d (c.in_ok-decision.ensures.decision k s) v (c.in_ok-right.ensures.aside (decided 1 k) d.counts)
    c.bare-yes.ensures.value c.bare-yes.ensures.code
    (c.finish_branch.ensures (counts_behind w (decided 1 k) b) v.counts)

pub lower_other-returns : goal.lower_other-returns
lower_other-returns t c = λ k s.
    let w = c.args.within.now in
    let b : Tree = expr_view c.args.b.now in
    let v = c.in_ok-no.ensures.written k s in
    other_done w c.args.out.now _ _ k c.args.decision c.args.truth c.chosen_shape-shape.result b c.args.yes c.in_ok-no.no c.finish_branch.result
    v (c.in_ok-no.ensures.aside k s) c.chosen_shape-shape.ensures
    (c.finish_branch.ensures (counts_behind w k b) v.counts)

-- ---- arguments
pub lower_argument-returns : goal.lower_argument-returns
lower_argument-returns t c = λ k s.
    let w = c.args.within.now in
    let e : Tree = expr_view c.args.e.now in
    let v = c.in_ok-x.ensures.written k s in
    passed w c.args.out.now _ _ k e c.is_constant.result c.in_ok-x.x c.finish_argument.result
    (c.in_ok-x.ensures.value k s) c.in_ok-x.ensures.shape c.is_constant.ensures v
    (c.finish_argument.ensures.local (counts_behind w k e) v.counts)
    (c.finish_argument.ensures.written (counts_behind w k e) v.counts)

pub lower_arguments-loop-e-preserved : goal.lower_arguments-loop-e-preserved
lower_arguments-loop-e-preserved t c = λ k s.
    let w = c.args.within.now in
    let i = c.loop-e.e-index in
    let e : Tree = expr_view c.e-item.result in
    let es : Trees = exprs_view (drop (i + 1) c.args.es.now) in
    one_further w c.args.out.now c.loop-e.out c.lower_argument.new.out k (exprs_view c.args.es.now) e es (exprs_view (drop i c.args.es.now)) c.loop-e.locals c.push.new.self c.in_ok-local.local
    (c.loop-e.invariant k s) (next_argument c.args.es.now i c.e-item.result c.loop-e-test.true c.e-item.is)
    c.in_ok-local.ensures c.in_ok-push.ensures.ok

pub lower_arguments-returns : goal.lower_arguments-returns
lower_arguments-returns t c = λ k s.
    let w = c.args.within.now in
    let i = c.loop-e.e-index in
    all_passed w c.args.out.now c.loop-e.out k (exprs_view c.args.es.now) (exprs_view (drop i c.args.es.now)) c.loop-e.locals
    (c.loop-e.invariant k s) (last_argument c.args.es.now i c.loop-e-test.false)

pub lower_first-returns-in-None-clause-written : goal.lower_first-returns-in-None-clause-written
lower_first-returns-in-None-clause-written t c = λ k s.
    let w = c.args.within.now in
    let o = c.args.out.now in
    subst (λ (v : Option Expr). IsWritten o o (first_counted (program_of w) (room_in w) k (trees_in (option_map expr_view v))) (first_code (program_of w) (room_in w) (target_of w) k (trees_in (option_map expr_view v))) (first_decisions (program_of w) (places_of w) (trees_in (option_map expr_view v))) (first_placed (places_of w) (trees_in (option_map expr_view v)))) (sym c.in-None.is)
    (nothing o k s)

pub lower_expr-returns-in_ok-left-in-Both-clause-value : goal.lower_expr-returns-in_ok-left-in-Both-clause-value
lower_expr-returns-in_ok-left-in-Both-clause-value t c =
    let w = c.args.within.now in
    let at = c.args.e.now.place in
    let first : Tree = expr_view c.get-in-Both.result.now in
    let second : Tree = expr_view c.get-in-Both-2.result.now in
    let view : expr_view c.args.e.now ≡ both_at at (expr_view c.in-Both.a) (expr_view c.in-Both.b) = search (rules, the_lemmas, fold_out-Expr, fold_out-ExprForm) in
    let one_same : first ≡ expr_view c.in-Both.a = search rules in
    let two_same : second ≡ expr_view c.in-Both.b = search rules in
    subst (λ (x : Tree). ValueAt w c.args.out.now c.lower_both.result x)
    (ap (λ (x : Tree). both_at at x second) one_same ∙ ap (λ (x : Tree). both_at at (expr_view c.in-Both.a) x) two_same ∙ sym view)
    (λ k s. values _ _ _ _ _ _ _ _ c.lower_both.result (c.lower_both.ensures (counts_behind w k first) (c.in_ok-left-in-Both.ensures.written k s).counts))

pub lower_expr-returns-in_ok-left-in-Both-clause-shape : goal.lower_expr-returns-in_ok-left-in-Both-clause-shape
lower_expr-returns-in_ok-left-in-Both-clause-shape t c =
    let w = c.args.within.now in
    let at = c.args.e.now.place in
    let o = c.args.out.now in
    let first : Tree = expr_view c.get-in-Both.result.now in
    let view : expr_view c.args.e.now ≡ both_at at (expr_view c.in-Both.a) (expr_view c.in-Both.b) = search (rules, the_lemmas, fold_out-Expr, fold_out-ExprForm) in
    subst (λ (x : Tree). ShapeAt w c.lower_both.result x) (sym view)
    (shapes _ _ _ _ _ _ _ _ c.lower_both.result (c.lower_both.ensures (counts_behind w (counts_in o) first) (c.in_ok-left-in-Both.ensures.written (counts_in o) (stands o)).counts))

pub lower_expr-returns-in_ok-left-in-Both-clause-written : goal.lower_expr-returns-in_ok-left-in-Both-clause-written
lower_expr-returns-in_ok-left-in-Both-clause-written t c =
    let w = c.args.within.now in
    let at = c.args.e.now.place in
    let first : Tree = expr_view c.get-in-Both.result.now in
    let second : Tree = expr_view c.get-in-Both-2.result.now in
    let view : expr_view c.args.e.now ≡ both_at at (expr_view c.in-Both.a) (expr_view c.in-Both.b) = search (rules, the_lemmas, fold_out-Expr, fold_out-ExprForm) in
    let one_same : first ≡ expr_view c.in-Both.a = search rules in
    let two_same : second ≡ expr_view c.in-Both.b = search rules in
    subst (λ (x : Tree). WrittenAt w c.args.out.now c.lower_both.new.out c.lower_both.result x)
    (ap (λ (x : Tree). both_at at x second) one_same ∙ ap (λ (x : Tree). both_at at (expr_view c.in-Both.a) x) two_same ∙ sym view)
    (λ k s.
    let k1 : Counts = counts_behind w k first in
    let v = c.in_ok-left-in-Both.ensures.written k s in
    on_ok c.lower_both.result
    (λ z. alike z (ap (λ (y : Simple). join (code_in w k first) (both_code w k1 y second)) (c.in_ok-left-in-Both.ensures.value k s)) refl refl)
    (wholly _ _ _ _ _ _ _ c.lower_both.result v (c.lower_both.ensures k1 v.counts)))

pub lower_expr-returns-in_ok-left-in-Either-clause-value : goal.lower_expr-returns-in_ok-left-in-Either-clause-value
lower_expr-returns-in_ok-left-in-Either-clause-value t c =
    let w = c.args.within.now in
    let at = c.args.e.now.place in
    let first : Tree = expr_view c.get-in-Either.result.now in
    let second : Tree = expr_view c.get-in-Either-2.result.now in
    let view : expr_view c.args.e.now ≡ either_at at (expr_view c.in-Either.a) (expr_view c.in-Either.b) = search (rules, the_lemmas, fold_out-Expr, fold_out-ExprForm) in
    let one_same : first ≡ expr_view c.in-Either.a = search rules in
    let two_same : second ≡ expr_view c.in-Either.b = search rules in
    subst (λ (x : Tree). ValueAt w c.args.out.now c.lower_either.result x)
    (ap (λ (x : Tree). either_at at x second) one_same ∙ ap (λ (x : Tree). either_at at (expr_view c.in-Either.a) x) two_same ∙ sym view)
    (λ k s. values _ _ _ _ _ _ _ _ c.lower_either.result (c.lower_either.ensures (counts_behind w k first) (c.in_ok-left-in-Either.ensures.written k s).counts))

pub lower_expr-returns-in_ok-left-in-Either-clause-shape : goal.lower_expr-returns-in_ok-left-in-Either-clause-shape
lower_expr-returns-in_ok-left-in-Either-clause-shape t c =
    let w = c.args.within.now in
    let at = c.args.e.now.place in
    let o = c.args.out.now in
    let first : Tree = expr_view c.get-in-Either.result.now in
    let view : expr_view c.args.e.now ≡ either_at at (expr_view c.in-Either.a) (expr_view c.in-Either.b) = search (rules, the_lemmas, fold_out-Expr, fold_out-ExprForm) in
    subst (λ (x : Tree). ShapeAt w c.lower_either.result x) (sym view)
    (shapes _ _ _ _ _ _ _ _ c.lower_either.result (c.lower_either.ensures (counts_behind w (counts_in o) first) (c.in_ok-left-in-Either.ensures.written (counts_in o) (stands o)).counts))

pub lower_expr-returns-in_ok-left-in-Either-clause-written : goal.lower_expr-returns-in_ok-left-in-Either-clause-written
lower_expr-returns-in_ok-left-in-Either-clause-written t c =
    let w = c.args.within.now in
    let at = c.args.e.now.place in
    let first : Tree = expr_view c.get-in-Either.result.now in
    let second : Tree = expr_view c.get-in-Either-2.result.now in
    let view : expr_view c.args.e.now ≡ either_at at (expr_view c.in-Either.a) (expr_view c.in-Either.b) = search (rules, the_lemmas, fold_out-Expr, fold_out-ExprForm) in
    let one_same : first ≡ expr_view c.in-Either.a = search rules in
    let two_same : second ≡ expr_view c.in-Either.b = search rules in
    subst (λ (x : Tree). WrittenAt w c.args.out.now c.lower_either.new.out c.lower_either.result x)
    (ap (λ (x : Tree). either_at at x second) one_same ∙ ap (λ (x : Tree). either_at at (expr_view c.in-Either.a) x) two_same ∙ sym view)
    (λ k s.
    let k1 : Counts = counts_behind w k first in
    let v = c.in_ok-left-in-Either.ensures.written k s in
    on_ok c.lower_either.result
    (λ z. alike z (ap (λ (y : Simple). join (code_in w k first) (either_code w k1 y second)) (c.in_ok-left-in-Either.ensures.value k s)) refl refl)
    (wholly _ _ _ _ _ _ _ c.lower_either.result v (c.lower_either.ensures k1 v.counts)))

pub lower_expr-returns-in_ok-yes-in-Choose-clause-value : goal.lower_expr-returns-in_ok-yes-in-Choose-clause-value
lower_expr-returns-in_ok-yes-in-Choose-clause-value t c =
    let w = c.args.within.now in
    let at = c.args.e.now.place in
    let x0 : Tree = expr_view c.in-Choose.x in
    let a0 : Tree = expr_view c.in-Choose.a in
    let b0 : Tree = expr_view c.in-Choose.b in
    let x : Tree = expr_view c.get-in-Choose.result.now in
    let a : Tree = expr_view c.get-in-Choose-2.result.now in
    let b : Tree = expr_view c.get-in-Choose-3.result.now in
    let view : expr_view c.args.e.now ≡ choose_at at x0 a0 b0 = search (rules, the_lemmas, fold_out-Expr, fold_out-ExprForm) in
    let ex : x ≡ x0 = search rules in
    let ea : a ≡ a0 = search rules in
    let eb : b ≡ b0 = search rules in
    subst (λ (z : Tree). ValueAt w c.args.out.now c.lower_other.result z) (ap3 (λ (u v z : Tree). choose_at at u v z) ex ea eb ∙ sym view)
    (λ k s.
    let k1 : Counts = counts_behind w k x in
    let v = c.in_ok-truth-in-Choose.ensures.written k s in
    let d = c.in_ok-decision-in-Choose.ensures.written k1 v.counts in
    let u = c.in_ok-yes-in-Choose.ensures.written (decided 1 k1) d.counts in
    let chosen = choice_done w c.lower_expr-in-Choose.new.out _ _ _ k1 at c.in_ok-decision-in-Choose.decision c.in_ok-truth-in-Choose.truth.value a b c.in_ok-yes-in-Choose.yes c.lower_other.result
    d (c.in_ok-decision-in-Choose.ensures.decision k1 v.counts) u (c.in_ok-yes-in-Choose.ensures.aside (decided 1 k1) d.counts)
    (c.lower_other.ensures (counts_behind w (decided 1 k1) a) u.counts) in
    values _ _ _ _ _ _ _ _ c.lower_other.result chosen)

pub lower_expr-returns-in_ok-yes-in-Choose-clause-shape : goal.lower_expr-returns-in_ok-yes-in-Choose-clause-shape
lower_expr-returns-in_ok-yes-in-Choose-clause-shape t c =
    let w = c.args.within.now in
    let at = c.args.e.now.place in
    let o = c.args.out.now in
    let x0 : Tree = expr_view c.in-Choose.x in
    let a0 : Tree = expr_view c.in-Choose.a in
    let b0 : Tree = expr_view c.in-Choose.b in
    let x : Tree = expr_view c.get-in-Choose.result.now in
    let a : Tree = expr_view c.get-in-Choose-2.result.now in
    let b : Tree = expr_view c.get-in-Choose-3.result.now in
    let view : expr_view c.args.e.now ≡ choose_at at x0 a0 b0 = search (rules, the_lemmas, fold_out-Expr, fold_out-ExprForm) in
    let ex : x ≡ x0 = search rules in
    let ea : a ≡ a0 = search rules in
    let eb : b ≡ b0 = search rules in
    subst (λ (z : Tree). ShapeAt w c.lower_other.result z) (ap3 (λ (u v z : Tree). choose_at at u v z) ex ea eb ∙ sym view)
    (let k : Counts = counts_in o in
    let s = stands o in
    let k1 : Counts = counts_behind w k x in
    let v = c.in_ok-truth-in-Choose.ensures.written k s in
    let d = c.in_ok-decision-in-Choose.ensures.written k1 v.counts in
    let u = c.in_ok-yes-in-Choose.ensures.written (decided 1 k1) d.counts in
    let chosen = choice_done w c.lower_expr-in-Choose.new.out _ _ _ k1 at c.in_ok-decision-in-Choose.decision c.in_ok-truth-in-Choose.truth.value a b c.in_ok-yes-in-Choose.yes c.lower_other.result
    d (c.in_ok-decision-in-Choose.ensures.decision k1 v.counts) u (c.in_ok-yes-in-Choose.ensures.aside (decided 1 k1) d.counts)
    (c.lower_other.ensures (counts_behind w (decided 1 k1) a) u.counts) in
    shapes _ _ _ _ _ _ _ _ c.lower_other.result chosen)

pub lower_expr-returns-in_ok-yes-in-Choose-clause-written : goal.lower_expr-returns-in_ok-yes-in-Choose-clause-written
lower_expr-returns-in_ok-yes-in-Choose-clause-written t c =
    let w = c.args.within.now in
    let at = c.args.e.now.place in
    let x0 : Tree = expr_view c.in-Choose.x in
    let a0 : Tree = expr_view c.in-Choose.a in
    let b0 : Tree = expr_view c.in-Choose.b in
    let x : Tree = expr_view c.get-in-Choose.result.now in
    let a : Tree = expr_view c.get-in-Choose-2.result.now in
    let b : Tree = expr_view c.get-in-Choose-3.result.now in
    let view : expr_view c.args.e.now ≡ choose_at at x0 a0 b0 = search (rules, the_lemmas, fold_out-Expr, fold_out-ExprForm) in
    let ex : x ≡ x0 = search rules in
    let ea : a ≡ a0 = search rules in
    let eb : b ≡ b0 = search rules in
    subst (λ (z : Tree). WrittenAt w c.args.out.now c.lower_other.new.out c.lower_other.result z) (ap3 (λ (u v z : Tree). choose_at at u v z) ex ea eb ∙ sym view)
    (λ k s.
    let k1 : Counts = counts_behind w k x in
    let v = c.in_ok-truth-in-Choose.ensures.written k s in
    let d = c.in_ok-decision-in-Choose.ensures.written k1 v.counts in
    let u = c.in_ok-yes-in-Choose.ensures.written (decided 1 k1) d.counts in
    let chosen = choice_done w c.lower_expr-in-Choose.new.out _ _ _ k1 at c.in_ok-decision-in-Choose.decision c.in_ok-truth-in-Choose.truth.value a b c.in_ok-yes-in-Choose.yes c.lower_other.result
    d (c.in_ok-decision-in-Choose.ensures.decision k1 v.counts) u (c.in_ok-yes-in-Choose.ensures.aside (decided 1 k1) d.counts)
    (c.lower_other.ensures (counts_behind w (decided 1 k1) a) u.counts) in
    let to : ℕ = temp_in w (shape_with w (shape_in w a) b) (counts_behind w (counts_behind w (decided 1 k1) a) b) in
    on_ok c.lower_other.result
    (λ z. alike z (ap (λ (y : Simple). join (code_in w k x) (choice_code w k1 y to a b)) (c.in_ok-truth-in-Choose.ensures.value k s)) refl refl)
    (wholly _ _ _ _ _ _ _ c.lower_other.result v chosen))

pub lower_expr-returns-in_ok-locals-in-Call-clause-value : goal.lower_expr-returns-in_ok-locals-in-Call-clause-value
lower_expr-returns-in_ok-locals-in-Call-clause-value t c =
    let w = c.args.within.now in
    let at = c.args.e.now.place in
    let es : Trees = exprs_view c.as_slice.result.now in
    let view : expr_view c.args.e.now ≡ call_at at c.in-Call.function (exprs_view c.in-Call.arguments) = search (rules, the_lemmas, fold_out-Expr, fold_out-ExprForm) in
    let same : es ≡ exprs_view c.in-Call.arguments = search rules in
    subst (λ (z : Tree). ValueAt w c.args.out.now c.finish_call.result z) (ap (λ (l : Trees). call_at at c.in-Call.function l) same ∙ sym view)
    (λ k s. values _ _ _ _ _ _ _ _ c.finish_call.result (c.finish_call.ensures (args_counted (program_of w) (room_in w) k es) (c.in_ok-locals-in-Call.ensures k s).written.counts))

pub lower_expr-returns-in_ok-locals-in-Call-clause-shape : goal.lower_expr-returns-in_ok-locals-in-Call-clause-shape
lower_expr-returns-in_ok-locals-in-Call-clause-shape t c =
    let w = c.args.within.now in
    let at = c.args.e.now.place in
    let o = c.args.out.now in
    let es : Trees = exprs_view c.as_slice.result.now in
    let view : expr_view c.args.e.now ≡ call_at at c.in-Call.function (exprs_view c.in-Call.arguments) = search (rules, the_lemmas, fold_out-Expr, fold_out-ExprForm) in
    subst (λ (z : Tree). ShapeAt w c.finish_call.result z) (sym view)
    (shapes _ _ _ _ _ _ _ _ c.finish_call.result (c.finish_call.ensures (args_counted (program_of w) (room_in w) (counts_in o) es) (c.in_ok-locals-in-Call.ensures (counts_in o) (stands o)).written.counts))

pub lower_expr-returns-in_ok-locals-in-Call-clause-written : goal.lower_expr-returns-in_ok-locals-in-Call-clause-written
lower_expr-returns-in_ok-locals-in-Call-clause-written t c =
    let w = c.args.within.now in
    let at = c.args.e.now.place in
    let g = c.in-Call.function in
    let es : Trees = exprs_view c.as_slice.result.now in
    let view : expr_view c.args.e.now ≡ call_at at g (exprs_view c.in-Call.arguments) = search (rules, the_lemmas, fold_out-Expr, fold_out-ExprForm) in
    let same : es ≡ exprs_view c.in-Call.arguments = search rules in
    subst (λ (z : Tree). WrittenAt w c.args.out.now c.finish_call.new.out c.finish_call.result z) (ap (λ (l : Trees). call_at at g l) same ∙ sym view)
    (λ k s.
    let k1 : Counts = args_counted (program_of w) (room_in w) k es in
    let v = c.in_ok-locals-in-Call.ensures k s in
    let to : Option ℕ = temp_if (target_of w) (result_of (slice_get (program_of w).functions g)) k1 in
    let code : List ℕ → Code = λ l. join (args_code (program_of w) (room_in w) (target_of w) k es) (code_and do_step (one (do_call to g l (places_of w kind.Requires at)))) in
    on_ok c.finish_call.result
    (λ z. alike z (ap code v.locals_are) refl refl)
    (wholly _ _ _ _ _ _ _ c.finish_call.result v.written (c.finish_call.ensures k1 v.written.counts)))

pub lower_expr-returns-in_ok-value-in-Library-clause-value : goal.lower_expr-returns-in_ok-value-in-Library-clause-value
lower_expr-returns-in_ok-value-in-Library-clause-value t c =
    let w = c.args.within.now in
    let at = c.args.e.now.place in
    let es : Trees = trees_in (option_map expr_view c.in-Library.argument) in
    let view : expr_view c.args.e.now ≡ library_at at c.in-Library.call es c.in-Library.text = search (rules, the_lemmas, fold_out-Expr, fold_out-ExprForm) in
    subst (λ (z : Tree). ValueAt w c.args.out.now c.finish_library.result z) (sym view)
    (λ k s. values _ _ _ _ _ _ _ _ c.finish_library.result (c.finish_library.ensures (first_counted (program_of w) (room_in w) k es) (c.in_ok-value-in-Library.ensures.written k s).counts))

pub lower_expr-returns-in_ok-value-in-Library-clause-shape : goal.lower_expr-returns-in_ok-value-in-Library-clause-shape
lower_expr-returns-in_ok-value-in-Library-clause-shape t c =
    let w = c.args.within.now in
    let at = c.args.e.now.place in
    let o = c.args.out.now in
    let es : Trees = trees_in (option_map expr_view c.in-Library.argument) in
    let view : expr_view c.args.e.now ≡ library_at at c.in-Library.call es c.in-Library.text = search (rules, the_lemmas, fold_out-Expr, fold_out-ExprForm) in
    subst (λ (z : Tree). ShapeAt w c.finish_library.result z) (sym view)
    (shapes _ _ _ _ _ _ _ _ c.finish_library.result (c.finish_library.ensures (first_counted (program_of w) (room_in w) (counts_in o) es) (c.in_ok-value-in-Library.ensures.written (counts_in o) (stands o)).counts))

pub lower_expr-returns-in_ok-value-in-Library-clause-written : goal.lower_expr-returns-in_ok-value-in-Library-clause-written
lower_expr-returns-in_ok-value-in-Library-clause-written t c =
    let w = c.args.within.now in
    let at = c.args.e.now.place in
    let l = c.in-Library.call in
    let es : Trees = trees_in (option_map expr_view c.in-Library.argument) in
    let view : expr_view c.args.e.now ≡ library_at at l es c.in-Library.text = search (rules, the_lemmas, fold_out-Expr, fold_out-ExprForm) in
    subst (λ (z : Tree). WrittenAt w c.args.out.now c.finish_library.new.out c.finish_library.result z) (sym view)
    (λ k s.
    let k1 : Counts = first_counted (program_of w) (room_in w) k es in
    let v = c.in_ok-value-in-Library.ensures.written k s in
    let code : Option Simple → Code = λ x. join (first_code (program_of w) (room_in w) (target_of w) k es) (code_and do_step (one (do_library (temp_if (target_of w) (library_gives l) k1) l x c.in-Library.text (site_if (reads_input l) (places_of w kind.Trap at))))) in
    on_ok c.finish_library.result
    (λ z. alike z (ap code (c.in_ok-value-in-Library.ensures.value k s)) (append-nil (first_decisions (program_of w) (places_of w) es)) refl)
    (wholly _ _ _ _ _ _ _ c.finish_library.result v (c.finish_library.ensures k1 v.counts)))
