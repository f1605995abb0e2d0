-- The code of statements, each with its step first, and the temporaries that they use.
use Rattle.std.specs.Prelude.{ℕ, ◌+◌, max, length, Option, Some, None}
use Rattle.gc0_base.specs.declared.place.Place.{Place}
use Rattle.gc0_base.specs.declared.site.Kind.TheVariants as kind
use Rattle.gc0_tree.specs.declared.Shape.{Shape}
use Rattle.gc0_tree.specs.declared.Shape.TheVariants.{Int}
use Rattle.gc0_tree.specs.declared.ExprOp.{ExprOp}
use Rattle.gc0_tree.specs.Tree.{Tree, Trees, no_trees, tree_and, Formula, NoteKind, assert_note, fold_note, unfold_note, Stmt, declare_at, assign_at, write_at, plain_at, block_at, if_at, while_at, for_at, return_at, assert_at, raise_at, note_at, Stmts, no_stmts, stmt_and, Function, Program}
use Rattle.gc0_tree.specs.Fits.{shapes_in, Room}
use Rattle.gc0_tree.specs.Sites.{second}
use Rattle.core_tree.specs.declared.Simple.TheVariants as simple
use Rattle.core_tree.specs.CoreTree.{do_step, do_set, do_load, do_store, do_if, do_loop, do_return, do_assert, do_raise, do_note, Code, no_code, code_and}
use Rattle.c0_meaning.specs.Running.{note_kind}
use Rattle.core_meaning.specs.Choices.{choices, instance_body}
use Rattle.lowering_laws.specs.Counts.{Counts, fresh, with_temp, choices_in, counted, first_counted}
use Rattle.lowering_laws.specs.Trees.{Target, join, one, temp, decision, value_of, first_value, tree_code, first_code, operator_code}

-- the locals that the values of a function may name
abbrev pub room_of : Function → Room
room_of f = record { locals = shapes_in f.locals; outcome = None }

-- ---- counts
-- the counts behind the values of `p->f = e`; one by an operator has a temporary for what is read
abbrev pub loaded : Option ExprOp → Counts → Counts
loaded None c = c
loaded (Some o) c = with_temp Int c

abbrev pub write_counted : Program → Room → Counts → (base : Tree) → Option ExprOp → Tree → Counts
write_counted p r c base o e = counted p r (loaded o (counted p r c base)) e

-- the choices of an annotation; those of a fold and an unfold are in the predicate's body
abbrev pub note_choices : Program → NoteKind → Formula → ℕ
note_choices p assert_note formula = choices_in formula
note_choices p fold_note formula = length (choices (instance_body p.predicates formula.parts))
note_choices p unfold_note formula = length (choices (instance_body p.predicates formula.parts))

-- behind the first head of a loop, which consumes and produces its invariant
abbrev pub headed : ℕ → Formula → ℕ
headed n inv = n + choices_in inv + choices_in inv

-- the number of the next decision behind statements, from a number on
abbrev mutual
  pub stmt_next : Program → Function → ℕ → Stmt → ℕ
  stmt_next p f n (declare_at at i es) = (first_counted p (room_of f) (fresh n) es).next
  stmt_next p f n (assign_at at i o op_at e) = (counted p (room_of f) (fresh n) e).next
  stmt_next p f n (write_at at base k field arrow o op_at e) = (write_counted p (room_of f) (fresh n) base o e).next
  stmt_next p f n (plain_at at e) = (counted p (room_of f) (fresh n) e).next
  stmt_next p f n (block_at at ss) = stmts_next p f n ss
  stmt_next p f n (if_at at e a b) = stmts_next p f (stmt_next p f ((counted p (room_of f) (fresh n) e).next + 1) a) b
  stmt_next p f n (while_at at inv e a) =
      stmt_next p f ((counted p (room_of f) (fresh (headed n inv)) e).next + 1) a + choices_in inv
  stmt_next p f n (for_at at first e last inv a) =
      stmts_next p f (stmt_next p f ((counted p (room_of f) (fresh (headed (stmts_next p f n first) inv)) e).next + 1) a) last + choices_in inv
  stmt_next p f n (return_at at es) = (first_counted p (room_of f) (fresh n) es).next + choices_in f.after
  stmt_next p f n (assert_at at e) = (counted p (room_of f) (fresh n) e).next
  stmt_next p f n (raise_at at t) = n
  stmt_next p f n (note_at at k formula) = n + note_choices p k formula

  pub stmts_next : Program → Function → ℕ → Stmts → ℕ
  stmts_next p f n no_stmts = n
  stmts_next p f n (stmt_and s ss) = stmts_next p f (stmt_next p f n s) ss

abbrev pub larger : (Shape → ℕ) → (Shape → ℕ) → Shape → ℕ
larger a b s = max (a s) (b s)

-- the most temporaries of each shape that one of the statements and tests uses
abbrev mutual
  pub stmt_uses : Program → Room → Stmt → Shape → ℕ
  stmt_uses p r (declare_at at i es) = (first_counted p r (fresh 0) es).used
  stmt_uses p r (assign_at at i o op_at e) = (counted p r (fresh 0) e).used
  stmt_uses p r (write_at at base k field arrow o op_at e) = (write_counted p r (fresh 0) base o e).used
  stmt_uses p r (plain_at at e) = (counted p r (fresh 0) e).used
  stmt_uses p r (block_at at ss) = stmts_use p r ss
  stmt_uses p r (if_at at e a b) = larger (counted p r (fresh 0) e).used (larger (stmt_uses p r a) (stmts_use p r b))
  stmt_uses p r (while_at at inv e a) = larger (counted p r (fresh 0) e).used (stmt_uses p r a)
  stmt_uses p r (for_at at first e last inv a) =
      larger (stmts_use p r first) (larger (counted p r (fresh 0) e).used (larger (stmt_uses p r a) (stmts_use p r last)))
  stmt_uses p r (return_at at es) = (first_counted p r (fresh 0) es).used
  stmt_uses p r (assert_at at e) = (counted p r (fresh 0) e).used
  stmt_uses p r (raise_at at t) = λ s. 0
  stmt_uses p r (note_at at k formula) = λ s. 0

  pub stmts_use : Program → Room → Stmts → Shape → ℕ
  stmts_use p r no_stmts = λ s. 0
  stmts_use p r (stmt_and s ss) = larger (stmt_uses p r s) (stmts_use p r ss)

-- ---- code
-- a declaration without a value leaves the local as it is
abbrev pub declare_code : Program → Room → Target → Counts → ℕ → Trees → Code
declare_code p r w c i no_trees = no_code
declare_code p r w c i (tree_and e es) = join (tree_code p r w c e) (one (do_set i (value_of p r w c e)))

abbrev pub assign_code : Program → Room → Target → Counts → ℕ → Option ExprOp → Place → Tree → Code
assign_code p r w c i None op_at e = join (tree_code p r w c e) (one (do_set i (value_of p r w c e)))
assign_code p r w c i (Some o) op_at e =
    join (tree_code p r w c e) (operator_code i o (w.at kind.Trap op_at) (simple.Local i) (value_of p r w c e))

-- `p->f = e`: the pointer, the value, the write; `p->f op= e` reads before the value
abbrev pub write_code : Program → Room → Target → Counts → (base : Tree) (of_struct field : ℕ) (arrow : Place) → Option ExprOp → Place → Tree → Code
write_code p r w c base k field arrow None op_at e =
    let c1 : Counts = counted p r c base in
    join (tree_code p r w c base)
    (join (tree_code p r w c1 e)
    (one (do_store (value_of p r w c base) k field (value_of p r w c1 e) (w.at kind.Access arrow))))
write_code p r w c base k field arrow (Some o) op_at e =
    let c1 : Counts = counted p r c base in
    let to : ℕ = temp w Int c1 in
    join (tree_code p r w c base)
    (code_and (do_load to (value_of p r w c base) k field (w.at kind.Access arrow))
    (join (tree_code p r w (with_temp Int c1) e)
    (join (operator_code to o (w.at kind.Trap op_at) (simple.Local to) (value_of p r w (with_temp Int c1) e))
    (one (do_store (value_of p r w c base) k field (simple.Local to) (second (w.at kind.Access arrow)))))))

-- a loop from its own step on; its test begins with one of its own
abbrev pub loop_code : Program → Room → Target → ℕ → Place → Formula → Tree → (body : Code) → Code
loop_code p r w n place inv e body =
    let c : Counts = fresh (headed n inv) in
    code_and do_step
    (one (do_loop (w.at kind.Entry place) (w.at kind.Again place) inv (decision w (counted p r c e)) (code_and do_step (tree_code p r w c e)) (value_of p r w c e) body))

abbrev mutual
  pub stmt_code : Program → Function → Target → ℕ → Stmt → Code
  stmt_code p f w n (declare_at at i es) = code_and do_step (declare_code p (room_of f) w (fresh n) i es)
  stmt_code p f w n (assign_at at i o op_at e) = code_and do_step (assign_code p (room_of f) w (fresh n) i o op_at e)
  stmt_code p f w n (write_at at base k field arrow o op_at e) =
      code_and do_step (write_code p (room_of f) w (fresh n) base k field arrow o op_at e)
  stmt_code p f w n (plain_at at e) = code_and do_step (tree_code p (room_of f) w (fresh n) e)
  stmt_code p f w n (block_at at ss) = stmts_code p f w n ss
  stmt_code p f w n (if_at at e a b) =
      let c1 : Counts = counted p (room_of f) (fresh n) e in
      let n1 : ℕ = c1.next + 1 in
      code_and do_step
      (join (tree_code p (room_of f) w (fresh n) e)
      (one (do_if (decision w c1) (value_of p (room_of f) w (fresh n) e) (stmt_code p f w n1 a) (stmts_code p f w (stmt_next p f n1 a) b))))
  stmt_code p f w n (while_at at inv e a) =
      loop_code p (room_of f) w n at inv e (stmt_code p f w ((counted p (room_of f) (fresh (headed n inv)) e).next + 1) a)
  stmt_code p f w n (for_at at first e last inv a) =
      let n1 : ℕ = stmts_next p f n first in
      let n2 : ℕ = (counted p (room_of f) (fresh (headed n1 inv)) e).next + 1 in
      join (stmts_code p f w n first)
      (loop_code p (room_of f) w n1 at inv e (join (stmt_code p f w n2 a) (stmts_code p f w (stmt_next p f n2 a) last)))
  stmt_code p f w n (return_at at es) =
      code_and do_step
      (join (first_code p (room_of f) w (fresh n) es)
      (one (do_return (first_value p (room_of f) w (fresh n) es) (w.at kind.Ensures at))))
  stmt_code p f w n (assert_at at e) =
      code_and do_step
      (join (tree_code p (room_of f) w (fresh n) e)
      (one (do_assert (value_of p (room_of f) w (fresh n) e) (w.at kind.Trap at))))
  stmt_code p f w n (raise_at at t) = code_and do_step (one (do_raise t (w.at kind.Trap at)))
  stmt_code p f w n (note_at at k formula) = one (do_note k formula (w.at (note_kind k) at))

  pub stmts_code : Program → Function → Target → ℕ → Stmts → Code
  stmts_code p f w n no_stmts = no_code
  stmts_code p f w n (stmt_and s ss) = join (stmt_code p f w n s) (stmts_code p f w (stmt_next p f n s) ss)
