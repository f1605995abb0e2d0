-- Each call, each `alloc` and each test of a loop of a lowered core has a step of its own.
use Rattle.std.proofs.Common.{◌≡◌, ◌+◌, ℕ, Bool, true, false, ◌&&◌, Option, Some, None, refl}
use Rattle.std.proofs.lemmas.Bool.{and_parts, and_from}
use Rattle.std.specs.Prelude.{IsTrue}
use Rattle.gc0_base.specs.declared.place.Place.{Place}
use Rattle.gc0_base.specs.declared.site.Site.{Site}
use Rattle.gc0_tree.specs.declared.Shape.{Shape}
use Rattle.gc0_tree.specs.declared.Shape.TheVariants.{Int}
use Rattle.gc0_tree.specs.declared.ExprOp.{ExprOp}
use Rattle.gc0_tree.specs.declared.ExprOp.TheVariants as op
use Rattle.gc0_tree.specs.Tree.{Tree, number_at, truth_at, null_at, local_at, result_at, unary_at, binary_at, both_at, either_at, choose_at, read_at, call_at, library_at, alloc_at, Trees, no_trees, tree_and, Formula, Stmt, declare_at, assign_at, write_at, plain_at, block_at, if_at, while_at, for_at, return_at, assert_at, raise_at, note_at, Stmts, no_stmts, stmt_and, Function, Program}
use Rattle.gc0_tree.specs.Fits.{Room}
use Rattle.core_tree.specs.declared.Simple.{Simple}
use Rattle.core_tree.specs.CoreTree.{Code, no_code, code_and}
use Rattle.core_meaning.specs.Stepped.{is_step, stmt_stepped, code_stepped, EachFunction}
use Rattle.lowering_laws.specs.Counts.{Counts, fresh, decided, with_constant, with_temp, is_constant, tree_shape, counted}
use Rattle.lowering_laws.specs.Trees.{Target, join, temp, argument_code, value_of, operator_code, tree_code, args_code, first_code}
use Rattle.lowering_laws.specs.Statements.{room_of, headed, stmt_next, stmts_next, declare_code, assign_code, write_code, loop_code, stmt_code, stmts_code}
use Rattle.lowering_laws.specs.Lowering.{target, close_code, start_choices, body_code}
use Rattle.lowering_laws.specs.Tables.{core_of}
use Rattle.lowering_laws.proofs.Each.{each_lowered}

-- stepped, whatever stands before it
abbrev AnyStepped : Code → Type 0
AnyStepped c = (b : Bool) → IsTrue (code_stepped b c)

join_stepped : (c d : Code) → AnyStepped d → (b : Bool) → IsTrue (code_stepped b c) → IsTrue (code_stepped b (join c d))
join_stepped no_code d k b h = k b
join_stepped (code_and s c) d k b h =
    let x = and_parts (stmt_stepped b s) (code_stepped (is_step s) c) h in
    and_from (stmt_stepped b s) (code_stepped (is_step s) (join c d)) x.0 (join_stepped c d k (is_step s) x.1)

-- one code after the other
both : (c d : Code) → AnyStepped c → AnyStepped d → AnyStepped (join c d)
both c d h k b = join_stepped c d k b (h b)

-- the two codes of a branch
branches : (x y : Bool) → x ≡ true → y ≡ true → ((x && y) && true) ≡ true
branches true y h k = and_from y true k refl
branches false y h k = h

argument_stepped : (constant : Bool) (to : ℕ) (a : Simple) → AnyStepped (argument_code constant to a)
argument_stepped true to a b = refl
argument_stepped false to a b = refl

operator_stepped : (to : ℕ) (o : ExprOp) (site : Site) (v u : Simple) → AnyStepped (operator_code to o site v u)
operator_stepped to op.Add site v u b = refl
operator_stepped to op.Sub site v u b = refl
operator_stepped to op.Mul site v u b = refl
operator_stepped to op.Div site v u b = refl
operator_stepped to op.Rem site v u b = refl
operator_stepped to op.Shl site v u b = refl
operator_stepped to op.Shr site v u b = refl
operator_stepped to op.And site v u b = refl
operator_stepped to op.Or site v u b = refl
operator_stepped to op.Xor site v u b = refl
operator_stepped to op.Less site v u b = refl
operator_stepped to op.LessEq site v u b = refl
operator_stepped to op.Greater site v u b = refl
operator_stepped to op.GreaterEq site v u b = refl
operator_stepped to op.Equal site v u b = refl
operator_stepped to op.NotEqual site v u b = refl

module _ (p : Program) (w : Target) where
  module _ (r : Room) where
    mutual
      tree_stepped : (c : Counts) (e : Tree) → AnyStepped (tree_code p r w c e)
      tree_stepped c (number_at at n) b = refl
      tree_stepped c (truth_at at t) b = refl
      tree_stepped c (null_at at) b = refl
      tree_stepped c (local_at at i) b = refl
      tree_stepped c (result_at at) b = refl
      tree_stepped c (unary_at at o x) b = both (tree_code p r w c x) _ (tree_stepped c x) (λ _. refl) b
      tree_stepped c (binary_at at o x y) b =
          let c1 : Counts = counted p r c x in
          both (tree_code p r w c x) _ (tree_stepped c x) (both (tree_code p r w c1 y) _ (tree_stepped c1 y) (operator_stepped _ o _ _ _)) b
      tree_stepped c (both_at at x y) b =
          let c1 : Counts = decided 1 (counted p r c x) in
          both (tree_code p r w c x) _ (tree_stepped c x) (λ _. branches _ _ (both (tree_code p r w c1 y) _ (tree_stepped c1 y) (λ _. refl) false) refl) b
      tree_stepped c (either_at at x y) b =
          let c1 : Counts = decided 1 (counted p r c x) in
          both (tree_code p r w c x) _ (tree_stepped c x) (λ _. branches _ _ refl (both (tree_code p r w c1 y) _ (tree_stepped c1 y) (λ _. refl) false)) b
      tree_stepped c (choose_at at x y z) b =
          let c1 : Counts = decided 1 (counted p r c x) in
          let c2 : Counts = counted p r c1 y in
          both (tree_code p r w c x) _ (tree_stepped c x)
          (λ _. branches _ _ (both (tree_code p r w c1 y) _ (tree_stepped c1 y) (λ _. refl) false) (both (tree_code p r w c2 z) _ (tree_stepped c2 z) (λ _. refl) false)) b
      tree_stepped c (read_at at x k field) b = both (tree_code p r w c x) _ (tree_stepped c x) (λ _. refl) b
      tree_stepped c (call_at at g es) b = both (args_code p r w c es) _ (args_stepped c es) (λ _. refl) b
      tree_stepped c (library_at at l es t) b = both (first_code p r w c es) _ (first_stepped c es) (λ _. refl) b
      tree_stepped c (alloc_at at k) b = refl

      args_stepped : (c : Counts) (es : Trees) → AnyStepped (args_code p r w c es)
      args_stepped c no_trees b = refl
      args_stepped c (tree_and e es) b =
          let c1 : Counts = counted p r c e in
          let c2 : Counts = with_constant (is_constant e) (tree_shape p r e) c1 in
          both (tree_code p r w c e) _ (tree_stepped c e)
          (both (argument_code (is_constant e) (temp w (tree_shape p r e) c1) (value_of p r w c e)) (args_code p r w c2 es) (argument_stepped (is_constant e) _ _) (args_stepped c2 es)) b

      first_stepped : (c : Counts) (es : Trees) → AnyStepped (first_code p r w c es)
      first_stepped c no_trees b = refl
      first_stepped c (tree_and e es) b = tree_stepped c e b

    declare_stepped : (c : Counts) (i : ℕ) (es : Trees) → AnyStepped (declare_code p r w c i es)
    declare_stepped c i no_trees b = refl
    declare_stepped c i (tree_and e es) b = both (tree_code p r w c e) _ (tree_stepped c e) (λ _. refl) b

    assign_stepped : (c : Counts) (i : ℕ) (o : Option ExprOp) (op_at : Place) (e : Tree) → AnyStepped (assign_code p r w c i o op_at e)
    assign_stepped c i None op_at e b = both (tree_code p r w c e) _ (tree_stepped c e) (λ _. refl) b
    assign_stepped c i (Some o) op_at e b = both (tree_code p r w c e) _ (tree_stepped c e) (operator_stepped i o _ _ _) b

    write_stepped : (c : Counts) (base : Tree) (k field : ℕ) (arrow : Place) (o : Option ExprOp) (op_at : Place) (e : Tree) → AnyStepped (write_code p r w c base k field arrow o op_at e)
    write_stepped c base k field arrow None op_at e b =
        let c1 : Counts = counted p r c base in
        both (tree_code p r w c base) _ (tree_stepped c base) (both (tree_code p r w c1 e) _ (tree_stepped c1 e) (λ _. refl)) b
    write_stepped c base k field arrow (Some o) op_at e b =
        let c1 : Counts = with_temp Int (counted p r c base) in
        both (tree_code p r w c base) _ (tree_stepped c base)
        (λ _. both (tree_code p r w c1 e) _ (tree_stepped c1 e) (both (operator_code _ o _ _ _) _ (operator_stepped _ o _ _ _) (λ _. refl)) false) b

    loop_stepped : (n : ℕ) (place : Place) (inv : Formula) (e : Tree) (body : Code) → AnyStepped body → AnyStepped (loop_code p r w n place inv e body)
    loop_stepped n place inv e body h b =
        let test : Code = tree_code p r w (fresh (headed n inv)) e in
        and_from (code_stepped false test && code_stepped false body) true (and_from (code_stepped false test) (code_stepped false body) (tree_stepped (fresh (headed n inv)) e false) (h false)) refl

  module _ (f : Function) where
    mutual
      stmt_steps : (n : ℕ) (s : Stmt) → AnyStepped (stmt_code p f w n s)
      stmt_steps n (declare_at at i es) b = declare_stepped (room_of f) (fresh n) i es true
      stmt_steps n (assign_at at i o op_at e) b = assign_stepped (room_of f) (fresh n) i o op_at e true
      stmt_steps n (write_at at base k field arrow o op_at e) b = write_stepped (room_of f) (fresh n) base k field arrow o op_at e true
      stmt_steps n (plain_at at e) b = tree_stepped (room_of f) (fresh n) e true
      stmt_steps n (block_at at ss) b = stmts_step n ss b
      stmt_steps n (if_at at e x ss) b =
          let n1 : ℕ = (counted p (room_of f) (fresh n) e).next + 1 in
          both (tree_code p (room_of f) w (fresh n) e) _ (tree_stepped (room_of f) (fresh n) e) (λ _. branches _ _ (stmt_steps n1 x false) (stmts_step (stmt_next p f n1 x) ss false)) true
      stmt_steps n (while_at at inv e x) b =
          let n1 : ℕ = (counted p (room_of f) (fresh (headed n inv)) e).next + 1 in
          loop_stepped (room_of f) n at inv e (stmt_code p f w n1 x) (stmt_steps n1 x) b
      stmt_steps n (for_at at first e last inv x) b =
          let n1 : ℕ = stmts_next p f n first in
          let n2 : ℕ = (counted p (room_of f) (fresh (headed n1 inv)) e).next + 1 in
          let more : Code = stmts_code p f w (stmt_next p f n2 x) last in
          both (stmts_code p f w n first) _ (stmts_step n first)
          (loop_stepped (room_of f) n1 at inv e (join (stmt_code p f w n2 x) more) (both (stmt_code p f w n2 x) more (stmt_steps n2 x) (stmts_step (stmt_next p f n2 x) last))) b
      stmt_steps n (return_at at es) b = both (first_code p (room_of f) w (fresh n) es) _ (first_stepped (room_of f) (fresh n) es) (λ _. refl) true
      stmt_steps n (assert_at at e) b = both (tree_code p (room_of f) w (fresh n) e) _ (tree_stepped (room_of f) (fresh n) e) (λ _. refl) true
      stmt_steps n (raise_at at t) b = refl
      stmt_steps n (note_at at k formula) b = refl

      stmts_step : (n : ℕ) (ss : Stmts) → AnyStepped (stmts_code p f w n ss)
      stmts_step n no_stmts b = refl
      stmts_step n (stmt_and s ss) b = both (stmt_code p f w n s) (stmts_code p f w (stmt_next p f n s) ss) (stmt_steps n s) (stmts_step (stmt_next p f n s) ss) b

close_stepped : (w : Target) (f : Function) (o : Option Shape) → AnyStepped (close_code w f o)
close_stepped w f None b = refl
close_stepped w f (Some s) b = refl

body_stepped : (p : Program) (g : ℕ) (f : Function) → AnyStepped (body_code p g f)
body_stepped p g f =
    both (stmts_code p f (target p g f) (start_choices p g f) f.body) (close_code (target p g f) f f.result)
    (stmts_step p (target p g f) f (start_choices p g f) f.body) (close_stepped (target p g f) f f.result)

pub steps : (plain : ℕ → Bool) (paths : ℕ → ℕ) (p : Program) → EachFunction (core_of plain paths p) (λ g f. IsTrue (code_stepped false f.body))
steps plain paths p = each_lowered _ p (λ g f. IsTrue (code_stepped false f.body)) (λ g f there. body_stepped p g f false)
