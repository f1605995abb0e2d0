-- A lowered body calls what the body calls.
use Rattle.std.proofs.Common.{◌≡◌, ◌+◌, ℕ, Bool, true, false, ◌||◌, eqb, List, [], ◌∷◌, Option, Some, None, ◌⊎◌, inl, inr, refl, sym, ◌∙◌}
use Rattle.gc0_base.specs.declared.place.Place.{Place}
use Rattle.gc0_base.specs.declared.site.Site.{Site}
use Rattle.gc0_tree.specs.declared.Shape.{Shape}
use Rattle.gc0_tree.specs.declared.Shape.TheVariants.{Int, Bool as Truth, Pointer}
use Rattle.gc0_tree.specs.declared.ExprOp.{ExprOp}
use Rattle.gc0_tree.specs.declared.ExprOp.TheVariants as op
use Rattle.gc0_tree.specs.declared.LibraryCall.{LibraryCall}
use Rattle.gc0_tree.specs.declared.LibraryCall.TheVariants as library
use Rattle.gc0_tree.specs.Tree.{Tree, number_at, truth_at, null_at, local_at, result_at, unary_at, binary_at, both_at, either_at, choose_at, read_at, call_at, library_at, alloc_at, Trees, no_trees, tree_and, Formula, Stmt, declare_at, assign_at, write_at, plain_at, block_at, if_at, while_at, for_at, return_at, assert_at, raise_at, note_at, Stmts, no_stmts, stmt_and, Function, Program}
use Rattle.gc0_tree.specs.Fits.{FunctionFits, HasShape, AreGiven, IsGiven, IsVoidCall, InitialFits, ReturnFits, PutFits, StmtFits, StmtsFit, Room, params_in, unary_shape, library_params}
use Rattle.c0_meaning.specs.Precision.{tree_calls, trees_call, stmt_calls, stmts_call}
use Rattle.core_tree.specs.declared.Simple.{Simple}
use Rattle.core_tree.specs.CoreTree.{Code}
use Rattle.core_meaning.specs.CorePrecision as core
use Rattle.core_meaning.specs.CorePrecision.{code_calls}
use Rattle.lowering_laws.specs.Counts.{Counts, fresh, decided, with_constant, with_temp, is_constant, tree_shape, counted}
use Rattle.lowering_laws.specs.Trees.{Target, join, temp, argument_code, value_of, operator_code, tree_code, args_code, first_code}
use Rattle.lowering_laws.specs.Statements.{room_of, headed, stmt_next, stmts_next, declare_code, assign_code, write_code, loop_code, stmt_code, stmts_code}
use Rattle.lowering_laws.specs.Lowering.{target, close_code, start_choices, body_code}
use Rattle.lowering_laws.proofs.Joined.{or_none, or_swap, or_same, two_parts, joined, joined_first}

-- a library call has at most one value
abbrev AtMostOne : List Shape → Type 0
AtMostOne [] = Unit {0}
AtMostOne (s ∷ []) = Unit {0}
AtMostOne (s ∷ (u ∷ due)) = ⊥

few_params : (l : LibraryCall) → AtMostOne (library_params l)
few_params library.PrintInt = tt
few_params library.PrintBool = tt
few_params library.Print = tt
few_params library.PrintLine = tt
few_params library.ReadInt = tt
few_params library.MoreInt = tt

-- the function that is called
module _ (h : ℕ) where
  -- whether code calls it
  abbrev Calls : Code → Bool → Type 0
  Calls c x = code_calls h c ≡ x

  after : (c d : Code) (x y : Bool) → Calls c x → Calls d y → Calls (join c d) (x || y)
  after = joined (core.stmt_calls h) (code_calls h) refl (λ s c. refl)

  alone : (c d : Code) (x : Bool) → Calls c x → Calls d false → Calls (join c d) x
  alone = joined_first (core.stmt_calls h) (code_calls h) refl (λ s c. refl)

  argument_calls : (constant : Bool) (to : ℕ) (a : Simple) → Calls (argument_code constant to a) false
  argument_calls true to a = refl
  argument_calls false to a = refl

  operator_calls : (to : ℕ) (o : ExprOp) (site : Site) (v u : Simple) → Calls (operator_code to o site v u) false
  operator_calls to op.Add site v u = refl
  operator_calls to op.Sub site v u = refl
  operator_calls to op.Mul site v u = refl
  operator_calls to op.Div site v u = refl
  operator_calls to op.Rem site v u = refl
  operator_calls to op.Shl site v u = refl
  operator_calls to op.Shr site v u = refl
  operator_calls to op.And site v u = refl
  operator_calls to op.Or site v u = refl
  operator_calls to op.Xor site v u = refl
  operator_calls to op.Less site v u = refl
  operator_calls to op.LessEq site v u = refl
  operator_calls to op.Greater site v u = refl
  operator_calls to op.GreaterEq site v u = refl
  operator_calls to op.Equal site v u = refl
  operator_calls to op.NotEqual site v u = refl

  -- a call comes behind its arguments
  call_last : (x e : Bool) → (x || (e || false)) ≡ (e || x)
  call_last x e = or_same x (e || false) x e refl (or_none e) ∙ or_swap x e

  module _ (p : Program) (w : Target) where
    module _ (r : Room) where
      mutual
        tree_does : (c : Counts) (e : Tree) (s : Shape) → HasShape p r e s → Calls (tree_code p r w c e) (tree_calls h e)
        tree_does c (number_at at n) s fit = refl
        tree_does c (truth_at at t) s fit = refl
        tree_does c (null_at at) s fit = refl
        tree_does c (local_at at i) s fit = refl
        tree_does c (result_at at) s fit = refl
        tree_does c (unary_at at o x) s fit = alone (tree_code p r w c x) _ (tree_calls h x) (tree_does c x (unary_shape o) fit.1) refl
        tree_does c (binary_at at o x y) s fit =
            let c1 : Counts = counted p r c x in
            after (tree_code p r w c x) _ (tree_calls h x) (tree_calls h y) (tree_does c x fit.1 fit.3)
            (alone (tree_code p r w c1 y) _ (tree_calls h y) (tree_does c1 y fit.2 fit.4) (operator_calls _ o _ _ _))
        tree_does c (both_at at x y) s fit =
            let c1 : Counts = decided 1 (counted p r c x) in
            after (tree_code p r w c x) _ (tree_calls h x) (tree_calls h y) (tree_does c x Truth fit.1)
            (two_parts _ false (tree_calls h y) false (alone (tree_code p r w c1 y) _ (tree_calls h y) (tree_does c1 y Truth fit.2) refl) refl ∙ or_none (tree_calls h y))
        tree_does c (either_at at x y) s fit =
            let c1 : Counts = decided 1 (counted p r c x) in
            after (tree_code p r w c x) _ (tree_calls h x) (tree_calls h y) (tree_does c x Truth fit.1)
            (two_parts false _ false (tree_calls h y) refl (alone (tree_code p r w c1 y) _ (tree_calls h y) (tree_does c1 y Truth fit.2) refl))
        tree_does c (choose_at at x y z) s fit =
            let c1 : Counts = decided 1 (counted p r c x) in
            let c2 : Counts = counted p r c1 y in
            after (tree_code p r w c x) _ (tree_calls h x) (tree_calls h y || tree_calls h z) (tree_does c x Truth fit.0)
            (two_parts _ _ (tree_calls h y) (tree_calls h z)
            (alone (tree_code p r w c1 y) _ (tree_calls h y) (tree_does c1 y fit.1 fit.3) refl) (alone (tree_code p r w c2 z) _ (tree_calls h z) (tree_does c2 z fit.2 fit.4) refl))
        tree_does c (read_at at x k field) s fit = alone (tree_code p r w c x) _ (tree_calls h x) (tree_does c x (Pointer k) fit.0) refl
        tree_does c (call_at at g es) s fit =
            after (args_code p r w c es) _ (trees_call h es) (eqb g h || false) (args_do c (params_in fit.0) es fit.2) refl ∙ call_last (trees_call h es) (eqb g h)
        tree_does c (library_at at l es t) s fit = alone (first_code p r w c es) _ (trees_call h es) (first_does c (library_params l) es (few_params l) fit.1) refl
        tree_does c (alloc_at at k) s fit = refl

        args_do : (c : Counts) (due : List Shape) (es : Trees) → AreGiven p r due es → Calls (args_code p r w c es) (trees_call h es)
        args_do c [] no_trees fit = refl
        args_do c [] (tree_and e es) fit = absurd fit
        args_do c (s ∷ due) no_trees fit = absurd fit
        args_do c (s ∷ due) (tree_and e es) fit =
            let c1 : Counts = counted p r c e in
            let c2 : Counts = with_constant (is_constant e) (tree_shape p r e) c1 in
            after (tree_code p r w c e) _ (tree_calls h e) (trees_call h es) (tree_does c e fit.0.0 fit.0.1)
            (after (argument_code (is_constant e) (temp w (tree_shape p r e) c1) (value_of p r w c e)) (args_code p r w c2 es) false (trees_call h es) (argument_calls (is_constant e) _ _) (args_do c2 due es fit.1))

        first_does : (c : Counts) (due : List Shape) (es : Trees) → AtMostOne due → AreGiven p r due es → Calls (first_code p r w c es) (trees_call h es)
        first_does c [] no_trees few fit = refl
        first_does c [] (tree_and e es) few fit = absurd fit
        first_does c (s ∷ due) no_trees few fit = absurd fit
        first_does c (s ∷ []) (tree_and e no_trees) few fit = tree_does c e fit.0.0 fit.0.1 ∙ sym (or_none (tree_calls h e))
        first_does c (s ∷ []) (tree_and e (tree_and x es)) few fit = absurd fit.1
        first_does c (s ∷ (u ∷ due)) (tree_and e es) few fit = absurd few

      given_does : (c : Counts) (s : Shape) (e : Tree) → IsGiven p r s e → Calls (tree_code p r w c e) (tree_calls h e)
      given_does c s e fit = tree_does c e fit.0 fit.1

      void_does : (c : Counts) (e : Tree) → IsVoidCall p r e → Calls (tree_code p r w c e) (tree_calls h e)
      void_does c (call_at at g es) fit =
          after (args_code p r w c es) _ (trees_call h es) (eqb g h || false) (args_do c (params_in fit.0) es fit.2) refl ∙ call_last (trees_call h es) (eqb g h)
      void_does c (library_at at l es t) fit = alone (first_code p r w c es) _ (trees_call h es) (first_does c (library_params l) es (few_params l) fit.1) refl
      void_does c e fit = absurd fit

      value_does : (c : Counts) (e : Tree) → ((s : Shape) × HasShape p r e s) ⊎ IsVoidCall p r e → Calls (tree_code p r w c e) (tree_calls h e)
      value_does c e (inl fit) = tree_does c e fit.0 fit.1
      value_does c e (inr fit) = void_does c e fit

      put_does : (c : Counts) (s : Shape) (o : Option ExprOp) (e : Tree) → PutFits p r s o e → Calls (tree_code p r w c e) (tree_calls h e)
      put_does c s None e fit = given_does c s e fit
      put_does c s (Some o) e fit = tree_does c e Int fit.1

      declare_does : (c : Counts) (i : ℕ) (s : Shape) (es : Trees) → InitialFits p r s es → Calls (declare_code p r w c i es) (trees_call h es)
      declare_does c i s no_trees fit = refl
      declare_does c i s (tree_and e no_trees) fit = alone (tree_code p r w c e) _ (tree_calls h e) (given_does c s e fit) refl ∙ sym (or_none (tree_calls h e))
      declare_does c i s (tree_and e (tree_and x es)) fit = absurd fit

      assign_does : (c : Counts) (i : ℕ) (s : Shape) (o : Option ExprOp) (op_at : Place) (e : Tree) → PutFits p r s o e → Calls (assign_code p r w c i o op_at e) (tree_calls h e)
      assign_does c i s None op_at e fit = alone (tree_code p r w c e) _ (tree_calls h e) (put_does c s None e fit) refl
      assign_does c i s (Some o) op_at e fit = alone (tree_code p r w c e) _ (tree_calls h e) (put_does c s (Some o) e fit) (operator_calls i o _ _ _)

      write_does : (c : Counts) (base : Tree) (k field : ℕ) (arrow : Place) (s : Shape) (o : Option ExprOp) (op_at : Place) (e : Tree) → HasShape p r base (Pointer k) → PutFits p r s o e →
          Calls (write_code p r w c base k field arrow o op_at e) (tree_calls h base || tree_calls h e)
      write_does c base k field arrow s None op_at e pointer fit =
          let c1 : Counts = counted p r c base in
          after (tree_code p r w c base) _ (tree_calls h base) (tree_calls h e) (tree_does c base (Pointer k) pointer) (alone (tree_code p r w c1 e) _ (tree_calls h e) (put_does c1 s None e fit) refl)
      write_does c base k field arrow s (Some o) op_at e pointer fit =
          let c1 : Counts = with_temp Int (counted p r c base) in
          after (tree_code p r w c base) _ (tree_calls h base) (tree_calls h e) (tree_does c base (Pointer k) pointer)
          (alone (tree_code p r w c1 e) _ (tree_calls h e) (put_does c1 s (Some o) e fit) (alone (operator_code _ o _ _ _) _ false (operator_calls _ o _ _ _) refl))

      loop_does : (n : ℕ) (place : Place) (inv : Formula) (e : Tree) (body : Code) (x : Bool) → HasShape p r e Truth → Calls body x → Calls (loop_code p r w n place inv e body) (tree_calls h e || x)
      loop_does n place inv e body x fit does =
          let c : Counts = fresh (headed n inv) in
          two_parts (code_calls h (tree_code p r w c e)) (code_calls h body) (tree_calls h e) x (tree_does c e Truth fit) does

      return_does : (c : Counts) (due : Option Shape) (es : Trees) → ReturnFits p r due es → Calls (first_code p r w c es) (trees_call h es)
      return_does c None no_trees fit = refl
      return_does c None (tree_and e es) fit = absurd fit
      return_does c (Some s) no_trees fit = absurd fit
      return_does c (Some s) (tree_and e no_trees) fit = given_does c s e fit ∙ sym (or_none (tree_calls h e))
      return_does c (Some s) (tree_and e (tree_and x es)) fit = absurd fit

    module _ (f : Function) (due : Option Shape) where
      mutual
        stmt_does : (n : ℕ) (s : Stmt) → StmtFits p (room_of f) due s → Calls (stmt_code p f w n s) (stmt_calls h s)
        stmt_does n (declare_at at i es) fit = declare_does (room_of f) (fresh n) i fit.0 es fit.2
        stmt_does n (assign_at at i o op_at e) fit = assign_does (room_of f) (fresh n) i fit.0 o op_at e fit.2
        stmt_does n (write_at at base k field arrow o op_at e) fit = write_does (room_of f) (fresh n) base k field arrow fit.1 o op_at e fit.0 fit.3
        stmt_does n (plain_at at e) fit = value_does (room_of f) (fresh n) e fit
        stmt_does n (block_at at ss) fit = stmts_do n ss fit
        stmt_does n (if_at at e x ss) fit =
            let n1 : ℕ = (counted p (room_of f) (fresh n) e).next + 1 in
            after (tree_code p (room_of f) w (fresh n) e) _ (tree_calls h e) (stmt_calls h x || stmts_call h ss) (tree_does (room_of f) (fresh n) e Truth fit.0)
            (two_parts _ _ (stmt_calls h x) (stmts_call h ss) (stmt_does n1 x fit.1) (stmts_do (stmt_next p f n1 x) ss fit.2))
        stmt_does n (while_at at inv e x) fit =
            let n1 : ℕ = (counted p (room_of f) (fresh (headed n inv)) e).next + 1 in
            loop_does (room_of f) n at inv e (stmt_code p f w n1 x) (stmt_calls h x) fit.1 (stmt_does n1 x fit.2)
        stmt_does n (for_at at first e last inv x) fit =
            let n1 : ℕ = stmts_next p f n first in
            let n2 : ℕ = (counted p (room_of f) (fresh (headed n1 inv)) e).next + 1 in
            let more : Code = stmts_code p f w (stmt_next p f n2 x) last in
            after (stmts_code p f w n first) _ (stmts_call h first) (tree_calls h e || (stmts_call h last || stmt_calls h x)) (stmts_do n first fit.0)
            (loop_does (room_of f) n1 at inv e (join (stmt_code p f w n2 x) more) (stmts_call h last || stmt_calls h x) fit.1
            (after (stmt_code p f w n2 x) more (stmt_calls h x) (stmts_call h last) (stmt_does n2 x fit.4) (stmts_do (stmt_next p f n2 x) last fit.2) ∙ or_swap (stmt_calls h x) (stmts_call h last)))
        stmt_does n (return_at at es) fit = alone (first_code p (room_of f) w (fresh n) es) _ (trees_call h es) (return_does (room_of f) (fresh n) due es fit) refl
        stmt_does n (assert_at at e) fit = alone (tree_code p (room_of f) w (fresh n) e) _ (tree_calls h e) (tree_does (room_of f) (fresh n) e Truth fit) refl
        stmt_does n (raise_at at t) fit = refl
        stmt_does n (note_at at k formula) fit = refl

        stmts_do : (n : ℕ) (ss : Stmts) → StmtsFit p (room_of f) due ss → Calls (stmts_code p f w n ss) (stmts_call h ss)
        stmts_do n no_stmts fit = refl
        stmts_do n (stmt_and s ss) fit =
            after (stmt_code p f w n s) (stmts_code p f w (stmt_next p f n s) ss) (stmt_calls h s) (stmts_call h ss) (stmt_does n s fit.0) (stmts_do (stmt_next p f n s) ss fit.1)

  close_calls : (w : Target) (f : Function) (o : Option Shape) → Calls (close_code w f o) false
  close_calls w f None = refl
  close_calls w f (Some s) = refl

  pub body_calls : (p : Program) (g : ℕ) (f : Function) → FunctionFits p f → code_calls h (body_code p g f) ≡ stmts_call h f.body
  body_calls p g f fit =
      alone (stmts_code p f (target p g f) (start_choices p g f) f.body) (close_code (target p g f) f f.result) (stmts_call h f.body)
      (stmts_do p (target p g f) f f.result (start_choices p g f) f.body fit.body) (close_calls (target p g f) f f.result)
