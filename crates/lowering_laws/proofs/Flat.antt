-- The code of expressions is flat: it has no loop, no `return` and no annotation, and sets only what it may.
use Rattle.std.proofs.Common.{◌≡◌, ℕ, Bool, true, false, List, [], ◌++◌, eqb, Option, Some, None, IfSome, refl, ap, ◌∙◌}
use Rattle.std.proofs.lemmas.Bool.{and_from, or_from}
use Rattle.gc0_base.specs.declared.place.Place.{Place}
use Rattle.gc0_base.specs.declared.site.Site.{Site}
use Rattle.gc0_tree.specs.declared.Shape.{Shape}
use Rattle.gc0_tree.specs.declared.Shape.TheVariants.{Int, Pointer}
use Rattle.gc0_tree.specs.declared.ExprOp.{ExprOp}
use Rattle.gc0_tree.specs.declared.ExprOp.TheVariants as op
use Rattle.gc0_tree.specs.Tree.{Tree, number_at, truth_at, null_at, local_at, result_at, unary_at, binary_at, both_at, either_at, choose_at, read_at, call_at, library_at, alloc_at, Trees, no_trees, tree_and, Program}
use Rattle.gc0_tree.specs.Fits.{library_gives, Room}
use Rattle.std.specs.Prelude.{slice_get}
use Rattle.core_tree.specs.declared.Simple.{Simple}
use Rattle.core_tree.specs.CoreTree.{CoreStmt, do_step, do_set, do_unary, do_binary, do_load, do_store, do_new, do_call, do_library, do_if, do_loop, do_return, do_assert, do_raise, do_note, Code, no_code, code_and}
use Rattle.core_meaning.specs.Assigned as core
use Rattle.core_meaning.specs.Assigned.{is_target, code_sets}
use Rattle.core_meaning.specs.CorePrecision.{stmt_open, code_open}
use Rattle.core_meaning.specs.Stepped.{stmt_returns, code_returns, stmt_tests, code_tests, stmt_unframed, code_unframed}
use Rattle.lowering_laws.specs.Counts.{result_of, Counts, decided, with_constant, with_temp, is_constant, tree_shape, counted, args_counted, first_counted}
use Rattle.lowering_laws.specs.Trees.{Target, join, temp, temp_if, argument_code, value_of, operator_code, tree_code, args_code, first_code}
use Rattle.lowering_laws.specs.Statements.{declare_code, assign_code, write_code}

-- flat code, where P says what may be set
abbrev mutual
  pub FlatStmt : (ℕ → Type 0) → CoreStmt → Type 0
  FlatStmt P do_step = Unit {0}
  FlatStmt P (do_set to a) = P to
  FlatStmt P (do_unary to o a) = P to
  FlatStmt P (do_binary to o a b site) = P to
  FlatStmt P (do_load to base k field site) = P to
  FlatStmt P (do_store base k field value site) = Unit {0}
  FlatStmt P (do_new to k) = P to
  FlatStmt P (do_call to g args site) = IfSome to P
  FlatStmt P (do_library to l a t site) = IfSome to P
  FlatStmt P (do_if d a these those) = Flat P these × Flat P those
  FlatStmt P (do_loop entry again inv d test a body) = ⊥
  FlatStmt P (do_return a site) = ⊥
  FlatStmt P (do_assert a site) = ⊥
  FlatStmt P (do_raise t site) = ⊥
  FlatStmt P (do_note k formula site) = ⊥

  pub Flat : (ℕ → Type 0) → Code → Type 0
  Flat P no_code = Unit {0}
  Flat P (code_and s rest) = FlatStmt P s × Flat P rest

-- ---- what flat code is
pub no_places : (xs ys : List Place) → xs ≡ [] → ys ≡ [] → xs ++ ys ≡ []
no_places xs ys h k = ap (λ l. l ++ ys) h ∙ k

module _ (P : ℕ → Type 0) where
  mutual
    stmt_no_return : (s : CoreStmt) → FlatStmt P s → stmt_returns s ≡ false
    stmt_no_return (do_if d a these those) h = or_from (code_returns these) (code_returns those) (no_return these h.0) (no_return those h.1)
    stmt_no_return (do_loop entry again inv d test a body) h = absurd h
    stmt_no_return (do_return a site) h = absurd h
    stmt_no_return s h = refl

    pub no_return : (c : Code) → Flat P c → code_returns c ≡ false
    no_return no_code h = refl
    no_return (code_and s c) h = or_from (stmt_returns s) (code_returns c) (stmt_no_return s h.0) (no_return c h.1)

  mutual
    stmt_no_loop : (s : CoreStmt) → FlatStmt P s → stmt_tests s ≡ true
    stmt_no_loop (do_if d a these those) h = and_from (code_tests these) (code_tests those) (no_loop these h.0) (no_loop those h.1)
    stmt_no_loop (do_loop entry again inv d test a body) h = absurd h
    stmt_no_loop s h = refl

    pub no_loop : (c : Code) → Flat P c → code_tests c ≡ true
    no_loop no_code h = refl
    no_loop (code_and s c) h = and_from (stmt_tests s) (code_tests c) (stmt_no_loop s h.0) (no_loop c h.1)

  mutual
    stmt_no_invariant : (s : CoreStmt) → FlatStmt P s → stmt_unframed s ≡ []
    stmt_no_invariant (do_if d a these those) h = no_places (code_unframed these) (code_unframed those) (no_invariant these h.0) (no_invariant those h.1)
    stmt_no_invariant (do_loop entry again inv d test a body) h = absurd h
    stmt_no_invariant s h = refl

    pub no_invariant : (c : Code) → Flat P c → code_unframed c ≡ []
    no_invariant no_code h = refl
    no_invariant (code_and s c) h = no_places (stmt_unframed s) (code_unframed c) (stmt_no_invariant s h.0) (no_invariant c h.1)

  mutual
    stmt_closed : (s : CoreStmt) → FlatStmt P s → stmt_open s ≡ false
    stmt_closed (do_if d a these those) h = or_from (code_open these) (code_open those) (closed these h.0) (closed those h.1)
    stmt_closed (do_loop entry again inv d test a body) h = absurd h
    stmt_closed (do_note k formula site) h = absurd h
    stmt_closed s h = refl

    pub closed : (c : Code) → Flat P c → code_open c ≡ false
    closed no_code h = refl
    closed (code_and s c) h = or_from (stmt_open s) (code_open c) (stmt_closed s h.0) (closed c h.1)

-- a local is not set where none that may be set is it
module _ (i : ℕ) where
  abbrev pub Other : ℕ → Type 0
  Other to = eqb to i ≡ false

  target_other : (to : Option ℕ) → IfSome to Other → is_target i to ≡ false
  target_other None h = refl
  target_other (Some to) h = h

  mutual
    stmt_leaves : (s : CoreStmt) → FlatStmt Other s → core.stmt_sets i s ≡ false
    stmt_leaves do_step h = refl
    stmt_leaves (do_set to a) h = h
    stmt_leaves (do_unary to o a) h = h
    stmt_leaves (do_binary to o a b site) h = h
    stmt_leaves (do_load to base k field site) h = h
    stmt_leaves (do_store base k field value site) h = refl
    stmt_leaves (do_new to k) h = h
    stmt_leaves (do_call to g args site) h = target_other to h
    stmt_leaves (do_library to l a t site) h = target_other to h
    stmt_leaves (do_if d a these those) h = or_from (code_sets i these) (code_sets i those) (leaves these h.0) (leaves those h.1)
    stmt_leaves (do_loop entry again inv d test a body) h = absurd h
    stmt_leaves (do_return a site) h = refl
    stmt_leaves (do_assert a site) h = refl
    stmt_leaves (do_raise t site) h = refl
    stmt_leaves (do_note k formula site) h = refl

    pub leaves : (c : Code) → Flat Other c → code_sets i c ≡ false
    leaves no_code h = refl
    leaves (code_and s c) h = or_from (core.stmt_sets i s) (code_sets i c) (stmt_leaves s h.0) (leaves c h.1)

-- ---- the code of expressions is flat
module _ (P : ℕ → Type 0) where
  flat_join : (c d : Code) → Flat P c → Flat P d → Flat P (join c d)
  flat_join no_code d h k = k
  flat_join (code_and s c) d h k = (h.0, flat_join c d h.1 k)

  operator_flat : (to : ℕ) (o : ExprOp) (site : Site) (v u : Simple) → P to → Flat P (operator_code to o site v u)
  operator_flat to op.Add site v u h = (h, tt)
  operator_flat to op.Sub site v u h = (h, tt)
  operator_flat to op.Mul site v u h = (h, tt)
  operator_flat to op.Div site v u h = (h, tt)
  operator_flat to op.Rem site v u h = (h, tt)
  operator_flat to op.Shl site v u h = (h, tt)
  operator_flat to op.Shr site v u h = (h, tt)
  operator_flat to op.And site v u h = (h, tt)
  operator_flat to op.Or site v u h = (h, tt)
  operator_flat to op.Xor site v u h = (h, tt)
  operator_flat to op.Less site v u h = (h, tt)
  operator_flat to op.LessEq site v u h = (h, tt)
  operator_flat to op.Greater site v u h = (h, tt)
  operator_flat to op.GreaterEq site v u h = (h, (h, tt))
  operator_flat to op.Equal site v u h = (h, tt)
  operator_flat to op.NotEqual site v u h = (h, (h, tt))

  argument_flat : (constant : Bool) (to : ℕ) (a : Simple) → P to → Flat P (argument_code constant to a)
  argument_flat true to a h = (h, tt)
  argument_flat false to a h = tt

  -- temporaries may be set
  module _ (p : Program) (w : Target) (temps : (s : Shape) (k : ℕ) → P (w.slot s k)) (r : Room) where
    result_flat : (o : Option Shape) (c : Counts) → IfSome (temp_if w o c) P
    result_flat None c = tt
    result_flat (Some s) c = temps s (c.used s)

    mutual
      pub tree_flat : (c : Counts) (e : Tree) → Flat P (tree_code p r w c e)
      tree_flat c (number_at at n) = tt
      tree_flat c (truth_at at t) = tt
      tree_flat c (null_at at) = tt
      tree_flat c (local_at at i) = tt
      tree_flat c (result_at at) = tt
      tree_flat c (unary_at at o x) = flat_join (tree_code p r w c x) _ (tree_flat c x) (temps _ _, tt)
      tree_flat c (binary_at at o x y) =
          let c1 : Counts = counted p r c x in
          flat_join (tree_code p r w c x) _ (tree_flat c x) (flat_join (tree_code p r w c1 y) _ (tree_flat c1 y) (operator_flat _ o _ _ _ (temps _ _)))
      tree_flat c (both_at at x y) =
          let c1 : Counts = decided 1 (counted p r c x) in
          flat_join (tree_code p r w c x) _ (tree_flat c x) ((flat_join (tree_code p r w c1 y) _ (tree_flat c1 y) (temps _ _, tt), (temps _ _, tt)), tt)
      tree_flat c (either_at at x y) =
          let c1 : Counts = decided 1 (counted p r c x) in
          flat_join (tree_code p r w c x) _ (tree_flat c x) (((temps _ _, tt), flat_join (tree_code p r w c1 y) _ (tree_flat c1 y) (temps _ _, tt)), tt)
      tree_flat c (choose_at at x y z) =
          let c1 : Counts = decided 1 (counted p r c x) in
          let c2 : Counts = counted p r c1 y in
          flat_join (tree_code p r w c x) _ (tree_flat c x)
          ((flat_join (tree_code p r w c1 y) _ (tree_flat c1 y) (temps _ _, tt), flat_join (tree_code p r w c2 z) _ (tree_flat c2 z) (temps _ _, tt)), tt)
      tree_flat c (read_at at x k field) = flat_join (tree_code p r w c x) _ (tree_flat c x) (temps _ _, tt)
      tree_flat c (call_at at g es) = flat_join (args_code p r w c es) _ (args_flat c es) (tt, (result_flat (result_of (slice_get p.functions g)) (args_counted p r c es), tt))
      tree_flat c (library_at at l es t) = flat_join (first_code p r w c es) _ (first_flat c es) (tt, (result_flat (library_gives l) (first_counted p r c es), tt))
      tree_flat c (alloc_at at k) = (tt, (temps (Pointer k) (c.used (Pointer k)), tt))

      pub args_flat : (c : Counts) (es : Trees) → Flat P (args_code p r w c es)
      args_flat c no_trees = tt
      args_flat c (tree_and e es) =
          let c1 : Counts = counted p r c e in
          let c2 : Counts = with_constant (is_constant e) (tree_shape p r e) c1 in
          flat_join (tree_code p r w c e) _ (tree_flat c e)
          (flat_join (argument_code (is_constant e) (temp w (tree_shape p r e) c1) (value_of p r w c e)) (args_code p r w c2 es) (argument_flat (is_constant e) _ _ (temps _ _)) (args_flat c2 es))

      pub first_flat : (c : Counts) (es : Trees) → Flat P (first_code p r w c es)
      first_flat c no_trees = tt
      first_flat c (tree_and e es) = tree_flat c e

    pub declare_flat : (c : Counts) (i : ℕ) (es : Trees) → P i → Flat P (declare_code p r w c i es)
    declare_flat c i no_trees h = tt
    declare_flat c i (tree_and e es) h = flat_join (tree_code p r w c e) _ (tree_flat c e) (h, tt)

    pub assign_flat : (c : Counts) (i : ℕ) (o : Option ExprOp) (op_at : Place) (e : Tree) → P i → Flat P (assign_code p r w c i o op_at e)
    assign_flat c i None op_at e h = flat_join (tree_code p r w c e) _ (tree_flat c e) (h, tt)
    assign_flat c i (Some o) op_at e h = flat_join (tree_code p r w c e) _ (tree_flat c e) (operator_flat i o _ _ _ h)

    pub write_flat : (c : Counts) (base : Tree) (k field : ℕ) (arrow : Place) (o : Option ExprOp) (op_at : Place) (e : Tree) → Flat P (write_code p r w c base k field arrow o op_at e)
    write_flat c base k field arrow None op_at e =
        let c1 : Counts = counted p r c base in
        flat_join (tree_code p r w c base) _ (tree_flat c base) (flat_join (tree_code p r w c1 e) _ (tree_flat c1 e) (tt, tt))
    write_flat c base k field arrow (Some o) op_at e =
        let c1 : Counts = counted p r c base in
        let c2 : Counts = with_temp Int c1 in
        flat_join (tree_code p r w c base) _ (tree_flat c base)
        (temps Int (c1.used Int), flat_join (tree_code p r w c2 e) _ (tree_flat c2 e) (flat_join (operator_code _ o _ _ _) _ (operator_flat _ o _ _ _ (temps Int (c1.used Int))) (tt, tt)))

-- the same where anything may be set
abbrev pub Anything : ℕ → Type 0
Anything to = Unit {0}

abbrev pub IsFlat : Code → Type 0
IsFlat c = Flat Anything c
