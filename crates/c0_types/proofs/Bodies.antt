-- Statements without violations fit.
use Rattle.std.proofs.Common.{◌≡◌, ℕ, Bool, true, false, List, [], ◌∷◌, ◌++◌, length, Option, Some, None, is_some, slice_get, option_map, if◌then◌else◌, refl, sym, subst, ap, ◌∙◌, inl, inr}
use Rattle.std.specs.Prelude.{◌⊎◌}
use Rattle.gc0_base.specs.declared.place.Place.{Place}
use Rattle.parsed_tree.specs.declared.statements.UpdateOperator.{UpdateOperator}
use Rattle.parsed_tree.specs.Tree.{ExprTree, local, arrow, spot_of, NoteForm, assert_note, fold_note, unfold_note, NoteTree, InvariantTree, InvariantsTree, SimpleTree, declare, assign, stepped, plain, StmtTree, simple_stmt, block_stmt, if_stmt, while_stmt, for_stmt, return_stmt, assert_stmt, error_stmt, notes_stmt, StmtTrees, no_stmts, stmt_and}
use Rattle.gc0_tree.specs.declared.Shape.{Shape}
use Rattle.gc0_tree.specs.declared.Shape.TheVariants as shape
use Rattle.gc0_tree.specs.declared.ExprOp.{ExprOp}
use Rattle.gc0_tree.specs.Tree as tree
use Rattle.gc0_tree.specs.Fits.{HasShape, PartsFit, InitialFits, ReturnFits, PutFits, StmtFits, StmtsFit, Room}
use Rattle.c0_names.specs.declared.types.BaseType.TheVariants.{Struct}
use Rattle.c0_names.specs.declared.types.ValueType.{ValueType}
use Rattle.c0_names.specs.declared.types.ValueType.TheVariants.{Written, Null, Void, Text}
use Rattle.c0_names.specs.declared.tables.Tables.{Tables}
use Rattle.c0_names.specs.Names.{last_place}
use Rattle.c0_names.specs.Tables.{type_in, value_type}
use Rattle.c0_names.specs.Types.{int, bool, is_int, is_void, fits}
use Rattle.c0_value_rules.specs.declared.violation.Rule.TheVariants as rule
use Rattle.c0_value_rules.specs.declared.scope.Standing.{Standing}
use Rattle.c0_value_rules.specs.declared.scope.Scope.{Scope}
use Rattle.c0_value_rules.specs.Violations.{violation, unless}
use Rattle.c0_value_rules.specs.Scopes.{standing_of, held_type, read_type, is_read_well, closed}
use Rattle.c0_rules.specs.Behind.{part_behind, stmt_behind}
use Rattle.c0_value_rules.specs.Expressions.{type_here, local_violations, due_violations, expr_violations, value_violations}
use Rattle.c0_value_rules.specs.Formulas.{formula_violations, form_violations, notes_violations, clauses_violations, invariants_violations}
use Rattle.c0_rules.specs.Statements.{held_violations, declared_violations, right_violations, standing_violations, local_target, target_violations, local_target_type, target_type, suits, assigned_violations, simple_violations, part_violations, returned_violations, return_violations, stmt_violations, stmts_violations}
use Rattle.c0_value_numbers.specs.declared.frame.Frame.{Frame}
use Rattle.c0_value_numbers.specs.Values.{number_in, shape_of, type_in_frame}
use Rattle.c0_value_numbers.specs.Texts.{Texts, expr_texts}
use Rattle.c0_numbers.specs.StatementTexts.{part_texts, stmt_texts}
use Rattle.c0_value_numbers.specs.Expressions.{expr_tree}
use Rattle.c0_value_numbers.specs.Formulas.{joined, invariant_clauses, invariants}
use Rattle.c0_numbers.specs.Statements.{simple_frame, part_frame, stmt_frame, stmts_frame, update_of, step_of, optional_tree, initial_tree, write_tree, put_tree, simple_tree, part_tree, note_form, notes_tree, alone, before, stmt_tree, stmts_tree, else_tree}
use Rattle.c0_types.proofs.Looks.{placed, number_is, even_length, slice_end}
use Rattle.c0_types.proofs.Shapes.{Held, held_int, held_truth, held_pointer, int_of, both_left, both_right, fits_suits, fits_value, held_value}
use Rattle.c0_types.proofs.Raised.{Below}
use Rattle.c0_types.proofs.World.{given, Gives, gives_value, World, Sees}
use Rattle.c0_types.proofs.Values.{arrow_parts, accessed_is}
use Rattle.c0_types.proofs.Given.{in_frame, reached_in, value_given}
use Rattle.c0_types.proofs.Clean.{left_none, right_none, kept, the_value, typed}
use Rattle.c0_types.proofs.Formulas.{Spot, value_here, given_here, truth_here, instance_fits, formula_fits, AllClean, all_fit, clean_both}
use Rattle.c0_types.proofs.Frames.{Agrees, shrunk, kept_type, held_here, part_step, for_parts, last_agrees, stmt_step, simple_more, part_more, stmt_more, stmts_more}

-- the frame's locals stand in the room by their numbers
abbrev pub Front : Room → Frame → Type 0
Front room f =
    (i : ℕ) (v : ValueType) → slice_get f.locals.types i ≡ Some v → slice_get room.locals i ≡ Some
    (shape_of v)

pub places_in : (room : Room) (f : Frame) → Front room f → (n : List ℕ) (v : ValueType) →
    type_in f.locals n ≡ Some v →
    slice_get room.locals (number_in f.locals.names n) ≡ Some (shape_of v)
places_in room f front n v e =
    let q = placed f.locals.names f.locals.types n v e in
    subst (λ i. slice_get room.locals i ≡ Some (shape_of v))
    (sym (number_is f.locals.names n q.0 q.1)) (front q.0 v q.2)

read_held : (b : Bool) (o : Option ValueType) (v : ValueType) → (if b then o else None) ≡ Some v →
    o ≡ Some v
read_held true o v e = e
read_held false o v e = let n : ⊥ = cc in absurd n

pub sees_in : (room : Room) (f : Frame) (scope : Scope) → Agrees scope f → Front room f →
    (r : Option ValueType) → ((v : ValueType) → r ≡ Some v →
    (v ≡ f.result) × Held v × (room.outcome ≡ Some (shape_of v))) → Sees room f (read_type scope) r
sees_in room f scope g front r o =
    record {
      reads = λ n v e. g.same n v (read_held (is_read_well scope n) (held_type scope n) v e);
      places = places_in room f front;
      outcome = o;
    }

pub no_outcome : (f : Frame) (room : Room) (v : ValueType) →
    ◌≡◌ {A = Option ValueType} None (Some v) →
    (v ≡ f.result) × Held v × (room.outcome ≡ Some (shape_of v))
no_outcome f room v e = let n : ⊥ = cc in absurd n

holds_some : (o : Option Standing) (at : Place) → standing_violations at o ≡ [] →
    is_some (option_map (λ s. s.holds) o) ≡ true
holds_some None at e = let n : ⊥ = cc in absurd n
holds_some (Some s) at e = refl

well_read : (at : Place) (known well : Bool) →
    (if known then unless well rule.Unassigned at else (violation rule.Unknown at ∷ [])) ≡ [] →
    well ≡ true
well_read at false well h = let n : ⊥ = cc in absurd n
well_read at true well h = kept well rule.Unassigned at h

read_some : (b : Bool) (o : Option ValueType) → b ≡ true → is_some o ≡ true →
    is_some (if b then o else None) ≡ true
read_some false o e s = let n : ⊥ = cc in absurd n
read_some true o e s = s

pub held_given : (v : ValueType) → Held v → given v ≡ Some (shape_of v)
held_given v held_int = refl
held_given v held_truth = refl
held_given v (held_pointer k) = refl

alone_fits : (p : tree.Program) (room : Room) (due : Option Shape) (at : Place) (ss : tree.Stmts) →
    StmtsFit p room due ss → StmtFits p room due (alone at ss)
alone_fits p room due at tree.no_stmts h = tt
alone_fits p room due at (tree.stmt_and s tree.no_stmts) h = h.0
alone_fits p room due at (tree.stmt_and s (tree.stmt_and x ss)) h = h

stepped_int : (v : ValueType) → Held v → fits int v ≡ true → shape_of v ≡ shape.Int
stepped_int v held_int e = refl
stepped_int v held_truth e = let n : ⊥ = cc in absurd n
stepped_int v (held_pointer k) e = let n : ⊥ = cc in absurd n

module _ (t u : Tables) (p : tree.Program) (below : Below t u) (world : World u p) (room : Room)
  where
    -- a statement's spot: `\result` stands in none
    abbrev pub spot_at : (scope : Scope) (f : Frame) → Agrees scope f → Front room f → Spot t u p
    spot_at scope f g front =
        record {
          below = below;
          world = world;
          room = room;
          frame = f;
          scope = scope;
          outcome = None;
          even = g.even;
          sees = sees_in room f scope g front None (no_outcome f room);
        }

    -- ---- targets
    local_some : (scope : Scope) (reads : Bool) (at : Place) (n : List ℕ) →
        local_target scope reads at n ≡ [] → is_some (local_target_type scope reads n) ≡ true
    local_some scope false at n h =
        holds_some (standing_of scope n) at (left_none (standing_violations at (standing_of scope n))
        [] h)
    local_some scope true at n h =
        let a = standing_violations at (standing_of scope n) in
        let b = local_violations scope at n in
        read_some (is_read_well scope n) (held_type scope n)
        (well_read at (is_some (last_place scope.names n)) (is_read_well scope n)
        (right_none a b h)) (holds_some (standing_of scope n) at (left_none a b h))

    local_held : (scope : Scope) (reads : Bool) (n : List ℕ) (v : ValueType) →
        local_target_type scope reads n ≡ Some v → held_type scope n ≡ Some v
    local_held scope false n v e = e
    local_held scope true n v e = read_held (is_read_well scope n) (held_type scope n) v e

    target_some : (scope : Scope) (f : Frame) → Agrees scope f → (reads : Bool) (x : ExprTree) →
        target_violations t scope reads x ≡ [] → is_some (target_type t scope reads x) ≡ true
    target_some scope f g reads (local s n) h = local_some scope reads s.place n h
    target_some scope f g reads x h = typed t scope g.even None x h

    -- what is put fits the target, or where there is none, is a value
    put_fits : (scope : Scope) (f : Frame) → Agrees scope f → Front room f →
        (due : Option Shape) (ts : Texts) (reads : Bool) (x : ExprTree) (v : ValueType) (o :
        Option ExprOp) (q : Place) (y : tree.Tree) → target_type t scope reads x ≡ Some v →
        (Held v → PutFits p room (shape_of v) o y) → (w : Shape) × HasShape p room y w →
        StmtFits p room due (put_tree u f ts x o q y)
    put_fits scope f g front due ts reads (local s n) v o q y e h k =
        let a = g.same n v (local_held scope reads n v e) in
        (shape_of v, places_in room f front n v a.0, h a.1)
    put_fits scope f g front due ts reads (arrow s x n) v o q y e h k =
        let c = spot_at scope f g front in
        let d = arrow_parts t (type_here t scope None x) n.name v e in
        let b = reached_in t u below (type_here t scope None x) (type_in_frame u f x) n.name v
        (in_frame t u below room f (read_type scope) None c.sees x) d in
        let z = world.fields b.of_struct b.fields n.name v b.defined b.typed in
        let base = value_given t u p below world room f (read_type scope) None c.sees ts x
        (Written (Struct d.of_struct) 1) d.base in
        subst (λ a. StmtFits p room due (write_tree s.first s.place (expr_tree u f ts x) a o q y))
        (sym (accessed_is u (type_in_frame u f x) n.name v b)) (base, shape_of v, z.0, h z.1)
    put_fits scope f g front due ts reads x v o q y e h k = inl k

    assigned_fits : (reads : Bool) (at : Place) (due v : ValueType) →
        assigned_violations at reads (Some due) (Some v) ≡ [] → suits reads due v ≡ true
    assigned_fits reads at due v h = kept (suits reads due v) rule.WrongType at h

    -- by the operator, a value fits the held type, or both are ints
    right_fits : (o : Option UpdateOperator) (y : tree.Tree) (due v : ValueType) →
        suits (is_some o) due v ≡ true → Gives p room y v → Held due →
        PutFits p room (shape_of due) (option_map update_of o) y
    right_fits None y due v e h held =
        (shape_of v, gives_value p room y v (fits_value due v e) h, fits_suits due v held e)
    right_fits (Some o) y due v e h held = (
      ap shape_of (int_of due (both_left (is_int due) (is_int v) e)),
      subst (Gives p room y)
          (int_of v (both_right (is_int due) (is_int v) e)) h,
    )

    right_value : (o : Option UpdateOperator) (y : tree.Tree) (due v : ValueType) →
        suits (is_some o) due v ≡ true → Gives p room y v → (w : Shape) × HasShape p room y w
    right_value None y due v e h = (shape_of v, gives_value p room y v (fits_value due v e) h)
    right_value (Some o) y due v e h =
        (shape.Int, subst (Gives p room y) (int_of v (both_right (is_int due) (is_int v) e)) h)

    -- ---- simple statements
    initial_fits : (scope : Scope) (f : Frame) → Agrees scope f → Front room f →
        (ts : Texts) (due : ValueType) → Held due → (v : Option (Place × ExprTree)) →
        right_violations t scope due v ≡ [] →
        InitialFits p room (shape_of due) (initial_tree u f ts v)
    initial_fits scope f g front ts due held None h = tt
    initial_fits scope f g front ts due held (Some v) h =
        let a = expr_violations t scope None v.1 in
        let b = due_violations v.0 due (type_here t scope None v.1) in
        given_here t u p (spot_at scope f g front) ts v.1 v.0 due held (left_none a b h)
        (right_none a b h)

    plain_fits : (due : Option Shape) (at : Place) (x : tree.Tree) (v : ValueType) →
        Gives p room x v → StmtFits p room due (tree.plain_at at x)
    plain_fits due at x (Written b m) h = inl (shape_of (Written b m), h)
    plain_fits due at x Null h = inl (shape.Null, h)
    plain_fits due at x Void h = inr h
    plain_fits due at x Text h = inl (shape.Null, h)

    pub simple_fits : (scope : Scope) (f : Frame) (due : Option Shape) (ts : Texts) (s : SimpleTree) →
        Agrees scope f → Front room (simple_frame u f s) → simple_violations t scope s ≡ [] →
        StmtFits p room due (simple_tree u f ts s)
    simple_fits scope f due ts (declare n name v) g front h =
        let a = held_violations t n in
        let b = declared_violations scope name in
        let c = right_violations t scope (value_type t n) v in
        let k = right_none a (b ++ c) h in
        let held = held_here t n (left_none a (b ++ c) h) in
        let w = value_type u n in
        let last : slice_get (f.locals.types ++ w ∷ []) (length f.locals.names) ≡ Some w = subst
        (λ i. slice_get (f.locals.types ++ w ∷ []) i ≡ Some w)
        (even_length f.locals.names f.locals.types g.locals) (slice_end f.locals.types w []) in
        let z = ap (λ x. Some (shape_of x)) (kept_type t u below n held) in (
          shape_of (value_type t n),
          front (length f.locals.names) w last ∙ z,
          initial_fits scope f g
              (λ i x e. front i x (simple_more u f (declare n name v) i x e)) ts (value_type t n) held v
              (right_none b c k),
        )
    simple_fits scope f due ts (assign x q o y) g front h =
        let a = target_violations t scope (is_some o) x in
        let b = expr_violations t scope None y in
        let dv = target_type t scope (is_some o) x in
        let yv = type_here t scope None y in
        let c = assigned_violations q (is_some o) dv yv in
        let k = right_none a (b ++ c) h in
        let d = the_value dv (target_some scope f g (is_some o) x (left_none a (b ++ c) h)) in
        let v = value_here t u p (spot_at scope f g front) (expr_texts ts x) y (left_none b c k) in
        let m = subst (λ i. assigned_violations q (is_some o) i yv ≡ []) d.1 (right_none b c k) in
        let l = assigned_fits (is_some o) q d.0 v.0 (subst
        (λ i. assigned_violations q (is_some o) (Some d.0) i ≡ []) v.1 m) in
        let z = expr_tree u f (expr_texts ts x) y in
        put_fits scope f g front due ts (is_some o) x d.0 (option_map update_of o) q z d.1
        (right_fits o z d.0 v.0 l v.2) (right_value o z d.0 v.0 l v.2)
    simple_fits scope f due ts (stepped x q o) g front h =
        let a = target_violations t scope true x in
        let dv = target_type t scope true x in
        let b = due_violations q int dv in
        let d = the_value dv (target_some scope f g true x (left_none a b h)) in
        let e = kept (fits int d.0) rule.WrongType q
        (subst (λ i. due_violations q int i ≡ []) d.1 (right_none a b h)) in
        put_fits scope f g front due ts true x d.0 (Some (step_of o)) q (tree.number_at q 1) d.1
        (λ held. (stepped_int d.0 held e, refl)) (shape.Int, refl)
    simple_fits scope f due ts (plain x) g front h =
        let v = value_here t u p (spot_at scope f g front) ts x h in
        plain_fits due (spot_of x).first (expr_tree u f ts x) v.0 v.2

    part_fits : (scope : Scope) (f : Frame) (due : Option Shape) (ts : Texts) (s :
        Option SimpleTree) → Agrees scope f → Front room (part_frame u f s) →
        part_violations t scope s ≡ [] → StmtsFit p room due (part_tree u f ts s)
    part_fits scope f due ts None g front h = tt
    part_fits scope f due ts (Some s) g front h = (simple_fits scope f due ts s g front h, tt)

    -- ---- annotations
    module _ (scope : Scope) (f : Frame) (g : Agrees scope f) (front : Front room f) where
      form_fits : (due : Option Shape) (at : Place) (n : NoteForm) → form_violations t scope n ≡ [] →
          StmtFits p room due (note_form u f at n)
      form_fits due at (assert_note x) h =
          formula_fits t u p (spot_at scope f g front) x.parts tree.no_parts h tt
      form_fits due at (fold_note i) h =
          (instance_fits t u p (spot_at scope f g front) i.name.place i.name.name i.arguments h, tt)
      form_fits due at (unfold_note i) h =
          (instance_fits t u p (spot_at scope f g front) i.name.place i.name.name i.arguments h, tt)

      pub notes_fit : (due : Option Shape) (ns : List NoteTree) (rest : tree.Stmts) →
          notes_violations t scope ns ≡ [] → StmtsFit p room due rest →
          StmtsFit p room due (notes_tree u f ns rest)
      notes_fit due [] rest h k = k
      notes_fit due (n ∷ ns) rest h k =
          let a = form_violations t scope n.form in
          let b = notes_violations t scope ns in
          (form_fits due n.place n.form (left_none a b h), notes_fit due ns rest (right_none a b h) k)

      clauses_clean : (is : List InvariantTree) → clauses_violations t scope is ≡ [] →
          AllClean t u p (spot_at scope f g front) (invariant_clauses is)
      clauses_clean [] h = tt
      clauses_clean (i ∷ is) h =
          let a = formula_violations t scope None i.formula in
          let b = clauses_violations t scope is in
          (left_none a b h, clauses_clean is (right_none a b h))

      invariants_clean : (is : List InvariantsTree) → invariants_violations t scope is ≡ [] →
          AllClean t u p (spot_at scope f g front) (invariants is)
      invariants_clean [] h = tt
      invariants_clean (i ∷ is) h =
          let a = clauses_violations t scope i.clauses in
          let b = invariants_violations t scope is in
          clean_both t u p (spot_at scope f g front) (invariant_clauses i.clauses) (invariants is)
          (clauses_clean i.clauses (left_none a b h)) (invariants_clean is (right_none a b h))

      pub invariants_fit : (is : List InvariantsTree) → invariants_violations t scope is ≡ [] →
          PartsFit p room (joined u f (invariants is)).parts
      invariants_fit is h =
          all_fit t u p (spot_at scope f g front) (invariants is) (invariants_clean is h)

      pub test_fits : (ts : Texts) (e : ExprTree) → value_violations t scope None bool e ≡ [] →
          HasShape p room (expr_tree u f ts e) shape.Bool
      test_fits ts e h = truth_here t u p (spot_at scope f g front) ts e (spot_of e).first h

      -- ---- `return`
      returned_due : (at first : Place) (r : ValueType) (a : Option ValueType) → is_void r ≡ false →
          returned_violations at first r a ≡ due_violations first r a
      returned_due at first r None e = refl
      returned_due at first r (Some v) e =
          ap (λ b. if b then (violation rule.WrongType at ∷ []) else unless (fits r v) rule.WrongType
          first) e

      void_returned : (at first : Place) (a : Option ValueType) → is_some a ≡ true →
          returned_violations at first Void a ≡ [] → ⊥
      void_returned at first None s e = let n : ⊥ = cc in n
      void_returned at first (Some v) s e = let n : ⊥ = cc in n

      pub return_fits : (r : ValueType) → (r ≡ Void) ⊎ Held r →
          (ts : Texts) (at : Place) (e : Option ExprTree) → return_violations t scope at r e ≡ [] →
          ReturnFits p room (given r) (optional_tree u f ts e)
      return_fits r (inl q) ts at None h =
          subst (λ k. ReturnFits p room (given k) tree.no_trees) (sym q) tt
      return_fits r (inl q) ts at (Some e) h =
          let k = subst (λ k. return_violations t scope at k (Some e) ≡ []) q h in
          let a = expr_violations t scope None e in
          let b = returned_violations at (spot_of e).first Void (type_here t scope None e) in
          absurd (void_returned at (spot_of e).first (type_here t scope None e)
          (typed t scope g.even None e (left_none a b k)) (right_none a b k))
      return_fits r (inr held) ts at None h = let a = kept (is_void r) rule.WrongType at h in
          let b = held_value r held in let n : ⊥ = cc in absurd n
      return_fits r (inr held) ts at (Some e) h =
          let a = expr_violations t scope None e in
          let b = returned_violations at (spot_of e).first r (type_here t scope None e) in
          let k = sym (returned_due at (spot_of e).first r (type_here t scope None e)
          (held_value r held)) ∙ right_none a b h in
          subst (λ d. ReturnFits p room d (tree.tree_and (expr_tree u f ts e) tree.no_trees))
          (sym (held_given r held)) (given_here t u p (spot_at scope f g front) ts e
          (spot_of e).first r held (left_none a b h) k)

    -- a statement before others; the notes of an annotation stand there one by one
    before_fits : (r : ValueType) (scope : Scope) (f : Frame) (s : StmtTree) (made :
        tree.Stmt) (rest : tree.Stmts) → Agrees scope f → Front room (stmt_frame u f s) →
        stmt_violations t r scope s ≡ [] → StmtFits p room (given r) made →
        StmtsFit p room (given r) rest → StmtsFit p room (given r) (before u f s made rest)
    before_fits r scope f (notes_stmt at ns) made rest g front h x y =
        notes_fit scope f g front (given r) ns rest h y
    before_fits r scope f s made rest g front h x y = (x, y)

    -- ---- statements
    mutual
      pub stmt_fits : (r : ValueType) → (r ≡ Void) ⊎ Held r →
          (scope : Scope) (f : Frame) (ts : Texts) (s : StmtTree) → Agrees scope f →
          Front room (stmt_frame u f s) → stmt_violations t r scope s ≡ [] →
          StmtFits p room (given r) (stmt_tree u f ts s)
      stmt_fits r k scope f ts (simple_stmt s) g front h =
          simple_fits scope f (given r) ts s g front h
      stmt_fits r k scope f ts (block_stmt at ss) g front h = stmts_fit r k scope f ts ss g front h
      stmt_fits r k scope f ts (if_stmt at e s os) g front h =
          let a = value_violations t scope None bool e in
          let b = stmt_violations t r scope s in
          let c = stmts_violations t r scope os in
          let l = right_none a (b ++ c) h in
          let f1 = stmt_frame u f s in
          let x = stmt_step t u below r scope f s g (left_none b c l) in
          let m = shrunk scope (stmt_behind t scope s) f1 g.even x.grows x.agrees in (
            test_fits scope f g (λ i v q. front i v (stmts_more u f1 os i v (stmt_more u f s i v q)))
                ts e (left_none a (b ++ c) h),
            stmt_fits r k scope f (expr_texts ts e) s g
                (λ i v q. front i v (stmts_more u f1 os i v q)) (left_none b c l),
            else_fits r k scope f1 (stmt_texts (expr_texts ts e) s) os m front (right_none b c l),
          )
      stmt_fits r k scope f ts (while_stmt at e is s) g front h =
          let a = value_violations t scope None bool e in
          let b = invariants_violations t scope is in
          let c = stmt_violations t r scope s in
          let l = right_none a (b ++ c) h in (
            invariants_fit scope f g (λ i v q. front i v (stmt_more u f s i v q)) is
                (left_none b c l),
            test_fits scope f g (λ i v q. front i v (stmt_more u f s i v q)) ts e
                (left_none a (b ++ c) h),
            stmt_fits r k scope f (expr_texts ts e) s g front (right_none b c l),
          )
      stmt_fits r k scope f ts (for_stmt at a e b is s) g front h =
          let q = for_parts t u below r scope at s a e b is h in
          let inner = part_behind t scope a in
          let x = part_step t u below scope f a g q.first in
          let f1 = part_frame u f a in
          let y = stmt_step t u below r inner f1 s x.agrees q.body in
          let l = last_agrees t u below inner f1 b (stmt_behind t inner s) x.agrees y.grows q.last in
          let f2 = part_frame u f1 b in
          let before_test = part_texts ts a in
          let behind_test = expr_texts before_test e in (
            part_fits scope f (given r) ts a g (λ i v z. front i v
                (stmt_more u f2 s i v (part_more u f1 b i v z))) q.first,
            test_fits inner f1 x.agrees (λ i v z. front i v
                (stmt_more u f2 s i v (part_more u f1 b i v z))) before_test e q.test,
            part_fits (closed inner (stmt_behind t inner s)) f1 (given r) behind_test b l.0
                (λ i v z. front i v (stmt_more u f2 s i v z)) q.last,
            invariants_fit inner f2 l.1 (λ i v z. front i v (stmt_more u f2 s i v z)) is q.invariant,
            stmt_fits r k inner f2 (part_texts behind_test b) s l.1 front q.body,
          )
      stmt_fits r k scope f ts (return_stmt at e) g front h =
          return_fits scope f g front r k ts at e h
      stmt_fits r k scope f ts (assert_stmt at e) g front h = test_fits scope f g front ts e h
      stmt_fits r k scope f ts (error_stmt at x) g front h = tt
      stmt_fits r k scope f ts (notes_stmt at ns) g front h =
          alone_fits p room (given r) at (notes_tree u f ns tree.no_stmts)
          (notes_fit scope f g front (given r) ns tree.no_stmts h tt)

      pub stmts_fit : (r : ValueType) → (r ≡ Void) ⊎ Held r →
          (scope : Scope) (f : Frame) (ts : Texts) (ss : StmtTrees) → Agrees scope f →
          Front room (stmts_frame u f ss) → stmts_violations t r scope ss ≡ [] →
          StmtsFit p room (given r) (stmts_tree u f ts ss)
      stmts_fit r k scope f ts no_stmts g front h = tt
      stmts_fit r k scope f ts (stmt_and s ss) g front h =
          let a = stmt_violations t r scope s in
          let b = stmts_violations t r (stmt_behind t scope s) ss in
          let x = stmt_step t u below r scope f s g (left_none a b h) in
          let f1 = stmt_frame u f s in
          let rest = stmts_fit r k (stmt_behind t scope s) f1 (stmt_texts ts s) ss x.agrees front
          (right_none a b h) in
          before_fits r scope f s (stmt_tree u f ts s) (stmts_tree u f1 (stmt_texts ts s) ss) g
          (λ i v q. front i v (stmts_more u f1 ss i v q)) (left_none a b h)
          (stmt_fits r k scope f ts s g (λ i v q. front i v (stmts_more u f1 ss i v q))
          (left_none a b h)) rest

      else_fits : (r : ValueType) → (r ≡ Void) ⊎ Held r →
          (scope : Scope) (f : Frame) (ts : Texts) (ss : StmtTrees) → Agrees scope f →
          Front room (stmts_frame u f ss) → stmts_violations t r scope ss ≡ [] →
          StmtsFit p room (given r) (else_tree u f ts ss)
      else_fits r k scope f ts no_stmts g front h = tt
      else_fits r k scope f ts (stmt_and s ss) g front h =
          let a = stmt_violations t r scope s in
          let b = stmts_violations t r (stmt_behind t scope s) ss in
          let f1 = stmt_frame u f s in (
            stmt_fits r k scope f ts s g (λ i v q. front i v (stmts_more u f1 ss i v q))
                (left_none a b h),
            tt,
          )
