-- The statements of a function without violations assign no parameter that `ensures` names.
use Rattle.std.proofs.Common.{◌≡◌, ℕ, Bool, true, false, not, ◌||◌, List, [], ◌∷◌, ◌++◌, Option, Some, None, is_some, slice_get, unwrap_or, eqb, refl, sym, subst, ap, ◌∙◌}
use Rattle.std.proofs.lemmas.Bool.{ne_eqb}
use Rattle.gc0_base.specs.declared.place.Place.{Place}
use Rattle.gc0_tree.specs.declared.ExprOp.{ExprOp}
use Rattle.gc0_tree.specs.Tree as gc0
use Rattle.parsed_tree.specs.Tree.{ExprTree, local, NoteTree, NoteForm, assert_note, fold_note, unfold_note, SimpleTree, declare, assign, stepped, plain, StmtTree, simple_stmt, block_stmt, if_stmt, while_stmt, for_stmt, return_stmt, assert_stmt, error_stmt, notes_stmt, StmtTrees, no_stmts, stmt_and}
use Rattle.c0_names.specs.declared.types.ValueType.{ValueType}
use Rattle.c0_names.specs.declared.tables.Tables.{Tables}
use Rattle.c0_names.specs.Names.{last_place}
use Rattle.c0_names.specs.Tables.{value_type}
use Rattle.c0_names.specs.Types.{bool}
use Rattle.c0_value_rules.specs.declared.violation.Rule.TheVariants as rule
use Rattle.c0_value_rules.specs.declared.scope.Standing.{Standing}
use Rattle.c0_value_rules.specs.declared.scope.Scope.{Scope}
use Rattle.c0_value_rules.specs.Scopes.{standing_of, closed}
use Rattle.c0_value_rules.specs.Expressions.{value_violations}
use Rattle.c0_value_rules.specs.Formulas.{invariants_violations}
use Rattle.c0_rules.specs.Behind.{target_behind, simple_behind, part_behind, stmt_behind, stmts_behind}
use Rattle.c0_rules.specs.Statements.{held_violations, declared_violations, standing_violations, target_violations, right_violations, simple_violations, part_violations, stmt_violations, stmts_violations}
use Rattle.c0_value_numbers.specs.declared.frame.Frame.{Frame}
use Rattle.c0_value_numbers.specs.Values.{number_in}
use Rattle.c0_value_numbers.specs.Texts.{Texts, expr_texts}
use Rattle.c0_numbers.specs.StatementTexts.{part_texts, stmt_texts}
use Rattle.c0_numbers.specs.Statements.{simple_frame, part_frame, stmt_frame, stmts_frame, put_tree, simple_tree, part_tree, note_form, notes_tree, alone, before, stmt_tree, stmts_tree, else_tree}
use Rattle.lowering_laws.specs.Kept.{stmt_sets, stmts_set}
use Rattle.resolved_laws.proofs.Clean.{left_none, right_none, kept}
use Rattle.resolved_laws.proofs.Looks.{place_behind, place_some, last_named}
use Rattle.resolved_laws.proofs.Keeps.{part_more, stmt_more, stmts_more, frame_same, closed_alike, target_alike, part_grows, stmt_grows, stmts_grow, found_some, Keeps, keeps_alike, keeps_declared}

neither : (a b : Bool) → a ≡ false → b ≡ false → (a || b) ≡ false
neither false b p q = q
neither true b p q = p

no_name : (o : Option ℕ) → not (is_some o) ≡ true → o ≡ None
no_name None e = refl
no_name (Some i) e = let n : ⊥ = cc in absurd n

not_fixed : (b : Bool) → not b ≡ true → b ≡ false
not_fixed false e = refl
not_fixed true e = let n : ⊥ = cc in absurd n

-- an assigned local is in scope, and not fixed
stands : (at : Place) (o : Option Standing) → standing_violations at o ≡ [] → (s : Standing) × (o ≡ Some s) × (s.fixed ≡ false)
stands at None e = let n : ⊥ = cc in absurd n
stands at (Some s) e = (s, refl, not_fixed s.fixed (kept (not s.fixed) rule.AssignedInEnsures at e))

fixed_apart : (o : Option Standing) (s v : Standing) → o ≡ Some s → s.fixed ≡ true → o ≡ Some v → v.fixed ≡ false → ⊥
fixed_apart o s v e h k l = let same : s ≡ v = cc in let n : ⊥ = cc in n

module _ (t u : Tables) (m : List ℕ) (i : ℕ) where
  -- a local that is not fixed has another number
  other_number : (scope : Scope) (f : Frame) (at : Place) (n : List ℕ) → Keeps m i scope f → standing_violations at (standing_of scope n) ≡ [] → eqb (number_in f.locals.names n) i ≡ false
  other_number scope f at n k h =
      let v = stands at (standing_of scope n) h in
      let there = k.known n (found_some scope.standings (last_place scope.names n) v.0 v.1) in
      let j = place_some (last_place f.locals.names n) there in
      let number : number_in f.locals.names n ≡ j.0 = ap (λ o. unwrap_or o 0) j.1 in
      let named = last_named f.locals.names n j.0 j.1 in
      ne_eqb (number_in f.locals.names n) i (λ same. apart v.0 v.1 v.2 (subst (λ l. slice_get f.locals.names l ≡ Some n) (sym number ∙ same) named))
    where
      apart : (v : Standing) → standing_of scope n ≡ Some v → v.fixed ≡ false → slice_get f.locals.names i ≡ Some n → ⊥
      apart v e l p =
          let names : Some n ≡ Some m = sym p ∙ k.place in
          let same : n ≡ m = cc in
          fixed_apart (standing_of scope m) k.fixed.0 v k.fixed.1 k.fixed.2 (subst (λ l. standing_of scope l ≡ Some v) same e) l

  put_keeps : (scope : Scope) (f : Frame) (ts : Texts) (reads : Bool) (x : ExprTree) (o : Option ExprOp) (q : Place) (y : gc0.Tree) → Keeps m i scope f →
      target_violations t scope reads x ≡ [] → stmt_sets i (put_tree u f ts x o q y) ≡ false
  put_keeps scope f ts reads (local s n) o q y k h = other_number scope f s.place n k (left_none (standing_violations s.place (standing_of scope n)) _ h)
  put_keeps scope f ts reads x o q y k h = refl

  simple_keeps : (scope : Scope) (f : Frame) (ts : Texts) (s : SimpleTree) → Keeps m i scope f → simple_violations t scope s ≡ [] → stmt_sets i (simple_tree u f ts s) ≡ false
  simple_keeps scope f ts (declare n name v) k h = place_behind f.locals.names i m k.place
  simple_keeps scope f ts (assign x q o y) k h = put_keeps scope f ts (is_some o) x _ q _ k (left_none (target_violations t scope (is_some o) x) _ h)
  simple_keeps scope f ts (stepped x q o) k h = put_keeps scope f ts true x _ q _ k (left_none (target_violations t scope true x) _ h)
  simple_keeps scope f ts (plain x) k h = refl

  part_keeps : (scope : Scope) (f : Frame) (ts : Texts) (s : Option SimpleTree) → Keeps m i scope f → part_violations t scope s ≡ [] → stmts_set i (part_tree u f ts s) ≡ false
  part_keeps scope f ts None k h = refl
  part_keeps scope f ts (Some s) k h = neither (stmt_sets i (simple_tree u f ts s)) false (simple_keeps scope f ts s k h) refl

  simple_step : (scope : Scope) (f : Frame) (s : SimpleTree) → Keeps m i scope f → simple_violations t scope s ≡ [] → Keeps m i (simple_behind t scope s) (simple_frame u f s)
  simple_step scope f (declare n name v) k h =
      let a = held_violations t n in
      let b = declared_violations scope name in
      let c = right_violations t scope (value_type t n) v in
      let fresh = kept (not (is_some (last_place scope.names name.name))) rule.Twice name.place (left_none b c (right_none a (b ++ c) h)) in
      keeps_declared m i scope f name.name (record { holds = value_type t n; fixed = false }) (is_some v) (value_type u n) (no_name (last_place scope.names name.name) fresh) k
  simple_step scope f (assign x q o y) k h = keeps_alike m i scope (target_behind scope x) f f (target_alike scope x) (frame_same f) k
  simple_step scope f (stepped x q o) k h = keeps_alike m i scope (target_behind scope x) f f (target_alike scope x) (frame_same f) k
  simple_step scope f (plain x) k h = k

  part_step : (scope : Scope) (f : Frame) (s : Option SimpleTree) → Keeps m i scope f → part_violations t scope s ≡ [] → Keeps m i (part_behind t scope s) (part_frame u f s)
  part_step scope f None k h = k
  part_step scope f (Some s) k h = simple_step scope f s k h

  -- all but a declaration leave the scope's locals
  stmt_step : (r : ValueType) (scope : Scope) (f : Frame) (s : StmtTree) → Keeps m i scope f → stmt_violations t r scope s ≡ [] → Keeps m i (stmt_behind t scope s) (stmt_frame u f s)
  stmt_step r scope f (simple_stmt s) k h = simple_step scope f s k h
  stmt_step r scope f (block_stmt p ss) k h =
      keeps_alike m i scope (closed scope (stmts_behind t scope ss)) f (stmts_frame u f ss) (closed_alike scope (stmts_behind t scope ss) (stmts_grow t scope ss)) (stmts_more u f ss) k
  stmt_step r scope f (if_stmt p e s os) k h =
      keeps_alike m i scope (stmt_behind t scope (if_stmt p e s os)) f (stmt_frame u f (if_stmt p e s os)) (refl, refl) (stmt_more u f (if_stmt p e s os)) k
  stmt_step r scope f (while_stmt p e is s) k h = keeps_alike m i scope scope f (stmt_frame u f s) (refl, refl) (stmt_more u f s) k
  stmt_step r scope f (for_stmt p a e b is s) k h =
      keeps_alike m i scope (closed scope (part_behind t scope a)) f (stmt_frame u f (for_stmt p a e b is s)) (closed_alike scope (part_behind t scope a) (part_grows t scope a)) (stmt_more u f (for_stmt p a e b is s)) k
  stmt_step r scope f (return_stmt p e) k h = keeps_alike m i scope (stmt_behind t scope (return_stmt p e)) f f (refl, refl) (frame_same f) k
  stmt_step r scope f (assert_stmt p e) k h = k
  stmt_step r scope f (error_stmt p x) k h = keeps_alike m i scope (stmt_behind t scope (error_stmt p x)) f f (refl, refl) (frame_same f) k
  stmt_step r scope f (notes_stmt p ns) k h = k

  -- ---- annotations
  note_keeps : (f : Frame) (p : Place) (n : NoteForm) → stmt_sets i (note_form u f p n) ≡ false
  note_keeps f p (assert_note g) = refl
  note_keeps f p (fold_note j) = refl
  note_keeps f p (unfold_note j) = refl

  notes_keep : (f : Frame) (ns : List NoteTree) (rest : gc0.Stmts) → stmts_set i rest ≡ false → stmts_set i (notes_tree u f ns rest) ≡ false
  notes_keep f [] rest h = h
  notes_keep f (n ∷ ns) rest h = neither (stmt_sets i (note_form u f n.place n.form)) (stmts_set i (notes_tree u f ns rest)) (note_keeps f n.place n.form) (notes_keep f ns rest h)

  alone_keeps : (p : Place) (ss : gc0.Stmts) → stmts_set i ss ≡ false → stmt_sets i (alone p ss) ≡ false
  alone_keeps p gc0.no_stmts h = refl
  alone_keeps p (gc0.stmt_and s gc0.no_stmts) h = first (stmt_sets i s) h
    where
      first : (b : Bool) → (b || false) ≡ false → b ≡ false
      first false e = refl
      first true e = e
  alone_keeps p (gc0.stmt_and s (gc0.stmt_and r ss)) h = h

  before_keeps : (f : Frame) (s : StmtTree) (x : gc0.Stmt) (rest : gc0.Stmts) → stmt_sets i x ≡ false → stmts_set i rest ≡ false → stmts_set i (before u f s x rest) ≡ false
  before_keeps f (notes_stmt p ns) x rest a b = notes_keep f ns rest b
  before_keeps f s x rest a b = neither (stmt_sets i x) (stmts_set i rest) a b

  -- ---- statements
  mutual
    stmt_keeps : (r : ValueType) (scope : Scope) (f : Frame) (ts : Texts) (s : StmtTree) → Keeps m i scope f → stmt_violations t r scope s ≡ [] → stmt_sets i (stmt_tree u f ts s) ≡ false
    stmt_keeps r scope f ts (simple_stmt s) k h = simple_keeps scope f ts s k h
    stmt_keeps r scope f ts (block_stmt p ss) k h = stmts_keep r scope f ts ss k h
    stmt_keeps r scope f ts (if_stmt p e s os) k h =
        let a = value_violations t scope None bool e in
        let b = stmt_violations t r scope s in
        let c = stmts_violations t r scope os in
        let l = right_none a (b ++ c) h in
        let inner = expr_texts ts e in
        let behind = stmt_frame u f s in
        let later = stmt_texts inner s in
        let k1 = keeps_alike m i scope scope f behind (refl, refl) (stmt_more u f s) k in
        neither (stmt_sets i (stmt_tree u f inner s)) (stmts_set i (else_tree u behind later os)) (stmt_keeps r scope f inner s k (left_none b c l)) (else_keeps r scope behind later os k1 (right_none b c l))
    stmt_keeps r scope f ts (while_stmt p e is s) k h =
        let a = value_violations t scope None bool e in
        let b = invariants_violations t scope is in
        let c = stmt_violations t r scope s in
        stmt_keeps r scope f (expr_texts ts e) s k (right_none b c (right_none a (b ++ c) h))
    stmt_keeps r scope f ts (for_stmt p a e b is s) k h =
        let within = part_behind t scope a in
        let last = closed within (stmt_behind t within s) in
        let x = part_violations t scope a in
        let y = value_violations t within None bool e in
        let z = invariants_violations t within is in
        let v = stmt_violations t r within s in
        let w = part_violations t last b in
        let h1 = left_none x (y ++ (z ++ (v ++ w))) h in
        let h2 = right_none z (v ++ w) (right_none y (z ++ (v ++ w)) (right_none x (y ++ (z ++ (v ++ w))) h)) in
        let inner = part_frame u f a in
        let behind = part_frame u inner b in
        let behind_test = expr_texts (part_texts ts a) e in
        let later = part_texts behind_test b in
        let k1 = part_step scope f a k h1 in
        let k2 = keeps_alike m i within last inner inner (closed_alike within (stmt_behind t within s) (stmt_grows t within s)) (frame_same inner) k1 in
        let k3 = keeps_alike m i within within inner behind (refl, refl) (part_more u inner b) k1 in
        let begun = stmts_set i (part_tree u f ts a) in
        let ended = stmts_set i (part_tree u inner behind_test b) in
        let body = stmt_sets i (stmt_tree u behind later s) in
        neither begun (ended || body) (part_keeps scope f ts a k h1)
        (neither ended body (part_keeps last inner behind_test b k2 (right_none v w h2)) (stmt_keeps r within behind later s k3 (left_none v w h2)))
    stmt_keeps r scope f ts (return_stmt p e) k h = refl
    stmt_keeps r scope f ts (assert_stmt p e) k h = refl
    stmt_keeps r scope f ts (error_stmt p x) k h = refl
    stmt_keeps r scope f ts (notes_stmt p ns) k h = alone_keeps p (notes_tree u f ns gc0.no_stmts) (notes_keep f ns gc0.no_stmts refl)

    pub stmts_keep : (r : ValueType) (scope : Scope) (f : Frame) (ts : Texts) (ss : StmtTrees) → Keeps m i scope f → stmts_violations t r scope ss ≡ [] → stmts_set i (stmts_tree u f ts ss) ≡ false
    stmts_keep r scope f ts no_stmts k h = refl
    stmts_keep r scope f ts (stmt_and s ss) k h =
        let a = stmt_violations t r scope s in
        let b = stmts_violations t r (stmt_behind t scope s) ss in
        let behind = stmt_frame u f s in
        let later = stmt_texts ts s in
        before_keeps f s (stmt_tree u f ts s) (stmts_tree u behind later ss) (stmt_keeps r scope f ts s k (left_none a b h))
        (stmts_keep r (stmt_behind t scope s) behind later ss (stmt_step r scope f s k (left_none a b h)) (right_none a b h))

    else_keeps : (r : ValueType) (scope : Scope) (f : Frame) (ts : Texts) (os : StmtTrees) → Keeps m i scope f → stmts_violations t r scope os ≡ [] → stmts_set i (else_tree u f ts os) ≡ false
    else_keeps r scope f ts no_stmts k h = refl
    else_keeps r scope f ts (stmt_and s ss) k h =
        neither (stmt_sets i (stmt_tree u f ts s)) false (stmt_keeps r scope f ts s k (left_none (stmt_violations t r scope s) _ h)) refl
