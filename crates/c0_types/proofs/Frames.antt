-- The scope of the rules and the frame of the tree agree, and stay so behind each statement.
use Rattle.std.proofs.Common.{◌≡◌, ℕ, Bool, true, false, not, List, [], ◌∷◌, ◌++◌, length, take, Option, Some, None, is_some, slice_get, option_and_then, option_map, refl, sym, subst, ap, ◌∙◌, append_assoc, bytes_eq, inl, inr}
use Rattle.std.proofs.Math.Seq.{take-append_seam}
use Rattle.parsed_tree.specs.declared.expressions.TypeName.{TypeName}
use Rattle.parsed_tree.specs.Tree.{ExprTree, local, SimpleTree, declare, assign, stepped, plain, StmtTree, simple_stmt, block_stmt, if_stmt, while_stmt, for_stmt, return_stmt, assert_stmt, error_stmt, notes_stmt, StmtTrees, no_stmts, stmt_and, InvariantsTree}
use Rattle.gc0_base.specs.declared.place.Place.{Place}
use Rattle.c0_names.specs.declared.types.ValueType.{ValueType}
use Rattle.c0_names.specs.declared.tables.Tables.{Tables}
use Rattle.c0_names.specs.Names.{last_place}
use Rattle.c0_names.specs.Tables.{type_in, value_type, with_type}
use Rattle.c0_names.specs.Types.{bool, is_held, is_void}
use Rattle.c0_value_rules.specs.declared.violation.Rule.TheVariants as rule
use Rattle.c0_value_rules.specs.declared.scope.Standing.{Standing}
use Rattle.c0_value_rules.specs.declared.scope.Scope.{Scope}
use Rattle.c0_value_rules.specs.Scopes.{standing_of, held_type, closed, scope_with}
use Rattle.c0_rules.specs.Behind.{target_behind, simple_behind, part_behind, stmt_behind, stmts_behind}
use Rattle.c0_value_rules.specs.Expressions.{value_violations}
use Rattle.c0_value_rules.specs.Formulas.{invariants_violations}
use Rattle.c0_rules.specs.Statements.{held_violations, declared_violations, right_violations, simple_violations, part_violations, stmt_violations, stmts_violations}
use Rattle.c0_value_numbers.specs.declared.frame.Frame.{Frame}
use Rattle.c0_numbers.specs.Statements.{simple_frame, part_frame, stmt_frame, stmts_frame}
use Rattle.c0_types.proofs.Looks.{Even, look, even_more, slice_more, differs, found_place, look_other, look_here, look_back}
use Rattle.c0_types.proofs.Shapes.{Held, held_of, held_value}
use Rattle.c0_types.proofs.Raised.{Below, type_raised}
use Rattle.c0_types.proofs.World.{AllHeld, held_more}
use Rattle.c0_types.proofs.Clean.{left_none, right_none, kept, IsEven}

-- each local in scope is the last of its name in the frame, with its type
pub record Agrees (scope : Scope) (f : Frame) : Type 0 where
  pub even : IsEven scope
  pub locals : Even f.locals.names f.locals.types
  pub types : AllHeld f.locals.types
  pub same : (n : List ℕ) (v : ValueType) → held_type scope n ≡ Some v →
      (type_in f.locals n ≡ Some v) × Held v

-- the locals of one scope, and others behind them that hide none
pub record Grows (outer scope : Scope) : Type 0 where
  pub names : List (List ℕ)
  pub standings : List Standing
  pub more_names : scope.names ≡ outer.names ++ names
  pub more_standings : scope.standings ≡ outer.standings ++ standings
  pub seen : (n : List ℕ) (v : ValueType) → held_type outer n ≡ Some v → held_type scope n ≡ Some v

pub record Step (scope behind : Scope) (f : Frame) : Type 0 where
  pub agrees : Agrees behind f
  pub grows : Grows scope behind

append_none : {X : Type 0} (xs : List X) → xs ≡ xs ++ []
append_none [] = refl
append_none (x ∷ xs) = ap (λ l. x ∷ l) (append_none xs)

held_alike : (a b : Scope) → b.names ≡ a.names → b.standings ≡ a.standings → (n : List ℕ) →
    held_type b n ≡ held_type a n
held_alike a b p q n =
    ap (λ k. option_map (λ s. s.holds) (option_and_then (slice_get b.standings) (last_place k n)))
    p ∙ ap (λ k. option_map (λ s. s.holds) (option_and_then (slice_get k) (last_place a.names n))) q

grows_alike : (a b : Scope) → b.names ≡ a.names → b.standings ≡ a.standings → Grows a b
grows_alike a b p q = record {
  names = [];
  standings = [];
  more_names = p ∙ append_none a.names;
  more_standings = q ∙ append_none a.standings;
  seen = λ n v e. held_alike a b p q n ∙ e;
}

through : (a b c : Scope) → Grows a b → Grows b c → Grows a c
through a b c x y = record {
  names = x.names ++ y.names;
  standings = x.standings ++ y.standings;
  more_names =
      y.more_names ∙ ap (λ l. l ++ y.names) x.more_names ∙ append_assoc a.names x.names y.names;
  more_standings =
      y.more_standings ∙ ap (λ l. l ++ y.standings) x.more_standings ∙ append_assoc a.standings
      x.standings y.standings;
  seen = λ n v e. y.seen n v (x.seen n v e);
}

even_alike : (a b : Scope) → b.names ≡ a.names → b.standings ≡ a.standings → IsEven a → IsEven b
even_alike a b p q e =
    subst (λ k. Even k b.standings) (sym p) (subst (λ k. Even a.names k) (sym q) e)

pub agrees_alike : (a b : Scope) (f : Frame) → b.names ≡ a.names → b.standings ≡ a.standings →
    Agrees a f → Agrees b f
agrees_alike a b f p q g =
    record {
      even = even_alike a b p q g.even;
      locals = g.locals;
      types = g.types;
      same = λ n v e.
          g.same n v (sym (held_alike a b p q n) ∙ e);
    }

-- what agrees inside agrees outside
pub shrunk : (outer scope : Scope) (f : Frame) → IsEven outer → Grows outer scope → Agrees scope f →
    Agrees outer f
shrunk outer scope f e w g =
    record {
      even = e;
      locals = g.locals;
      types = g.types;
      same = λ n v k. g.same n v (w.seen n v k);
    }

pub closed_names : (outer scope : Scope) → Grows outer scope →
    (closed outer scope).names ≡ outer.names
closed_names outer scope x =
    ap (take (length outer.names)) x.more_names ∙ take-append_seam outer.names x.names

pub closed_standings : (outer scope : Scope) → Grows outer scope →
    (closed outer scope).standings ≡ outer.standings
closed_standings outer scope x =
    ap (take (length outer.standings)) x.more_standings ∙ take-append_seam outer.standings
    x.standings

alike_step : (a b : Scope) (f : Frame) → b.names ≡ a.names → b.standings ≡ a.standings →
    Agrees a f → Step a b f
alike_step a b f p q g = record { agrees = agrees_alike a b f p q g; grows = grows_alike a b p q }

closed_step : (outer scope : Scope) (f : Frame) → IsEven outer → Step outer scope f →
    Step outer (closed outer scope) f
closed_step outer scope f e s =
    alike_step outer (closed outer scope) f (closed_names outer scope s.grows)
    (closed_standings outer scope s.grows) (shrunk outer scope f e s.grows s.agrees)

-- ---- a declaration
holding : (o : Option Standing) (v : ValueType) → option_map (λ s. s.holds) o ≡ Some v →
    (s : Standing) × (o ≡ Some s) × (s.holds ≡ v)
holding None v e = let n : ⊥ = cc in absurd n
holding (Some s) v e = (s, refl, cc)

pub no_name : (o : Option ℕ) → not (is_some o) ≡ true → o ≡ None
no_name None e = refl
no_name (Some i) e = let n : ⊥ = cc in absurd n

pub kept_type : (t u : Tables) → Below t u → (n : TypeName) → Held (value_type t n) →
    value_type u n ≡ value_type t n
kept_type t u below n h =
    (elim (type_raised t u below n) as (λ k. value_type u n ≡ value_type t n) [
      | inl e ↦ let q = held_value (value_type t n) h in
          let r = ap is_void e in let m : ⊥ = cc in absurd m
      | inr e ↦ e
    ])

pub held_here : (t : Tables) (n : TypeName) → held_violations t n ≡ [] → Held (value_type t n)
held_here t n h =
    held_of (value_type t n) (kept (is_held (value_type t n)) rule.WrongType n.place h)

-- a local of a name that is not in scope comes into scope and frame
pub declared_step : (scope : Scope) (f : Frame) (name : List ℕ) (s : Standing) (w : ValueType) (b :
    Bool) → Agrees scope f → Held s.holds → w ≡ s.holds → last_place scope.names name ≡ None →
    (let g : Frame = record f { locals = with_type f.locals name w } in Step scope
    (scope_with scope name s b) g)
declared_step scope f name s w b g h e fresh =
    record {
      agrees = record {
        even = even_more scope.names scope.standings name s g.even;
        locals =
            even_more f.locals.names f.locals.types name w g.locals;
        types = held_more f.locals.types w
            g.types (subst Held (sym e) h);
        same = same;
      };
      grows = record
          { names = name ∷ []; standings = s ∷ []; more_names = refl; more_standings = refl; seen = seen };
    }
  where
    seen : (n : List ℕ) (v : ValueType) → held_type scope n ≡ Some v →
        held_type (scope_with scope name s b) n ≡ Some v
    seen n v k =
        let q = holding (standing_of scope n) v k in
        let d = differs scope.names name n fresh (found_place scope.names scope.standings n q.0
        q.1) in
        ap (option_map (λ s. s.holds)) (look_other scope.names scope.standings name s n q.0 d q.1) ∙
        ap Some q.2

    same : (n : List ℕ) (v : ValueType) → held_type (scope_with scope name s b) n ≡ Some v →
        (look (f.locals.names ++ name ∷ []) (f.locals.types ++ w ∷ []) n ≡ Some v) × Held v
    same n v k = of (bytes_eq name n) refl
      where
        of : (c : Bool) → bytes_eq name n ≡ c →
            (look (f.locals.names ++ name ∷ []) (f.locals.types ++ w ∷ []) n ≡ Some v) × Held v
        of true q =
            let a = ap (option_map (λ s. s.holds))
            (look_here scope.names scope.standings name s n g.even q) in
            let z : s.holds ≡ v = cc in (
              look_here f.locals.names f.locals.types name w n g.locals q ∙ ap Some (e ∙ z),
              subst
                  Held z h,
            )
        of false q =
            let a = holding (standing_of (scope_with scope name s b) n) v k in
            let c = look_back scope.names scope.standings name s n a.0 g.even q a.1 in
            let d = g.same n v (ap (option_map (λ s. s.holds)) c ∙ ap Some a.2) in
            (look_other f.locals.names f.locals.types name w n v q d.0, d.1)

step_of_target : (scope : Scope) (f : Frame) (x : ExprTree) → Agrees scope f →
    Step scope (target_behind scope x) f
step_of_target scope f (local s n) g =
    alike_step scope (target_behind scope (local s n)) f refl refl g
step_of_target scope f x g = alike_step scope scope f refl refl g

module _ (t u : Tables) (below : Below t u) where
  pub simple_step : (scope : Scope) (f : Frame) (s : SimpleTree) → Agrees scope f →
      simple_violations t scope s ≡ [] → Step scope (simple_behind t scope s) (simple_frame u f s)
  simple_step scope f (declare n name v) g h =
      let a = held_violations t n in
      let b = declared_violations scope name in
      let c = right_violations t scope (value_type t n) v in
      let k = right_none a (b ++ c) h in
      let d = held_here t n (left_none a (b ++ c) h) in
      let fresh = no_name (last_place scope.names name.name)
      (kept (not (is_some (last_place scope.names name.name))) rule.Twice name.place
      (left_none b c k)) in
      declared_step scope f name.name (record { holds = value_type t n; fixed = false })
      (value_type u n) (is_some v) g d (kept_type t u below n d) fresh
  simple_step scope f (assign x q o y) g h = step_of_target scope f x g
  simple_step scope f (stepped x q o) g h = step_of_target scope f x g
  simple_step scope f (plain x) g h = alike_step scope scope f refl refl g

  pub part_step : (scope : Scope) (f : Frame) (s : Option SimpleTree) → Agrees scope f →
      part_violations t scope s ≡ [] → Step scope (part_behind t scope s) (part_frame u f s)
  part_step scope f None g h = alike_step scope scope f refl refl g
  part_step scope f (Some s) g h = simple_step scope f s g h

  -- the violations of the parts of a loop
  pub record ForParts (r : ValueType) (scope : Scope) (s : StmtTree) (a : Option SimpleTree)
      (e : ExprTree) (b : Option SimpleTree) (is : List InvariantsTree) : Type 0 where
    pub first : part_violations t scope a ≡ []
    pub test : value_violations t (part_behind t scope a) None bool e ≡ []
    pub invariant : invariants_violations t (part_behind t scope a) is ≡ []
    pub body : stmt_violations t r (part_behind t scope a) s ≡ []
    pub last :
        part_violations t (closed (part_behind t scope a) (stmt_behind t (part_behind t scope a) s))
        b ≡ []

  pub for_parts : (r : ValueType) (scope : Scope) (at : Place) (s : StmtTree) (a :
      Option SimpleTree) (e : ExprTree) (b : Option SimpleTree) (is : List InvariantsTree) →
      stmt_violations t r scope (for_stmt at a e b is s) ≡ [] → ForParts r scope s a e b is
  for_parts r scope at s a e b is h =
      let inner = part_behind t scope a in
      let x = part_violations t scope a in
      let y = value_violations t inner None bool e in
      let z = invariants_violations t inner is in
      let v = stmt_violations t r inner s in
      let w = part_violations t (closed inner (stmt_behind t inner s)) b in
      let k = right_none x (y ++ (z ++ (v ++ w))) h in
      let l = right_none y (z ++ (v ++ w)) k in
      let m = right_none z (v ++ w) l in
      record {
        first = left_none x (y ++ (z ++ (v ++ w))) h;
        test = left_none y (z ++ (v ++ w)) k;
        invariant = left_none z (v ++ w) l;
        body = left_none v w m;
        last = right_none v w m;
      }

  -- the frame of a loop's last part, which agrees with the scope of its body
  pub last_agrees : (inner : Scope) (f : Frame) (b : Option SimpleTree) (behind : Scope) →
      Agrees inner f → Grows inner behind → part_violations t (closed inner behind) b ≡ [] →
      Agrees (closed inner behind) f × Agrees inner (part_frame u f b)
  last_agrees inner f b behind g w h =
      let c = closed inner behind in
      let n = closed_names inner behind w in
      let m = closed_standings inner behind w in
      let k = agrees_alike inner c f n m g in
      let s = part_step c f b k h in (
        k,
        agrees_alike c inner (part_frame u f b) (sym n) (sym m)
            (shrunk c (part_behind t c b) (part_frame u f b) k.even s.grows s.agrees),
      )

  mutual
    pub stmt_step : (r : ValueType) (scope : Scope) (f : Frame) (s : StmtTree) → Agrees scope f →
        stmt_violations t r scope s ≡ [] → Step scope (stmt_behind t scope s) (stmt_frame u f s)
    stmt_step r scope f (simple_stmt s) g h = simple_step scope f s g h
    stmt_step r scope f (block_stmt p ss) g h =
        closed_step scope (stmts_behind t scope ss) (stmts_frame u f ss) g.even
        (stmts_step r scope f ss g h)
    stmt_step r scope f (if_stmt p e s os) g h =
        let a = value_violations t scope None bool e in
        let b = stmt_violations t r scope s in
        let c = stmts_violations t r scope os in
        let k = right_none a (b ++ c) h in
        let x = stmt_step r scope f s g (left_none b c k) in
        let m = shrunk scope (stmt_behind t scope s) (stmt_frame u f s) g.even x.grows x.agrees in
        let y = stmts_step r scope (stmt_frame u f s) os m (right_none b c k) in
        alike_step scope (stmt_behind t scope (if_stmt p e s os))
        (stmts_frame u (stmt_frame u f s) os) refl refl
        (shrunk scope (stmts_behind t scope os) (stmts_frame u (stmt_frame u f s) os) g.even
        y.grows y.agrees)
    stmt_step r scope f (while_stmt p e is s) g h =
        let a = value_violations t scope None bool e in
        let b = invariants_violations t scope is in
        let c = stmt_violations t r scope s in
        let x = stmt_step r scope f s g (right_none b c (right_none a (b ++ c) h)) in
        alike_step scope scope (stmt_frame u f s) refl refl
        (shrunk scope (stmt_behind t scope s) (stmt_frame u f s) g.even x.grows x.agrees)
    stmt_step r scope f (for_stmt p a e b is s) g h =
        let q = for_parts r scope p s a e b is h in
        let inner = part_behind t scope a in
        let x = part_step scope f a g q.first in
        let f1 = part_frame u f a in
        let y = stmt_step r inner f1 s x.agrees q.body in
        let l = last_agrees inner f1 b (stmt_behind t inner s) x.agrees y.grows q.last in
        let f2 = part_frame u f1 b in
        let z = stmt_step r inner f2 s l.1 q.body in
        let f3 = stmt_frame u f2 s in
        closed_step scope inner f3 g.even (record {
          agrees = shrunk inner (stmt_behind t inner s) f3
              x.agrees.even z.grows z.agrees;
          grows = x.grows;
        })
    stmt_step r scope f (return_stmt p e) g h =
        alike_step scope (stmt_behind t scope (return_stmt p e)) f refl refl g
    stmt_step r scope f (assert_stmt p e) g h = alike_step scope scope f refl refl g
    stmt_step r scope f (error_stmt p x) g h =
        alike_step scope (stmt_behind t scope (error_stmt p x)) f refl refl g
    stmt_step r scope f (notes_stmt p ns) g h = alike_step scope scope f refl refl g

    pub stmts_step : (r : ValueType) (scope : Scope) (f : Frame) (ss : StmtTrees) → Agrees scope f →
        stmts_violations t r scope ss ≡ [] →
        Step scope (stmts_behind t scope ss) (stmts_frame u f ss)
    stmts_step r scope f no_stmts g h = alike_step scope scope f refl refl g
    stmts_step r scope f (stmt_and s ss) g h =
        let a = stmt_violations t r scope s in
        let b = stmts_violations t r (stmt_behind t scope s) ss in
        let x = stmt_step r scope f s g (left_none a b h) in
        let y = stmts_step r (stmt_behind t scope s) (stmt_frame u f s) ss x.agrees
        (right_none a b h) in
        record {
          agrees = y.agrees;
          grows = through scope (stmt_behind t scope s)
              (stmts_behind t (stmt_behind t scope s) ss) x.grows y.grows;
        }

-- ---- frames only grow
pub simple_more : (u : Tables) (f : Frame) (s : SimpleTree) (i : ℕ) (v : ValueType) →
    slice_get f.locals.types i ≡ Some v → slice_get (simple_frame u f s).locals.types i ≡ Some v
simple_more u f (declare n name w) i v e = slice_more f.locals.types (value_type u n ∷ []) i v e
simple_more u f (assign x q o y) i v e = e
simple_more u f (stepped x q o) i v e = e
simple_more u f (plain x) i v e = e

pub part_more : (u : Tables) (f : Frame) (s : Option SimpleTree) (i : ℕ) (v : ValueType) →
    slice_get f.locals.types i ≡ Some v → slice_get (part_frame u f s).locals.types i ≡ Some v
part_more u f None i v e = e
part_more u f (Some s) i v e = simple_more u f s i v e

mutual
  pub stmt_more : (u : Tables) (f : Frame) (s : StmtTree) (i : ℕ) (v : ValueType) →
      slice_get f.locals.types i ≡ Some v → slice_get (stmt_frame u f s).locals.types i ≡ Some v
  stmt_more u f (simple_stmt s) i v e = simple_more u f s i v e
  stmt_more u f (block_stmt p ss) i v e = stmts_more u f ss i v e
  stmt_more u f (if_stmt p x s os) i v e =
      stmts_more u (stmt_frame u f s) os i v (stmt_more u f s i v e)
  stmt_more u f (while_stmt p x is s) i v e = stmt_more u f s i v e
  stmt_more u f (for_stmt p a x b is s) i v e =
      stmt_more u (part_frame u (part_frame u f a) b) s i v
      (part_more u (part_frame u f a) b i v (part_more u f a i v e))
  stmt_more u f (return_stmt p x) i v e = e
  stmt_more u f (assert_stmt p x) i v e = e
  stmt_more u f (error_stmt p x) i v e = e
  stmt_more u f (notes_stmt p ns) i v e = e

  pub stmts_more : (u : Tables) (f : Frame) (ss : StmtTrees) (i : ℕ) (v : ValueType) →
      slice_get f.locals.types i ≡ Some v → slice_get (stmts_frame u f ss).locals.types i ≡ Some v
  stmts_more u f no_stmts i v e = e
  stmts_more u f (stmt_and s ss) i v e =
      stmts_more u (stmt_frame u f s) ss i v (stmt_more u f s i v e)
