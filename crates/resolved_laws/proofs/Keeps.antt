-- The name of a parameter that `ensures` names is fixed in each scope, and leads to its number in each frame.
use Rattle.std.proofs.Common.{◌≡◌, ℕ, suc, Bool, true, false, List, [], ◌∷◌, ◌++◌, length, take, Option, Some, None, is_some, slice_get, option_and_then, refl, sym, subst, ap, ◌∙◌, append_assoc, bytes_eq}
use Rattle.std.proofs.Math.Seq.{take-append_seam}
use Rattle.parsed_tree.specs.declared.items.Param.{Param}
use Rattle.parsed_tree.specs.Tree.{ExprTree, local, SimpleTree, declare, assign, stepped, plain, StmtTree, simple_stmt, block_stmt, if_stmt, while_stmt, for_stmt, return_stmt, assert_stmt, error_stmt, notes_stmt, StmtTrees, no_stmts, stmt_and}
use Rattle.c0_names.specs.declared.types.ValueType.{ValueType}
use Rattle.c0_names.specs.declared.tables.TypedNames.{TypedNames}
use Rattle.c0_names.specs.declared.tables.Tables.{Tables}
use Rattle.c0_names.specs.Names.{last_place}
use Rattle.c0_names.specs.Tables.{with_type, value_type}
use Rattle.c0_value_rules.specs.declared.scope.Standing.{Standing}
use Rattle.c0_value_rules.specs.declared.scope.Scope.{Scope}
use Rattle.c0_value_rules.specs.Scopes.{standing_of, closed, scope_with, no_scope}
use Rattle.c0_rules.specs.Behind.{target_behind, simple_behind, part_behind, stmt_behind, stmts_behind}
use Rattle.c0_rules.specs.Rules.{param_behind, params_scope}
use Rattle.c0_value_numbers.specs.declared.frame.Frame.{Frame}
use Rattle.c0_numbers.specs.Statements.{simple_frame, part_frame, stmt_frame, stmts_frame}
use Rattle.c0_numbers.specs.Resolved.{params_behind}
use Rattle.resolved_laws.proofs.Looks.{slice_more, slice_end, last_here, last_other, bytes_same, differs, last_more}

append_none : {X : Type 0} (xs : List X) → xs ≡ xs ++ []
append_none [] = refl
append_none (x ∷ xs) = ap (λ l. x ∷ l) (append_none xs)

-- a list, and others behind it
abbrev pub More : {X : Type 0} → List X → List X → Type 0
More {X} xs ys = (more : List X) × (ys ≡ xs ++ more)

same_more : {X : Type 0} (xs ys : List X) → ys ≡ xs → More xs ys
same_more xs ys e = ([], e ∙ append_none xs)

more_through : {X : Type 0} (xs ys zs : List X) → More xs ys → More ys zs → More xs zs
more_through xs ys zs a b = (a.0 ++ b.0, b.1 ∙ ap (λ l. l ++ b.0) a.1 ∙ append_assoc xs a.0 b.0)

-- ---- frames only grow
abbrev pub FrameMore : Frame → Frame → Type 0
FrameMore f g = More f.locals.names g.locals.names

frame_through : (f g h : Frame) → FrameMore f g → FrameMore g h → FrameMore f h
frame_through f g h a b = more_through f.locals.names g.locals.names h.locals.names a b

pub frame_same : (f : Frame) → FrameMore f f
frame_same f = same_more f.locals.names f.locals.names refl

simple_more : (u : Tables) (f : Frame) (s : SimpleTree) → FrameMore f (simple_frame u f s)
simple_more u f (declare n name v) = (name.name ∷ [], refl)
simple_more u f (assign x q o y) = frame_same f
simple_more u f (stepped x q o) = frame_same f
simple_more u f (plain x) = frame_same f

pub part_more : (u : Tables) (f : Frame) (s : Option SimpleTree) → FrameMore f (part_frame u f s)
part_more u f None = frame_same f
part_more u f (Some s) = simple_more u f s

mutual
  pub stmt_more : (u : Tables) (f : Frame) (s : StmtTree) → FrameMore f (stmt_frame u f s)
  stmt_more u f (simple_stmt s) = simple_more u f s
  stmt_more u f (block_stmt p ss) = stmts_more u f ss
  stmt_more u f (if_stmt p e s os) = frame_through f (stmt_frame u f s) (stmts_frame u (stmt_frame u f s) os) (stmt_more u f s) (stmts_more u (stmt_frame u f s) os)
  stmt_more u f (while_stmt p e is s) = stmt_more u f s
  stmt_more u f (for_stmt p a e b is s) =
      let inner = part_frame u f a in
      let behind = part_frame u inner b in
      frame_through f inner (stmt_frame u behind s) (part_more u f a)
      (frame_through inner behind (stmt_frame u behind s) (part_more u inner b) (stmt_more u behind s))
  stmt_more u f (return_stmt p e) = frame_same f
  stmt_more u f (assert_stmt p e) = frame_same f
  stmt_more u f (error_stmt p x) = frame_same f
  stmt_more u f (notes_stmt p ns) = frame_same f

  pub stmts_more : (u : Tables) (f : Frame) (ss : StmtTrees) → FrameMore f (stmts_frame u f ss)
  stmts_more u f no_stmts = frame_same f
  stmts_more u f (stmt_and s ss) = frame_through f (stmt_frame u f s) (stmts_frame u (stmt_frame u f s) ss) (stmt_more u f s) (stmts_more u (stmt_frame u f s) ss)

-- ---- the scope behind a statement has the locals of the scope before it
abbrev pub Grows : (outer scope : Scope) → Type 0
Grows outer scope = More outer.names scope.names × More outer.standings scope.standings

-- the same locals
abbrev pub Alike : (a b : Scope) → Type 0
Alike a b = (b.names ≡ a.names) × (b.standings ≡ a.standings)

alike_grows : (a b : Scope) → Alike a b → Grows a b
alike_grows a b e = (same_more a.names b.names e.0, same_more a.standings b.standings e.1)

grows_through : (a b c : Scope) → Grows a b → Grows b c → Grows a c
grows_through a b c x y = (more_through a.names b.names c.names x.0 y.0, more_through a.standings b.standings c.standings x.1 y.1)

-- the locals of a block go with it
pub closed_alike : (outer scope : Scope) → Grows outer scope → Alike outer (closed outer scope)
closed_alike outer scope x = (
  ap (take (length outer.names)) x.0.1 ∙ take-append_seam outer.names x.0.0,
  ap (take (length outer.standings)) x.1.1 ∙ take-append_seam outer.standings x.1.0,
)

pub target_alike : (scope : Scope) (x : ExprTree) → Alike scope (target_behind scope x)
target_alike scope (local s n) = (refl, refl)
target_alike scope x = (refl, refl)

simple_grows : (t : Tables) (scope : Scope) (s : SimpleTree) → Grows scope (simple_behind t scope s)
simple_grows t scope (declare n name v) = ((name.name ∷ [], refl), (record { holds = value_type t n; fixed = false } ∷ [], refl))
simple_grows t scope (assign x q o y) = alike_grows scope (target_behind scope x) (target_alike scope x)
simple_grows t scope (stepped x q o) = alike_grows scope (target_behind scope x) (target_alike scope x)
simple_grows t scope (plain x) = alike_grows scope scope (refl, refl)

pub part_grows : (t : Tables) (scope : Scope) (s : Option SimpleTree) → Grows scope (part_behind t scope s)
part_grows t scope None = alike_grows scope scope (refl, refl)
part_grows t scope (Some s) = simple_grows t scope s

mutual
  pub stmt_grows : (t : Tables) (scope : Scope) (s : StmtTree) → Grows scope (stmt_behind t scope s)
  stmt_grows t scope (simple_stmt s) = simple_grows t scope s
  stmt_grows t scope (block_stmt p ss) = alike_grows scope (closed scope (stmts_behind t scope ss)) (closed_alike scope (stmts_behind t scope ss) (stmts_grow t scope ss))
  stmt_grows t scope (if_stmt p e s os) = alike_grows scope (stmt_behind t scope (if_stmt p e s os)) (refl, refl)
  stmt_grows t scope (while_stmt p e is s) = alike_grows scope scope (refl, refl)
  stmt_grows t scope (for_stmt p a e b is s) = alike_grows scope (closed scope (part_behind t scope a)) (closed_alike scope (part_behind t scope a) (part_grows t scope a))
  stmt_grows t scope (return_stmt p e) = alike_grows scope (stmt_behind t scope (return_stmt p e)) (refl, refl)
  stmt_grows t scope (assert_stmt p e) = alike_grows scope scope (refl, refl)
  stmt_grows t scope (error_stmt p x) = alike_grows scope (stmt_behind t scope (error_stmt p x)) (refl, refl)
  stmt_grows t scope (notes_stmt p ns) = alike_grows scope scope (refl, refl)

  pub stmts_grow : (t : Tables) (scope : Scope) (ss : StmtTrees) → Grows scope (stmts_behind t scope ss)
  stmts_grow t scope no_stmts = alike_grows scope scope (refl, refl)
  stmts_grow t scope (stmt_and s ss) =
      let behind = stmt_behind t scope s in
      grows_through scope behind (stmts_behind t behind ss) (stmt_grows t scope s) (stmts_grow t behind ss)

-- ---- a fixed name
abbrev pub IsFixed : Scope → List ℕ → Type 0
IsFixed scope m = (s : Standing) × (standing_of scope m ≡ Some s) × (s.fixed ≡ true)

-- a parameter of this name and number is fixed, and the locals in scope stand in the frame
pub record Keeps (m : List ℕ) (i : ℕ) (scope : Scope) (f : Frame) : Type 0 where
  pub fixed : IsFixed scope m
  pub place : slice_get f.locals.names i ≡ Some m
  pub known : (n : List ℕ) → is_some (last_place scope.names n) ≡ true → is_some (last_place f.locals.names n) ≡ true

found_more : {A : Type 0} (xs ys : List A) (o : Option ℕ) (v : A) → option_and_then (slice_get xs) o ≡ Some v → option_and_then (slice_get (xs ++ ys)) o ≡ Some v
found_more xs ys None v e = let n : ⊥ = cc in absurd n
found_more xs ys (Some i) v e = slice_more xs ys i v e

pub found_some : {A : Type 0} (xs : List A) (o : Option ℕ) (v : A) → option_and_then (slice_get xs) o ≡ Some v → is_some o ≡ true
found_some xs None v e = let n : ⊥ = cc in absurd n
found_some xs (Some i) v e = refl

standing_alike : (a b : Scope) → Alike a b → (n : List ℕ) → standing_of b n ≡ standing_of a n
standing_alike a b e n =
    ap (λ k. option_and_then (slice_get b.standings) (last_place k n)) e.0
    ∙ ap (λ k. option_and_then (slice_get k) (last_place a.names n)) e.1

standing_other : (scope : Scope) (name : List ℕ) (s : Standing) (b : Bool) (m : List ℕ) (v : Standing) → bytes_eq name m ≡ false →
    standing_of scope m ≡ Some v → standing_of (scope_with scope name s b) m ≡ Some v
standing_other scope name s b m v q e =
    ap (option_and_then (slice_get (scope.standings ++ s ∷ []))) (last_other scope.names name m q)
    ∙ found_more scope.standings (s ∷ []) (last_place scope.names m) v e

pub keeps_alike : (m : List ℕ) (i : ℕ) (a b : Scope) (f g : Frame) → Alike a b → FrameMore f g → Keeps m i a f → Keeps m i b g
keeps_alike m i a b f g e w k = record {
  fixed = (k.fixed.0, standing_alike a b e m ∙ k.fixed.1, k.fixed.2);
  place = subst (λ l. slice_get l i ≡ Some m) (sym w.1) (slice_more f.locals.names w.0 i m k.place);
  known = λ n h. subst (λ l. is_some (last_place l n) ≡ true) (sym w.1)
      (last_more f.locals.names w.0 n (k.known n (subst (λ l. is_some (last_place l n) ≡ true) e.0 h)));
}

-- a declared name is none in scope
pub keeps_declared : (m : List ℕ) (i : ℕ) (scope : Scope) (f : Frame) (name : List ℕ) (s : Standing) (b : Bool) (w : ValueType) →
    last_place scope.names name ≡ None → Keeps m i scope f → (let g : Frame = record f { locals = with_type f.locals name w } in Keeps m i (scope_with scope name s b) g)
keeps_declared m i scope f name s b w fresh k =
    let there = found_some scope.standings (last_place scope.names m) k.fixed.0 k.fixed.1 in
    let other = differs scope.names name m fresh there in
    record {
      fixed = (k.fixed.0, standing_other scope name s b m k.fixed.0 other k.fixed.1, k.fixed.2);
      place = slice_more f.locals.names (name ∷ []) i m k.place;
      known = λ n h. of n (bytes_eq name n) refl h;
    }
  where
    of : (n : List ℕ) (c : Bool) → bytes_eq name n ≡ c → is_some (last_place (scope.names ++ name ∷ []) n) ≡ true → is_some (last_place (f.locals.names ++ name ∷ []) n) ≡ true
    of n true q h = ap is_some (last_here f.locals.names name n q)
    of n false q h =
        last_more f.locals.names (name ∷ []) n (k.known n (subst (λ o. is_some o ≡ true) (last_other scope.names name n q) h))

-- ---- parameters
pub params_names : (t u : Tables) (fixed : List (List ℕ)) (scope : Scope) (made : TypedNames) (ps : List Param) → scope.names ≡ made.names → (params_scope t fixed scope ps).names ≡ (params_behind u made ps).names
params_names t u fixed scope made [] e = e
params_names t u fixed scope made (p ∷ ps) e =
    params_names t u fixed (param_behind t fixed scope p) (with_type made p.name.name (value_type u p.typed)) ps (ap (λ l. l ++ p.name.name ∷ []) e)

-- each parameter of these names is fixed
pub record AllFixed (fixed : List (List ℕ)) (scope : Scope) : Type 0 where
  pub even : length scope.standings ≡ length scope.names
  pub each : (m : List ℕ) → is_some (last_place fixed m) ≡ true → is_some (last_place scope.names m) ≡ true → IsFixed scope m

one_more : {X : Type 0} (xs : List X) (x : X) → length (xs ++ x ∷ []) ≡ suc (length xs)
one_more [] x = refl
one_more (y ∷ xs) x = ap suc (one_more xs x)

abbrev param_standing : Tables → List (List ℕ) → Param → Standing
param_standing t fixed p = record { holds = value_type t p.typed; fixed = is_some (last_place fixed p.name.name) }

param_fixed : (t : Tables) (fixed : List (List ℕ)) (scope : Scope) (p : Param) → AllFixed fixed scope → AllFixed fixed (param_behind t fixed scope p)
param_fixed t fixed scope p k =
    record {
      even = one_more scope.standings (param_standing t fixed p) ∙ ap suc k.even ∙ sym (one_more scope.names p.name.name);
      each = λ m h there. of m (bytes_eq p.name.name m) refl h there;
    }
  where
    of : (m : List ℕ) (c : Bool) → bytes_eq p.name.name m ≡ c → is_some (last_place fixed m) ≡ true → is_some (last_place (scope.names ++ p.name.name ∷ []) m) ≡ true →
        IsFixed (param_behind t fixed scope p) m
    of m true q h there =
        let s = param_standing t fixed p in (
          s,
          ap (option_and_then (slice_get (scope.standings ++ s ∷ []))) (last_here scope.names p.name.name m q)
              ∙ subst (λ l. slice_get (scope.standings ++ s ∷ []) l ≡ Some s) k.even (slice_end scope.standings s),
          subst (λ n. is_some (last_place fixed n) ≡ true) (sym (bytes_same p.name.name m q)) h,
        )
    of m false q h there =
        let before = k.each m h (subst (λ o. is_some o ≡ true) (last_other scope.names p.name.name m q) there) in
        (before.0, standing_other scope p.name.name (param_standing t fixed p) true m before.0 q before.1, before.2)

pub params_fixed : (t : Tables) (fixed : List (List ℕ)) (scope : Scope) (ps : List Param) → AllFixed fixed scope → AllFixed fixed (params_scope t fixed scope ps)
params_fixed t fixed scope [] k = k
params_fixed t fixed scope (p ∷ ps) k = params_fixed t fixed (param_behind t fixed scope p) ps (param_fixed t fixed scope p k)

pub none_fixed : (fixed : List (List ℕ)) → AllFixed fixed no_scope
none_fixed fixed = record { even = refl; each = λ m h there. let n : ⊥ = cc in absurd n }
