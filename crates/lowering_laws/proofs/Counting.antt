-- The temporaries of an expression: counts only grow, and shapes are those of the typing rules.
use Rattle.std.proofs.Common.{◌≡◌, ℕ, suc, ◌≤◌, Bool, true, false, List, All, Option, Some, None, IfSome, is_some, refl, sym, ap, ◌∙◌, subst, arith}
use Rattle.std.proofs.lemmas.Option.{slice_get_within, get_or_from_slice_get}
use Rattle.std.specs.Prelude.{slice_get, eqb, cond}
use Rattle.std.specs.Option.{option_and_then}
use Rattle.std.proofs.lemmas.Bool.{eqb-true, eq-eqb}
use Rattle.gc0_tree.specs.declared.Shape.{Shape}
use Rattle.gc0_tree.specs.declared.Shape.TheVariants.{Int, Bool as Truth, Pointer, Null}
use Rattle.gc0_tree.specs.declared.UnaryOp.{UnaryOp}
use Rattle.gc0_tree.specs.declared.UnaryOp.TheVariants as unary
use Rattle.gc0_tree.specs.declared.ExprOp.{ExprOp}
use Rattle.gc0_tree.specs.declared.ExprOp.TheVariants as op
use Rattle.gc0_tree.specs.declared.LibraryCall.{LibraryCall}
use Rattle.gc0_tree.specs.declared.LibraryCall.TheVariants as library
use Rattle.gc0_tree.specs.Tree.{Tree, number_at, truth_at, null_at, local_at, result_at, unary_at, binary_at, both_at, either_at, choose_at, read_at, call_at, library_at, alloc_at, Trees, no_trees, tree_and, Struct, Function, Program}
use Rattle.gc0_tree.specs.Fits.{common, unary_shape, gives, field_shape, library_gives, Room, HasShape, IsHeld, StructFits, FunctionFits, shapes_in}
use Rattle.lowering_laws.specs.Counts.{same_shape, or_int, result_of, tree_shape, chosen_shape, Counts, one_more, with_result, with_constant, decided, call_choices, is_constant, counted, args_counted, first_counted}

-- ---- shapes
pub some_is : {A : Type 0} (x y : A) → Some x ≡ Some y → x ≡ y
some_is {A} x y e = ap or_else e
  where
    or_else : Option A → A
    or_else None = x
    or_else (Some z) = z

pub none_some : {A : Type 0} (x : A) → None ≡ Some x → ⊥
none_some x e = cc

pub same_refl : (s : Shape) → same_shape s s ≡ true
same_refl Int = refl
same_refl Truth = refl
same_refl Null = refl
same_refl (Pointer k) = eq-eqb k k refl

pub same_is : (s u : Shape) → same_shape s u ≡ true → s ≡ u
same_is Int Int h = refl
same_is Truth Truth h = refl
same_is Null Null h = refl
same_is (Pointer j) (Pointer k) h = ap Pointer (eqb-true j k h)
same_is s u h = absurd (let f : false ≡ true = h in cc)

pub shape_is : (p : Program) (r : Room) (e : Tree) (s : Shape) → HasShape p r e s → tree_shape p r e ≡ s
shape_is p r (number_at at n) s h = sym h
shape_is p r (truth_at at b) s h = sym h
shape_is p r (null_at at) s h = sym h
shape_is p r (local_at at i) s h = ap or_int h
shape_is p r (result_at at) s h = ap or_int h
shape_is p r (unary_at at o a) s h = sym h.0
shape_is p r (binary_at at o a b) s h = sym h.0
shape_is p r (both_at at a b) s h = sym h.0
shape_is p r (either_at at a b) s h = sym h.0
shape_is p r (choose_at at x a b) s h =
    ap (λ u. or_int (common u (tree_shape p r b))) (shape_is p r a h.1 h.3) ∙ ap (λ v. or_int (common h.1 v)) (shape_is p r b h.2 h.4) ∙ ap or_int h.5
shape_is p r (read_at at a k field) s h = ap or_int h.1
shape_is p r (call_at at g es) s h = ap (λ o. or_int (result_of o)) h.1 ∙ ap or_int h.3
shape_is p r (library_at at l es t) s h = ap or_int h.0
shape_is p r (alloc_at at k) s h = sym h.0

-- ---- counts
-- no more of any shape
abbrev pub Within : (Shape → ℕ) → (Shape → ℕ) → Type 0
Within a b = (u : Shape) → a u ≤ b u

pub more_if : (b : Bool) (n : ℕ) → n ≤ cond b (suc n) n
more_if true n = omega arith
more_if false n = omega arith

pub one_grows : (s : Shape) (used : Shape → ℕ) → Within used (one_more s used)
one_grows s used u = more_if (same_shape s u) (used u)

pub one_has : (s : Shape) (used : Shape → ℕ) → one_more s used s ≡ suc (used s)
one_has s used = ap (λ b. cond b (suc (used s)) (used s)) (same_refl s)

pub within_trans : (a b c : Shape → ℕ) → Within a b → Within b c → Within a c
within_trans a b c h k u = let x = h u in let y = k u in omega arith

pub result_grows : (o : Option Shape) (c : Counts) → Within c.used (with_result o c).used
result_grows None c u = omega arith
result_grows (Some s) c u = one_grows s c.used u

pub constant_grows : (b : Bool) (s : Shape) (c : Counts) → Within c.used (with_constant b s c).used
constant_grows false s c u = omega arith
constant_grows true s c u = one_grows s c.used u

-- the counts behind an expression are no less
module _ (p : Program) (r : Room) where
  mutual
    pub counted_grows : (c : Counts) (e : Tree) → Within c.used (counted p r c e).used
    counted_grows c (number_at at n) u = omega arith
    counted_grows c (truth_at at b) u = omega arith
    counted_grows c (null_at at) u = omega arith
    counted_grows c (local_at at i) u = omega arith
    counted_grows c (result_at at) u = omega arith
    counted_grows c (unary_at at o a) u = let x = counted_grows c a u in let y = one_grows (unary_shape o) (counted p r c a).used u in omega arith
    counted_grows c (binary_at at o a b) u =
        let c1 : Counts = counted p r c a in
        let x = counted_grows c a u in let y = counted_grows c1 b u in let z = one_grows (gives o) (counted p r c1 b).used u in omega arith
    counted_grows c (both_at at a b) u =
        let c1 : Counts = counted p r c a in
        let x = counted_grows c a u in let y = counted_grows (decided 1 c1) b u in let z = one_grows Truth (counted p r (decided 1 c1) b).used u in omega arith
    counted_grows c (either_at at a b) u =
        let c1 : Counts = counted p r c a in
        let x = counted_grows c a u in let y = counted_grows (decided 1 c1) b u in let z = one_grows Truth (counted p r (decided 1 c1) b).used u in omega arith
    counted_grows c (choose_at at e a b) u =
        let c1 : Counts = decided 1 (counted p r c e) in
        let c2 : Counts = counted p r c1 a in
        let x = counted_grows c e u in let y = counted_grows c1 a u in let z = counted_grows c2 b u in let v = one_grows (chosen_shape p r a b) (counted p r c2 b).used u in omega arith
    counted_grows c (read_at at a k field) u = let x = counted_grows c a u in let y = one_grows (or_int (field_shape p k field)) (counted p r c a).used u in omega arith
    counted_grows c (call_at at g es) u =
        let c1 : Counts = decided (call_choices (slice_get p.functions g)) (args_counted p r c es) in
        let x = args_grow c es u in let y = result_grows (result_of (slice_get p.functions g)) c1 u in omega arith
    counted_grows c (library_at at l es t) u = let x = first_grows c es u in let y = result_grows (library_gives l) (first_counted p r c es) u in omega arith
    counted_grows c (alloc_at at k) u = one_grows (Pointer k) c.used u

    pub args_grow : (c : Counts) (es : Trees) → Within c.used (args_counted p r c es).used
    args_grow c no_trees u = omega arith
    args_grow c (tree_and e es) u =
        let c1 : Counts = counted p r c e in
        let x = counted_grows c e u in
        let y = constant_grows (is_constant e) (tree_shape p r e) c1 u in
        let z = args_grow (with_constant (is_constant e) (tree_shape p r e) c1) es u in omega arith

    pub first_grows : (c : Counts) (es : Trees) → Within c.used (first_counted p r c es).used
    first_grows c no_trees u = omega arith
    first_grows c (tree_and e es) u = counted_grows c e u

  -- what is used of temporaries doesn't depend on the decisions
  result_alike : (o : Option Shape) (c d : Counts) → c.used ≡ d.used → (with_result o c).used ≡ (with_result o d).used
  result_alike None c d h = h
  result_alike (Some s) c d h = ap (one_more s) h

  constant_alike : (b : Bool) (s : Shape) (c d : Counts) → c.used ≡ d.used → (with_constant b s c).used ≡ (with_constant b s d).used
  constant_alike false s c d h = h
  constant_alike true s c d h = ap (one_more s) h

  mutual
    pub used_alike : (e : Tree) (c d : Counts) → c.used ≡ d.used → (counted p r c e).used ≡ (counted p r d e).used
    used_alike (number_at at n) c d h = h
    used_alike (truth_at at b) c d h = h
    used_alike (null_at at) c d h = h
    used_alike (local_at at i) c d h = h
    used_alike (result_at at) c d h = h
    used_alike (unary_at at o a) c d h = ap (one_more (unary_shape o)) (used_alike a c d h)
    used_alike (binary_at at o a b) c d h = ap (one_more (gives o)) (used_alike b (counted p r c a) (counted p r d a) (used_alike a c d h))
    used_alike (both_at at a b) c d h = ap (one_more Truth) (used_alike b (decided 1 (counted p r c a)) (decided 1 (counted p r d a)) (used_alike a c d h))
    used_alike (either_at at a b) c d h = ap (one_more Truth) (used_alike b (decided 1 (counted p r c a)) (decided 1 (counted p r d a)) (used_alike a c d h))
    used_alike (choose_at at x a b) c d h =
        ap (one_more (chosen_shape p r a b)) (used_alike b (counted p r (decided 1 (counted p r c x)) a) (counted p r (decided 1 (counted p r d x)) a)
        (used_alike a (decided 1 (counted p r c x)) (decided 1 (counted p r d x)) (used_alike x c d h)))
    used_alike (read_at at a k field) c d h = ap (one_more (or_int (field_shape p k field))) (used_alike a c d h)
    used_alike (call_at at g es) c d h = result_alike (result_of (slice_get p.functions g)) (decided (call_choices (slice_get p.functions g)) (args_counted p r c es)) (decided (call_choices (slice_get p.functions g)) (args_counted p r d es)) (args_alike es c d h)
    used_alike (library_at at l es t) c d h = result_alike (library_gives l) (first_counted p r c es) (first_counted p r d es) (first_alike es c d h)
    used_alike (alloc_at at k) c d h = ap (one_more (Pointer k)) h

    args_alike : (es : Trees) (c d : Counts) → c.used ≡ d.used → (args_counted p r c es).used ≡ (args_counted p r d es).used
    args_alike no_trees c d h = h
    args_alike (tree_and e es) c d h =
        let s : Shape = tree_shape p r e in
        args_alike es (with_constant (is_constant e) s (counted p r c e)) (with_constant (is_constant e) s (counted p r d e)) (constant_alike (is_constant e) s (counted p r c e) (counted p r d e) (used_alike e c d h))

    pub first_alike : (es : Trees) (c d : Counts) → c.used ≡ d.used → (first_counted p r c es).used ≡ (first_counted p r d es).used
    first_alike no_trees c d h = h
    first_alike (tree_and e es) c d h = used_alike e c d h

-- ---- the shapes of temporaries are those of the program
abbrev pub IsTemp : Program → Shape → Type 0
IsTemp p Int = Unit {0}
IsTemp p Truth = Unit {0}
IsTemp p Null = Unit {0}
IsTemp p (Pointer k) = is_some (slice_get p.structs k) ≡ true

pub held_temp : (p : Program) (s : Shape) → IsHeld p s → IsTemp p s
held_temp p Int h = tt
held_temp p Truth h = tt
held_temp p Null h = tt
held_temp p (Pointer k) h = h

pub unary_temp : (p : Program) (o : UnaryOp) → IsTemp p (unary_shape o)
unary_temp p unary.Neg = tt
unary_temp p unary.Not = tt
unary_temp p unary.Flip = tt

pub gives_temp : (p : Program) (o : ExprOp) → IsTemp p (gives o)
gives_temp p op.Less = tt
gives_temp p op.LessEq = tt
gives_temp p op.Greater = tt
gives_temp p op.GreaterEq = tt
gives_temp p op.Equal = tt
gives_temp p op.NotEqual = tt
gives_temp p o = tt

pub library_temp : (p : Program) (l : LibraryCall) → IfSome (library_gives l) (IsTemp p)
library_temp p library.PrintInt = tt
library_temp p library.PrintBool = tt
library_temp p library.Print = tt
library_temp p library.PrintLine = tt
library_temp p library.ReadInt = tt
library_temp p library.MoreInt = tt

some_temp : (p : Program) (o : Option Shape) (s : Shape) → IfSome o (IsTemp p) → o ≡ Some s → IsTemp p s
some_temp p None s h e = absurd (none_some s e)
some_temp p (Some u) s h e = subst (IsTemp p) (some_is u s e) h

common_temp : (p : Program) (u v : Shape) → IsTemp p u → IsTemp p v → IfSome (common u v) (IsTemp p)
common_temp p Int Int h k = tt
common_temp p Truth Truth h k = tt
common_temp p Null Null h k = tt
common_temp p Null (Pointer j) h k = k
common_temp p (Pointer j) Null h k = h
common_temp p (Pointer j) (Pointer i) h k = either_way (eqb j i)
  where
    either_way : (b : Bool) → IfSome (cond b (Some (Pointer j)) None) (IsTemp p)
    either_way true = h
    either_way false = tt
common_temp p u v h k = tt

pub all_at : {A : Type 0} (P : A → Type 0) (xs : List A) (i : ℕ) (x : A) → All P xs → slice_get xs i ≡ Some x → P x
all_at P xs i x h e = subst P (get_or_from_slice_get xs i x x e) (h i x (slice_get_within xs i x e))

module _ (p : Program) (structs : All (StructFits p) p.structs) (functions : All (FunctionFits p) p.functions) where
  pub field_temp : (k field : ℕ) → IfSome (field_shape p k field) (IsTemp p)
  field_temp k field = by_struct (slice_get p.structs k) refl
    where
      by_field : (t : Struct) → StructFits p t → (o : Option Shape) → slice_get (shapes_in t.fields) field ≡ o → IfSome o (IsTemp p)
      by_field t h None e = tt
      by_field t h (Some s) e = held_temp p s (all_at (IsHeld p) (shapes_in t.fields) field s h e)

      by_struct : (o : Option Struct) → slice_get p.structs k ≡ o → IfSome (option_and_then (λ s. slice_get (shapes_in s.fields) field) o) (IsTemp p)
      by_struct None e = tt
      by_struct (Some t) e = by_field t (all_at (StructFits p) p.structs k t structs e) (slice_get (shapes_in t.fields) field) refl

  pub result_temp : (g : ℕ) → IfSome (result_of (slice_get p.functions g)) (IsTemp p)
  result_temp g = by_function (slice_get p.functions g) refl
    where
      by_result : (o : Option Shape) → IfSome o (IsHeld p) → IfSome o (IsTemp p)
      by_result None h = tt
      by_result (Some s) h = held_temp p s h

      by_function : (o : Option Function) → slice_get p.functions g ≡ o → IfSome (result_of o) (IsTemp p)
      by_function None e = tt
      by_function (Some f) e = by_result f.result (all_at (FunctionFits p) p.functions g f functions e).result

  module _ (r : Room) (locals : All (IsHeld p) r.locals) (outcome : IfSome r.outcome (IsTemp p)) where
    pub shape_temp : (e : Tree) (s : Shape) → HasShape p r e s → IsTemp p s
    shape_temp (number_at at n) s h = subst (IsTemp p) (sym h) tt
    shape_temp (truth_at at b) s h = subst (IsTemp p) (sym h) tt
    shape_temp (null_at at) s h = subst (IsTemp p) (sym h) tt
    shape_temp (local_at at i) s h = held_temp p s (all_at (IsHeld p) r.locals i s locals h)
    shape_temp (result_at at) s h = some_temp p r.outcome s outcome h
    shape_temp (unary_at at o a) s h = subst (IsTemp p) (sym h.0) (unary_temp p o)
    shape_temp (binary_at at o a b) s h = subst (IsTemp p) (sym h.0) (gives_temp p o)
    shape_temp (both_at at a b) s h = subst (IsTemp p) (sym h.0) tt
    shape_temp (either_at at a b) s h = subst (IsTemp p) (sym h.0) tt
    shape_temp (choose_at at x a b) s h = some_temp p (common h.1 h.2) s (common_temp p h.1 h.2 (shape_temp a h.1 h.3) (shape_temp b h.2 h.4)) h.5
    shape_temp (read_at at a k field) s h = some_temp p (field_shape p k field) s (field_temp k field) h.1
    shape_temp (call_at at g es) s h = some_temp p (result_of (slice_get p.functions g)) s (result_temp g) (ap result_of h.1 ∙ h.3)
    shape_temp (library_at at l es t) s h = some_temp p (library_gives l) s (library_temp p l) h.0
    shape_temp (alloc_at at k) s h = subst (IsTemp p) (sym h.0) h.1
