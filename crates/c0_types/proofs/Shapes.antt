-- Types of values and the shapes that stand for them.
use Rattle.std.proofs.Common.{◌≡◌, ℕ, Bool, true, false, ◌&&◌, ◌||◌, eqb, Some, None, is_some, if◌then◌else◌, refl, sym, subst, ap, ◌∙◌, eqb-true, eq-eqb, ne_eqb, ltb-true, inl, inr, arith, ◌==◌}
use Rattle.std.specs.Prelude.{◌⊎◌, nat_lt}
use Rattle.gc0_tree.specs.declared.Shape.{Shape}
use Rattle.gc0_tree.specs.declared.Shape.TheVariants as shape
use Rattle.gc0_tree.specs.Fits as fit
use Rattle.c0_names.specs.declared.types.BaseType.{BaseType}
use Rattle.c0_names.specs.declared.types.BaseType.TheVariants.{Int, Bool as Truth, Struct}
use Rattle.c0_names.specs.declared.types.ValueType.{ValueType}
use Rattle.c0_names.specs.declared.types.ValueType.TheVariants.{Written, Null, Void, Text}
use Rattle.c0_names.specs.Types.{int, bool, same_type, is_int, is_truth, is_void, is_pointer, is_held, pointed, fits, common}
use Rattle.c0_value_numbers.specs.Values.{shape_of}

-- what a local, a field, a parameter and a result may be
pub data Held : ValueType → Type 0 where
  held_int : Held (Written Int 0)
  held_truth : Held (Written Truth 0)
  held_pointer : (k : ℕ) → Held (Written (Struct k) 1)

one_of : (a b : Bool) → (a || b) ≡ true → (a ≡ true) ⊎ (b ≡ true)
one_of true b e = inl refl
one_of false b e = inr e

pub both_left : (a b : Bool) → (a && b) ≡ true → a ≡ true
both_left true b e = refl
both_left false b e = let n : ⊥ = cc in absurd n

pub both_right : (a b : Bool) → (a && b) ≡ true → b ≡ true
both_right true b e = e
both_right false b e = let n : ⊥ = cc in absurd n

no_struct : (b : Bool) → is_some {T = ℕ} (if b then None else None) ≡ true → ⊥
no_struct true e = let n : ⊥ = cc in n
no_struct false e = let n : ⊥ = cc in n

some_struct : (b : Bool) (k j : ℕ) → (if b then Some k else None) ≡ Some j → (b ≡ true) × (k ≡ j)
some_struct true k j e = (refl, cc)
some_struct false k j e = let n : ⊥ = cc in absurd n

is_struct : (b : Bool) (k : ℕ) → is_some (if b then Some k else None) ≡ true → b ≡ true
is_struct true k e = refl
is_struct false k e = let n : ⊥ = cc in absurd n

pub held_of : (v : ValueType) → is_held v ≡ true → Held v
held_of (Written Int m) e =
    (elim (one_of (eqb m 0) (is_some (pointed (Written Int m))) e) as (λ w. Held (Written Int m)) [
      | inl z ↦ subst (λ i. Held (Written Int i)) (sym (eqb-true m 0 z)) held_int
      | inr p ↦ absurd (no_struct (eqb m 1) p)
    ])
held_of (Written Truth m) e =
    (elim (one_of (eqb m 0) (is_some (pointed (Written Truth m))) e) as
    (λ w. Held (Written Truth m)) [
      | inl z ↦ subst (λ i. Held (Written Truth i)) (sym (eqb-true m 0 z)) held_truth
      | inr p ↦ absurd (no_struct (eqb m 1) p)
    ])
held_of (Written (Struct k) m) e =
    subst (λ i. Held (Written (Struct k) i)) (sym (eqb-true m 1 (is_struct (eqb m 1) k e)))
    (held_pointer k)
held_of Null e = let n : ⊥ = cc in absurd n
held_of Void e = let n : ⊥ = cc in absurd n
held_of Text e = let n : ⊥ = cc in absurd n

pub int_of : (v : ValueType) → is_int v ≡ true → v ≡ int
int_of (Written Int m) e = ap (Written Int) (eqb-true m 0 e)
int_of (Written Truth m) e = let n : ⊥ = cc in absurd n
int_of (Written (Struct k) m) e = let n : ⊥ = cc in absurd n
int_of Null e = let n : ⊥ = cc in absurd n
int_of Void e = let n : ⊥ = cc in absurd n
int_of Text e = let n : ⊥ = cc in absurd n

pub truth_of : (v : ValueType) → is_truth v ≡ true → v ≡ bool
truth_of (Written Int m) e = let n : ⊥ = cc in absurd n
truth_of (Written Truth m) e = ap (Written Truth) (eqb-true m 0 e)
truth_of (Written (Struct k) m) e = let n : ⊥ = cc in absurd n
truth_of Null e = let n : ⊥ = cc in absurd n
truth_of Void e = let n : ⊥ = cc in absurd n
truth_of Text e = let n : ⊥ = cc in absurd n

no_pointed : (b : Bool) (k : ℕ) → (if b then None else None) ≡ Some k → ⊥
no_pointed true k e = let n : ⊥ = cc in n
no_pointed false k e = let n : ⊥ = cc in n

pub pointed_of : (v : ValueType) (k : ℕ) → pointed v ≡ Some k → v ≡ Written (Struct k) 1
pointed_of (Written Int m) k e = absurd (no_pointed (eqb m 1) k e)
pointed_of (Written Truth m) k e = absurd (no_pointed (eqb m 1) k e)
pointed_of (Written (Struct j) m) k e =
    let q = some_struct (eqb m 1) j k e in
    ap (λ i. Written (Struct j) i) (eqb-true m 1 q.0) ∙ ap (λ i. Written (Struct i) 1) q.1
pointed_of Null k e = let n : ⊥ = cc in absurd n
pointed_of Void k e = let n : ⊥ = cc in absurd n
pointed_of Text k e = let n : ⊥ = cc in absurd n

pub eqb_self : (k : ℕ) → eqb k k ≡ true
eqb_self k = eq-eqb k k refl

-- a value whose type is held is one of that type

same_int : (v : ValueType) → same_type int v ≡ true → int ≡ v
same_int (Written Int m) e = ap (Written Int) (eqb-true 0 m e)
same_int (Written Truth m) e = let n : ⊥ = cc in absurd n
same_int (Written (Struct j) m) e = let n : ⊥ = cc in absurd n
same_int Null e = let n : ⊥ = cc in absurd n
same_int Void e = let n : ⊥ = cc in absurd n
same_int Text e = let n : ⊥ = cc in absurd n

same_truth : (v : ValueType) → same_type bool v ≡ true → bool ≡ v
same_truth (Written Int m) e = let n : ⊥ = cc in absurd n
same_truth (Written Truth m) e = ap (Written Truth) (eqb-true 0 m e)
same_truth (Written (Struct j) m) e = let n : ⊥ = cc in absurd n
same_truth Null e = let n : ⊥ = cc in absurd n
same_truth Void e = let n : ⊥ = cc in absurd n
same_truth Text e = let n : ⊥ = cc in absurd n

same_pointer : (k : ℕ) (v : ValueType) → same_type (Written (Struct k) 1) v ≡ true →
    Written (Struct k) 1 ≡ v
same_pointer k (Written Int m) e = let n : ⊥ = cc in absurd n
same_pointer k (Written Truth m) e = let n : ⊥ = cc in absurd n
same_pointer k (Written (Struct j) m) e =
    ap (λ i. Written (Struct i) 1) (eqb-true k j (both_left (eqb k j) (eqb 1 m) e)) ∙ ap
    (Written (Struct j)) (eqb-true 1 m (both_right (eqb k j) (eqb 1 m) e))
same_pointer k Null e = let n : ⊥ = cc in absurd n
same_pointer k Void e = let n : ⊥ = cc in absurd n
same_pointer k Text e = let n : ⊥ = cc in absurd n

pub same_held : (due v : ValueType) → Held due → same_type due v ≡ true → due ≡ v
same_held due v held_int e = same_int v e
same_held due v held_truth e = same_truth v e
same_held due v (held_pointer k) e = same_pointer k v e

suits_self : (v : ValueType) → Held v → fit.suits (shape_of v) (shape_of v) ≡ true
suits_self v held_int = refl
suits_self v held_truth = refl
suits_self v (held_pointer k) = eqb_self k

null_suits : (due : ValueType) → Held due → is_pointer due ≡ true →
    fit.suits (shape_of due) shape.Null ≡ true
null_suits due held_int e = let n : ⊥ = cc in absurd n
null_suits due held_truth e = let n : ⊥ = cc in absurd n
null_suits due (held_pointer k) e = refl

-- what fits a held type suits its shape
pub fits_suits : (due v : ValueType) → Held due → fits due v ≡ true →
    fit.suits (shape_of due) (shape_of v) ≡ true
fits_suits due Null h e = null_suits due h e
fits_suits due (Written b m) h e =
    subst (λ w. fit.suits (shape_of due) (shape_of w) ≡ true) (same_held due (Written b m) h e)
    (suits_self due h)
fits_suits due Void h e = let n : ⊥ = cc in absurd n
fits_suits due Text h e = let n : ⊥ = cc in absurd n

pub fits_value : (due v : ValueType) → fits due v ≡ true → is_void v ≡ false
fits_value due Null e = refl
fits_value due (Written b m) e = refl
fits_value due Void e = let n : ⊥ = cc in absurd n
fits_value due Text e = refl

pub held_value : (v : ValueType) → Held v → is_void v ≡ false
held_value v held_int = refl
held_value v held_truth = refl
held_value v (held_pointer k) = refl

-- what is given in common
pub record InCommon (v w z : ValueType) : Type 0 where
  pub left : is_void v ≡ false
  pub right : is_void w ≡ false
  pub both : is_void z ≡ false
  pub shapes : fit.common (shape_of v) (shape_of w) ≡ Some (shape_of z)

-- of a type with a `*`, NULL has the shape in common
over_null : (b : Bool) (s : Shape) → (s ≡ shape.Null) ⊎ ((k : ℕ) × (s ≡ shape.Pointer k)) →
    (fit.common shape.Null s ≡ Some s) × (fit.common s shape.Null ≡ Some s)
over_null b s (inl e) =
    subst (λ q. (fit.common shape.Null q ≡ Some q) × (fit.common q shape.Null ≡ Some q)) (sym e)
    (refl, refl)
over_null b s (inr e) =
    subst (λ q. (fit.common shape.Null q ≡ Some q) × (fit.common q shape.Null ≡ Some q)) (sym e.1)
    (refl, refl)

no_int : (b : Bool) (s : Shape) → b ≡ false → (if b then s else shape.Null) ≡ shape.Null
no_int b s e = ap (λ c. if c then s else shape.Null) e

starred : (b : BaseType) (m : ℕ) → nat_lt 0 m ≡ true →
    (shape_of (Written b m) ≡ shape.Null) ⊎ ((k : ℕ) × (shape_of (Written b m) ≡ shape.Pointer k))
starred Int m e =
    inl (no_int (m == 0) shape.Int (ne_eqb m 0 (λ z. let q = ltb-true 0 m e in absurd
    (omega arith))))
starred Truth m e =
    inl (no_int (m == 0) shape.Bool (ne_eqb m 0 (λ z. let q = ltb-true 0 m e in absurd
    (omega arith))))
starred (Struct k) m e = either (m == 1)
  where
    either : (c : Bool) → ((if c then shape.Pointer k else shape.Null) ≡ shape.Null) ⊎ ((j :
        ℕ) × ((if c then shape.Pointer k else shape.Null) ≡ shape.Pointer j))
    either true = inr (k, refl)
    either false = inl refl

pointer_shapes : (b : BaseType) (m : ℕ) → nat_lt 0 m ≡ true →
    (fit.common shape.Null (shape_of (Written b m)) ≡ Some (shape_of (Written b m))) ×
    (fit.common (shape_of (Written b m)) shape.Null ≡ Some (shape_of (Written b m)))
pointer_shapes b m e = over_null true (shape_of (Written b m)) (starred b m e)

pub common_self : (v : ValueType) → Held v →
    fit.common (shape_of v) (shape_of v) ≡ Some (shape_of v)
common_self v held_int = refl
common_self v held_truth = refl
common_self v (held_pointer k) = rw (eqb_self k)

pub if_some : {A : Type 0} (b : Bool) (x y : A) → (if b then Some x else None) ≡ Some y →
    (b ≡ true) × (x ≡ y)
if_some true x y e = (refl, cc)
if_some false x y e = let n : ⊥ = cc in absurd n

pub in_common : (v w z : ValueType) → common v w ≡ Some z → InCommon v w z
in_common Null (Written b m) z e =
    let q = if_some (nat_lt 0 m) (Written b m) z e in
    subst (InCommon Null (Written b m)) q.1 (record
    { left = refl; right = refl; both = refl; shapes = (pointer_shapes b m q.0).0 })
in_common Null Null z e =
    subst (InCommon Null Null) (if_some true Null z e).1
    (record { left = refl; right = refl; both = refl; shapes = refl })
in_common Null Void z e = let n : ⊥ = cc in absurd n
in_common Null Text z e = let n : ⊥ = cc in absurd n
in_common (Written b m) (Written c n) z e =
    let v = Written b m in
    let w = Written c n in
    let q = if_some (is_held v && same_type v w) v z e in
    let h = held_of v (both_left (is_held v) (same_type v w) q.0) in
    let s = same_held v w h (both_right (is_held v) (same_type v w) q.0) in
    subst (λ y. InCommon v y z) s (subst (InCommon v v) q.1
    (record { left = refl; right = refl; both = refl; shapes = common_self v h }))
in_common (Written b m) Null z e =
    let q = if_some (nat_lt 0 m) (Written b m) z e in
    subst (InCommon (Written b m) Null) q.1 (record
    { left = refl; right = refl; both = refl; shapes = (pointer_shapes b m q.0).1 })
in_common (Written b m) Void z e = let n : ⊥ = cc in absurd n
in_common (Written b m) Text z e = let n : ⊥ = cc in absurd n
in_common Void w z e = let n : ⊥ = cc in absurd n
in_common Text w z e = let n : ⊥ = cc in absurd n
