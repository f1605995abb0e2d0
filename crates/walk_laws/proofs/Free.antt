-- How many cells of a heap are not in a footprint, and the guards of predicates: what the depth of instances falls by.
use Rattle.std.proofs.Common.{◌≡◌, ℕ, zero, suc, ◌+◌, ◌<◌, ◌≤◌, ◌⊎◌, inl, inr, Bool, true, false, not, ◌&&◌, List, [], ◌∷◌, ◌++◌, length, Option, Some, None, refl, sym, ap, subst, ◌∙◌, IsTrue, eqb, arith}
use Rattle.std.proofs.lemmas.Bool.{ltb-true, eqb-true, eq-eqb}
use Rattle.std.specs.Prelude.{slice_get, is_some, nat_lt, ◌||◌, if◌then◌else◌}
use Rattle.gc0_base.specs.declared.place.Place.{Place}
use Rattle.gc0_tree.specs.Sites.{token_if}
use Rattle.gc0_tree.specs.Tree.{Conjuncts, no_parts, value_part, acc_part, instance_part, choice_part, Predicate}
use Rattle.c0_meaning.specs.Operators.{pick}
use Rattle.c0_meaning.specs.Heaps.{Cell, Cells, Heap, same_cell, owns, cells_of, cells_in, field_of}
use Rattle.c0_meaning.specs.Holds.{and_then}
use Rattle.c0_meaning.specs.Framing.{parts_unguarded, predicates_unguarded}
use Rattle.core_checks.specs.Parts.{cells_from}

-- ---- small cases
pub or_false : (b : Bool) → (b || false) ≡ b
or_false true = refl
or_false false = refl

pub or_after : (a b x y : Bool) → x ≡ (b || y) → (a || x) ≡ ((a || b) || y)
or_after true b x y e = refl
or_after false b x y e = e

pub owns_end : (foot : Cells) (c d : Cell) → owns (foot ++ c ∷ []) d ≡ (owns foot d || same_cell c d)
owns_end [] c d = or_false (same_cell c d)
owns_end (e ∷ foot) c d = or_after (same_cell e d) (owns foot d) (owns (foot ++ c ∷ []) d) (same_cell c d) (owns_end foot c d)

pub and_is : (a b : Bool) → IsTrue (a && b) → IsTrue a × IsTrue b
and_is true b h = (refl, h)
and_is false b h = cc

pub same_is : (c d : Cell) → IsTrue (same_cell c d) → c ≡ d
same_is c d h =
    let e = and_is (eqb c.object d.object) (eqb c.field d.field) h in
    let p = eqb-true c.object d.object e.0 in
    let q = eqb-true c.field d.field e.1 in
    λ i. record { object = p i; field = q i }

pub same_refl : (c : Cell) → IsTrue (same_cell c c)
same_refl c = rw (eq-eqb c.object c.object refl) (eq-eqb c.field c.field refl)

pub not_is : (b : Bool) → IsTrue (not b) → b ≡ false
not_is true h = cc
not_is false h = refl

pub none_some : {A : Type 0} (x : A) → None ≡ Some x → ⊥
none_some x e = cc

pub some_is : {A : Type 0} (x y : A) → Some x ≡ Some y → x ≡ y
some_is x y e = cc

pub bind_some : {A B : Type 0} (m : Option A) (f : A → Option B) (y : B) → and_then m f ≡ Some y → (x : A) × (m ≡ Some x) × (f x ≡ Some y)
bind_some None f y e = absurd (none_some y e)
bind_some (Some x) f y e = (x, refl, e)

pub pick_case : {A : Type 0} (P : A → Type 0) (x : ℕ) (a b : A) → P a → P b → P (pick x a b)
pick_case P zero a b pa pb = pa
pick_case P (suc n) a b pa pb = pb

pub guard_some : {A : Type 0} (t : Bool) (x y : A) → (if t then Some x else None) ≡ Some y → IsTrue t × (x ≡ y)
guard_some true x y e = (refl, some_is x y e)
guard_some false x y e = absurd (none_some y e)

pub or_first : (a b : Bool) → IsTrue a → IsTrue (a || b)
or_first true b h = refl
or_first false b h = cc

pub or_later : (a b : Bool) → IsTrue b → IsTrue (a || b)
or_later true b h = refl
or_later false b h = h

pub or_on : (a b c : Bool) → (IsTrue b → IsTrue c) → IsTrue (a || b) → IsTrue (a || c)
or_on true b c f h = refl
or_on false b c f h = f h

pub owns_left : (cs ds : Cells) (c : Cell) → IsTrue (owns cs c) → IsTrue (owns (cs ++ ds) c)
owns_left [] ds c h = cc
owns_left (d ∷ cs) ds c h = or_on (same_cell d c) (owns cs c) (owns (cs ++ ds) c) (owns_left cs ds c) h

pub owns_right : (cs ds : Cells) (c : Cell) → IsTrue (owns ds c) → IsTrue (owns (cs ++ ds) c)
owns_right [] ds c h = h
owns_right (d ∷ cs) ds c h = or_later (same_cell d c) (owns (cs ++ ds) c) (owns_right cs ds c h)

pub up_one : (f n : ℕ) → (n ≡ f) ⊎ (f < n) → (suc n ≡ suc f) ⊎ (suc f < suc n)
up_one f n (inl e) = inl (ap suc e)
up_one f n (inr l) = inr (omega arith)

pub last_or_below : (f n : ℕ) → f < suc n → (n ≡ f) ⊎ (f < n)
last_or_below zero zero l = inl refl
last_or_below zero (suc n) l = inr (omega arith)
last_or_below (suc f) zero l = absurd (omega arith)
last_or_below (suc f) (suc n) l = up_one f n (last_or_below f n (omega arith))

abbrev pub cell_at : ℕ → ℕ → Cell
cell_at k f = record { object = k; field = f }

pub field_by : (k n f : ℕ) → (n ≡ f) ⊎ (f < n) → (f < n → IsTrue (owns (cells_of k n) (cell_at k f))) → IsTrue (owns (cells_of k (suc n)) (cell_at k f))
field_by k n f (inl e) h = or_first (same_cell (cell_at k n) (cell_at k f)) _ (subst (λ x. IsTrue (same_cell (cell_at k n) (cell_at k x))) e (same_refl (cell_at k n)))
field_by k n f (inr l) h = or_later (same_cell (cell_at k n) (cell_at k f)) _ (h l)

pub field_cell : (k n f : ℕ) → f < n → IsTrue (owns (cells_of k n) (cell_at k f))
field_cell k zero f l = absurd (omega arith)
field_cell k (suc n) f l = field_by k n f (last_or_below f n l) (field_cell k n f)

pub has_in : (xs : List ℕ) (i : ℕ) → IsTrue (is_some (slice_get xs i)) → i < length xs
has_in [] i h = cc
has_in (x ∷ xs) zero h = omega arith
has_in (x ∷ xs) (suc i) h = omega (arith, has_in xs i h)

-- a cell with a value is among the cells of the heap
pub valued_in : (heap : Heap) (base n f k : ℕ) → k ≡ base + n → IsTrue (is_some (field_of (slice_get heap n) f)) → IsTrue (owns (cells_from base heap) (cell_at k f))
valued_in [] base n f k e h = cc
valued_in (o ∷ os) base zero f k e h =
    let same : base ≡ k = omega arith in
    subst (λ x. IsTrue (owns (cells_from base (o ∷ os)) (cell_at x f))) same
    (owns_left (cells_of base (length o.fields)) (cells_from (suc base) os) (cell_at base f) (field_cell base (length o.fields) f (has_in o.fields f h)))
valued_in (o ∷ os) base (suc n) f k e h =
    owns_right (cells_of base (length o.fields)) (cells_from (suc base) os) (cell_at k f) (valued_in os (suc base) n f k (omega arith) h)

-- ---- guards, as products
abbrev pub Guards : ℕ → Bool → Conjuncts → Type 0
Guards p seen no_parts = Unit {0}
Guards p seen (value_part e rest) = Guards p seen rest
Guards p seen (acc_part e f rest) = Guards p true rest
Guards p seen (instance_part at q args rest) = (IsTrue seen ⊎ (q < p)) × Guards p seen rest
Guards p seen (choice_part at c these those rest) = Guards p seen these × Guards p seen those × Guards p seen rest

pub left_none : (a b : List Place) → a ++ b ≡ [] → a ≡ []
left_none [] b e = refl
left_none (v ∷ a) b e = let n : ⊥ = cc in absurd n

pub right_none : (a b : List Place) → a ++ b ≡ [] → b ≡ []
right_none [] b e = e
right_none (v ∷ a) b e = let n : ⊥ = cc in absurd n

pub kept : (b : Bool) (at : Place) → token_if (not b) at ≡ [] → IsTrue b
kept true at e = refl
kept false at e = let n : ⊥ = cc in absurd n

pub by_number : (seen : Bool) (q p : ℕ) → IsTrue (seen || nat_lt q p) → IsTrue seen ⊎ (q < p)
by_number true q p h = inl refl
by_number false q p h = inr (ltb-true q p h)

pub guards_of : (p : ℕ) (seen : Bool) (cs : Conjuncts) → parts_unguarded p seen cs ≡ [] → Guards p seen cs
guards_of p seen no_parts e = tt
guards_of p seen (value_part v rest) e = guards_of p seen rest e
guards_of p seen (acc_part v f rest) e = guards_of p true rest e
guards_of p seen (instance_part at q args rest) e = (
  by_number seen q p (kept (seen || nat_lt q p) at (left_none (token_if (not (seen || nat_lt q p)) at) (parts_unguarded p seen rest) e)),
  guards_of p seen rest (right_none (token_if (not (seen || nat_lt q p)) at) (parts_unguarded p seen rest) e),
)
guards_of p seen (choice_part at c these those rest) e =
    let more = right_none (parts_unguarded p seen these) (parts_unguarded p seen those ++ parts_unguarded p seen rest) e in (
      guards_of p seen these (left_none (parts_unguarded p seen these) (parts_unguarded p seen those ++ parts_unguarded p seen rest) e),
      guards_of p seen those (left_none (parts_unguarded p seen those) (parts_unguarded p seen rest) more),
      guards_of p seen rest (right_none (parts_unguarded p seen those) (parts_unguarded p seen rest) more),
    )

pub guards_at : (ps : List Predicate) (own p k : ℕ) (d : Predicate) → k ≡ own + p → predicates_unguarded own ps ≡ [] → slice_get ps p ≡ Some d → Guards k false d.body
guards_at [] own p k d at h e = absurd (none_some d e)
guards_at (c ∷ ps) own zero k d at h e =
    let same : own ≡ k = omega arith in
    subst (λ x. Guards x false d.body) same
    (subst (λ x. Guards own false x.body) (some_is c d e) (guards_of own false c.body (left_none (parts_unguarded own false c.body) (predicates_unguarded (suc own) ps) h)))
guards_at (c ∷ ps) own (suc p) k d at h e =
    guards_at ps (suc own) p k d (omega arith) (right_none (parts_unguarded own false c.body) (predicates_unguarded (suc own) ps) h) e

-- ---- numbers of predicates
pub out_up : (A : Type 0) (i n : ℕ) → A ⊎ (i < n) → A ⊎ (suc i < suc n)
out_up A i n (inl a) = inl a
out_up A i n (inr l) = inr (omega arith)

pub out_or_in : (ps : List Predicate) (i : ℕ) → (slice_get ps i ≡ None) ⊎ (i < length ps)
out_or_in [] i = inl refl
out_or_in (p ∷ ps) zero = inr (omega arith)
out_or_in (p ∷ ps) (suc i) = out_up _ i (length ps) (out_or_in ps i)

-- ---- how many of the cells are not in the footprint
abbrev pub one_if_not : Bool → ℕ
one_if_not true = 0
one_if_not false = 1

abbrev pub free : Cells → Cells → ℕ
free [] foot = 0
free (c ∷ cs) foot = one_if_not (owns foot c) + free cs foot

pub less_out : (a b : Bool) → one_if_not (a || b) ≤ one_if_not a
less_out true b = omega arith
less_out false true = omega arith
less_out false false = omega arith

pub free_le : (cs foot : Cells) (c : Cell) → free cs (foot ++ c ∷ []) ≤ free cs foot
free_le [] foot c = omega arith
free_le (d ∷ cs) foot c = rw (owns_end foot c d) (omega (arith, less_out (owns foot d) (same_cell c d), free_le cs foot c))

pub or_is : (a b : Bool) → IsTrue (a || b) → IsTrue a ⊎ IsTrue b
or_is true b h = inl refl
or_is false b h = inr h

pub or_true : (a b : Bool) → a ≡ false → b ≡ true → one_if_not (a || b) ≡ 0
or_true a b e f = rw (e, f) refl

pub free_falls_here : (cs foot : Cells) (c : Cell) → owns foot c ≡ false → free (c ∷ cs) (foot ++ c ∷ []) < free (c ∷ cs) foot
free_falls_here cs foot c out =
    let new : one_if_not (owns (foot ++ c ∷ []) c) ≡ 0 = ap one_if_not (owns_end foot c c) ∙ or_true (owns foot c) (same_cell c c) out (same_refl c) in
    let old : one_if_not (owns foot c) ≡ 1 = ap one_if_not out in
    omega (arith, new, old, free_le cs foot c)

pub free_falls_by : (cs foot : Cells) (c d : Cell) → IsTrue (same_cell d c) ⊎ IsTrue (owns cs c) → owns foot c ≡ false →
    (IsTrue (owns cs c) → free cs (foot ++ c ∷ []) < free cs foot) → free (d ∷ cs) (foot ++ c ∷ []) < free (d ∷ cs) foot
free_falls_by cs foot c d (inl same) out ih = subst (λ x. free (x ∷ cs) (foot ++ c ∷ []) < free (x ∷ cs) foot) (sym (same_is d c same)) (free_falls_here cs foot c out)
free_falls_by cs foot c d (inr later) out ih = rw (owns_end foot c d) (omega (arith, less_out (owns foot d) (same_cell c d), ih later))

pub free_falls : (cs foot : Cells) (c : Cell) → IsTrue (owns cs c) → owns foot c ≡ false → free cs (foot ++ c ∷ []) < free cs foot
free_falls [] foot c h out = cc
free_falls (d ∷ cs) foot c h out = free_falls_by cs foot c d (or_is (same_cell d c) (owns cs c) h) out (λ later. free_falls cs foot c later out)

pub most_one : (b : Bool) → one_if_not b ≤ 1
most_one true = omega arith
most_one false = omega arith

pub most_of : (k n : ℕ) (ds foot : Cells) → free (cells_of k n ++ ds) foot ≤ n + free ds foot
most_of k zero ds foot = omega arith
most_of k (suc n) ds foot = omega (arith, most_of k n ds foot, most_one (owns foot (cell_at k n)))

pub free_most : (base : ℕ) (heap : Heap) (foot : Cells) → free (cells_from base heap) foot ≤ cells_in heap
free_most base [] foot = omega arith
free_most base (o ∷ os) foot = omega (arith, most_of base (length o.fields) (cells_from (suc base) os) foot, free_most (suc base) os foot)

pub bind_same : {A B : Type 0} (m m' : Option A) (f f' : A → Option B) → m ≡ m' → ((x : A) → m ≡ Some x → f x ≡ f' x) → and_then m f ≡ and_then m' f'
bind_same None m' f f' e h = ap (λ m. and_then m f') e
bind_same (Some x) m' f f' e h = h x refl ∙ ap (λ m. and_then m f') e

pub pick_same : {A : Type 0} (x : ℕ) (a a' b b' : A) → a ≡ a' → b ≡ b' → pick x a b ≡ pick x a' b'
pick_same zero a a' b b' e f = e
pick_same (suc n) a a' b b' e f = f

pub false_true : false ≡ true → ⊥
false_true e = cc
