-- Heaps that grow: the cells that were made since, and what a store and a new object leave.
use Rattle.std.proofs.Common.{◌≡◌, ℕ, zero, suc, ◌+◌, ◌-◌, ◌<◌, ◌≤◌, ◌⊎◌, inl, inr, Bool, true, false, ◌&&◌, List, [], ◌∷◌, ◌++◌, length, Option, Some, None, refl, sym, ap, ◌∙◌, subst, IsTrue, arith, eqb, ltb, length-append, lt-ltb, le-ltb, ltb-true, ltb-false, eqb-true, ne_eqb}
use Rattle.std.proofs.lemmas.Bool.{eq-eqb}
use Rattle.std.proofs.lemmas.List.{length-set}
use Rattle.std.proofs.lemmas.Option.{slice_get_past}
use Rattle.std.specs.Prelude.{◌||◌, is_some, slice_get, slice_set}
use Rattle.c0_meaning.specs.Heaps.{Object, Heap, Cell, same_cell, owns, cells_of, field_of, cell_value, with_field, put_object, set_cell}
use Rattle.frame_laws.specs.FrameLaws.{made, ObjectsStay}
use Rattle.frame_laws.proofs.Sets.{false_true, or_false}

pub none_some : {A C : Type 0} (x : A) → None ≡ Some x → C
none_some x e = absurd cc

pub some_same : {A : Type 0} (x y : A) → Some x ≡ Some y → x ≡ y
some_same x y e = cc

-- ---- lists
-- an element is there where its number is below the length
pub is_there : (xs : List ℕ) (i : ℕ) → is_some (slice_get xs i) ≡ ltb i (length xs)
is_there [] i = sym (le-ltb i 0 (omega arith))
is_there (x ∷ xs) zero = sym (lt-ltb 0 (suc (length xs)) (omega arith))
is_there (x ∷ xs) (suc i) = is_there xs i ∙ grind arith

pub got : {A : Type 0} (xs : List A) (i : ℕ) → i < length xs → (x : A) × (slice_get xs i ≡ Some x)
got [] i h = absurd (omega arith)
got (x ∷ xs) zero h = (x, refl)
got (x ∷ xs) (suc i) h = got xs i (omega arith)

pub get_set_other : {A : Type 0} (xs : List A) (i j : ℕ) (y : A) → (i ≡ j → ⊥) → slice_get (slice_set xs i y) j ≡ slice_get xs j
get_set_other [] i j y h = refl
get_set_other (x ∷ xs) zero zero y h = absurd (h refl)
get_set_other (x ∷ xs) zero (suc j) y h = refl
get_set_other (x ∷ xs) (suc i) zero y h = refl
get_set_other (x ∷ xs) (suc i) (suc j) y h = get_set_other xs i j y (λ e. h (ap suc e))

pub get_set_same : {A : Type 0} (xs : List A) (i : ℕ) (x y : A) → slice_get xs i ≡ Some x → slice_get (slice_set xs i y) i ≡ Some y
get_set_same [] i x y h = none_some x h
get_set_same (z ∷ xs) zero x y h = refl
get_set_same (z ∷ xs) (suc i) x y h = get_set_same xs i x y h

pub get_append : {A : Type 0} (xs ys : List A) (i : ℕ) (x : A) → slice_get xs i ≡ Some x → slice_get (xs ++ ys) i ≡ Some x
get_append [] ys i x h = none_some x h
get_append (z ∷ xs) ys zero x h = h
get_append (z ∷ xs) ys (suc i) x h = get_append xs ys i x h

pub get_end : {A : Type 0} (xs : List A) (y : A) → slice_get (xs ++ y ∷ []) (length xs) ≡ Some y
get_end [] y = refl
get_end (x ∷ xs) y = get_end xs y

-- ---- cells
cell_there : (h : Heap) (c : Cell) (o : Object) → slice_get h (c.object - 1) ≡ Some o → is_some (cell_value h c) ≡ ltb c.field (length o.fields)
cell_there h c o e = ap (λ x. is_some (field_of x c.field)) e ∙ is_there o.fields c.field

cell_past : (h : Heap) (c : Cell) → length h < c.object → is_some (cell_value h c) ≡ false
cell_past h c l = ap (λ x. is_some (field_of x c.field)) (slice_get_past h (c.object - 1) (omega arith))

pub same_there : (h i : Heap) → ObjectsStay h i → (c : Cell) (o : Object) → slice_get h (c.object - 1) ≡ Some o →
    is_some (cell_value i c) ≡ is_some (cell_value h c)
same_there h i stay c o e =
    let p = stay (c.object - 1) o e in
    cell_there i c p.0 p.1 ∙ (ap (ltb c.field) p.3 ∙ sym (cell_there h c o e))

-- a cell that is there stays there
pub stays_there : (h i : Heap) → ObjectsStay h i → (c : Cell) → IsTrue (is_some (cell_value h c)) → IsTrue (is_some (cell_value i c))
stays_there h i stay c there = by_object (slice_get h (c.object - 1)) refl
  where
    by_object : (x : Option Object) → slice_get h (c.object - 1) ≡ x → IsTrue (is_some (cell_value i c))
    by_object None e = false_true (sym (ap (λ y. is_some (field_of y c.field)) e) ∙ there)
    by_object (Some o) e = same_there h i stay c o e ∙ there

-- ---- what was made
pub made_none : (h : Heap) (c : Cell) → made h (length h) c ≡ false
made_none h c = by_order (ltb (length h) c.object) refl
  where
    by_order : (b : Bool) → ltb (length h) c.object ≡ b → (b && is_some (cell_value h c)) ≡ false
    by_order false e = refl
    by_order true e = cell_past h c (ltb-true (length h) c.object e)

-- what was made up to the second and since is what was made up to the third
pub made_split : (before : ℕ) (h i : Heap) → before ≤ length h → ObjectsStay h i → (c : Cell) →
    (made h before c || made i (length h) c) ≡ made i before c
made_split before h i le stay c = by_order (ltb before c.object) (ltb (length h) c.object) refl refl
  where
    by_order : (a b : Bool) → ltb before c.object ≡ a → ltb (length h) c.object ≡ b →
        ((a && is_some (cell_value h c)) || (b && is_some (cell_value i c))) ≡ (a && is_some (cell_value i c))
    by_order false false e f = refl
    by_order false true e f =
        let low : c.object ≤ before = ltb-false before c.object e in
        let high : length h < c.object = ltb-true (length h) c.object f in
        absurd (omega arith)
    by_order true true e f = ap (λ x. x || is_some (cell_value i c)) (cell_past h c (ltb-true (length h) c.object f))
    by_order true false e f =
        let low : before < c.object = ltb-true before c.object e in
        let high : c.object ≤ length h = ltb-false (length h) c.object f in
        let o = got h (c.object - 1) (omega arith) in
        or_false (is_some (cell_value h c)) ∙ sym (same_there h i stay c o.0 o.1)

-- ---- a store
pub set_length : (h : Heap) (d : Cell) (v : ℕ) → length (set_cell h d v) ≡ length h
set_length h d v = by_object (slice_get h (d.object - 1))
  where
    by_object : (x : Option Object) → length (put_object h (d.object - 1) (with_field x d.field v)) ≡ length h
    by_object None = refl
    by_object (Some o) = length-set h (d.object - 1) _

same_or_not : (a b : ℕ) → (a ≡ b) ⊎ (a ≡ b → ⊥)
same_or_not a b = by_test (eqb a b) refl
  where
    by_test : (t : Bool) → eqb a b ≡ t → (a ≡ b) ⊎ (a ≡ b → ⊥)
    by_test true e = inl (eqb-true a b e)
    by_test false e = inr (λ s. false_true (sym e ∙ eq-eqb a b s))

-- an object of the same struct with as many fields
abbrev IsLike : Object → Option Object → Type 0
IsLike o x = (q : Object) × (x ≡ Some q) × (q.of_struct ≡ o.of_struct) × (length q.fields ≡ length o.fields)

pub set_stays : (h : Heap) (d : Cell) (v : ℕ) → ObjectsStay h (set_cell h d v)
set_stays h d v k o e = by_object (slice_get h (d.object - 1)) refl
  where
    at_number : (p : Object) → slice_get h (d.object - 1) ≡ Some p → (d.object - 1 ≡ k) ⊎ (d.object - 1 ≡ k → ⊥) →
        IsLike o (slice_get (put_object h (d.object - 1) (with_field (Some p) d.field v)) k)
    at_number p f (inl s) =
        let same : p ≡ o = some_same p o (sym f ∙ (ap (slice_get h) s ∙ e)) in
        let q : Object = record { of_struct = p.of_struct; fields = slice_set p.fields d.field v } in
        let there : slice_get (slice_set h (d.object - 1) q) k ≡ Some q =
        subst (λ n. slice_get (slice_set h (d.object - 1) q) n ≡ Some q) s (get_set_same h (d.object - 1) p q f) in
        (q, there, ap (λ x. x.of_struct) same, length-set p.fields d.field v ∙ ap (λ x. length x.fields) same)
    at_number p f (inr s) = (o, get_set_other h (d.object - 1) k _ s ∙ e, refl, refl)

    by_object : (x : Option Object) → slice_get h (d.object - 1) ≡ x →
        IsLike o (slice_get (put_object h (d.object - 1) (with_field x d.field v)) k)
    by_object None f = (o, e, refl, refl)
    by_object (Some p) f = at_number p f (same_or_not (d.object - 1) k)

-- no other cell of an object has another word
pub set_other : (h : Heap) (d c : Cell) (v : ℕ) → 0 < d.object → 0 < c.object → same_cell d c ≡ false →
    cell_value (set_cell h d v) c ≡ cell_value h c
set_other h d c v dn cn out = by_object (slice_get h (d.object - 1)) refl
  where
    -- the same object, so another field
    other_field : d.object ≡ c.object → d.field ≡ c.field → ⊥
    other_field e f = false_true (sym out ∙ (ap (λ x. x && eqb d.field c.field) (eq-eqb d.object c.object e) ∙ eq-eqb d.field c.field f))

    at_number : (p : Object) → slice_get h (d.object - 1) ≡ Some p → (d.object ≡ c.object) ⊎ (d.object ≡ c.object → ⊥) →
        cell_value (put_object h (d.object - 1) (with_field (Some p) d.field v)) c ≡ cell_value h c
    at_number p f (inl s) =
        let q : Object = record { of_struct = p.of_struct; fields = slice_set p.fields d.field v } in
        let n : d.object - 1 ≡ c.object - 1 = ap (λ x. x - 1) s in
        ap (λ x. field_of x c.field) (subst (λ n. slice_get (slice_set h (d.object - 1) q) n ≡ Some q) n (get_set_same h (d.object - 1) p q f))
        ∙ (get_set_other p.fields d.field c.field v (other_field s) ∙ ap (λ x. field_of x c.field) (sym f ∙ ap (slice_get h) n))
    at_number p f (inr s) = ap (λ x. field_of x c.field) (get_set_other h (d.object - 1) (c.object - 1) _ (λ n. s (omega (arith, n))))

    by_object : (x : Option Object) → slice_get h (d.object - 1) ≡ x →
        cell_value (put_object h (d.object - 1) (with_field x d.field v)) c ≡ cell_value h c
    by_object None f = refl
    by_object (Some p) f = at_number p f (same_or_not d.object c.object)

-- ---- a new object
pub append_stays : (h others : Heap) → ObjectsStay h (h ++ others)
append_stays h others k o e = (o, get_append h others k o e, refl, refl)

pub append_same : (h others : Heap) (c : Cell) → IsTrue (is_some (cell_value h c)) → cell_value (h ++ others) c ≡ cell_value h c
append_same h others c there = by_object (slice_get h (c.object - 1)) refl
  where
    by_object : (x : Option Object) → slice_get h (c.object - 1) ≡ x → cell_value (h ++ others) c ≡ cell_value h c
    by_object None e = false_true (sym (ap (λ y. is_some (field_of y c.field)) e) ∙ there)
    by_object (Some o) e = ap (λ x. field_of x c.field) (get_append h others (c.object - 1) o e ∙ sym e)

and_false : (b : Bool) → (b && false) ≡ false
and_false true = refl
and_false false = refl

and_or : (a b c : Bool) → ((a && b) || (a && c)) ≡ (a && (b || c))
and_or true b c = refl
and_or false b c = refl

next_below : (n i : ℕ) → (eqb n i || ltb i n) ≡ ltb i (suc n)
next_below n i = grind arith

owns_cells_of : (n fields : ℕ) (c : Cell) → owns (cells_of n fields) c ≡ (eqb n c.object && ltb c.field fields)
owns_cells_of n zero c = sym (ap (λ x. eqb n c.object && x) (le-ltb c.field 0 (omega arith)) ∙ and_false (eqb n c.object))
owns_cells_of n (suc fields) c =
    ap (λ x. (eqb n c.object && eqb fields c.field) || x) (owns_cells_of n fields c)
    ∙ (and_or (eqb n c.object) (eqb fields c.field) (ltb c.field fields) ∙ ap (λ x. eqb n c.object && x) (next_below fields c.field))

-- its cells are what was made
pub makes_cells : (h : Heap) (o : Object) (c : Cell) → owns (cells_of (suc (length h)) (length o.fields)) c ≡ made (h ++ o ∷ []) (length h) c
makes_cells h o c = owns_cells_of (suc (length h)) (length o.fields) c ∙ by_object (same_or_not (suc (length h)) c.object)
  where
    long : length (h ++ o ∷ []) ≡ length h + 1
    long = length-append h (o ∷ [])

    past : (b : Bool) → ltb (length h) c.object ≡ b → (suc (length h) ≡ c.object → ⊥) → (b && is_some (cell_value (h ++ o ∷ []) c)) ≡ false
    past false e other = refl
    past true e other =
        let above : length h < c.object = ltb-true (length h) c.object e in
        cell_past (h ++ o ∷ []) c (not_less (length (h ++ o ∷ [])) c.object (omega (arith, long)) (λ s. other (omega (arith, long, s))))
      where
        not_less : (a b : ℕ) → a ≤ b → (a ≡ b → ⊥) → a < b
        not_less a b l n = grind arith

    by_object : (suc (length h) ≡ c.object) ⊎ (suc (length h) ≡ c.object → ⊥) →
        (eqb (suc (length h)) c.object && ltb c.field (length o.fields)) ≡ made (h ++ o ∷ []) (length h) c
    by_object (inl e) =
        ap (λ x. x && ltb c.field (length o.fields)) (eq-eqb (suc (length h)) c.object e)
        ∙ sym (ap (λ x. x && is_some (cell_value (h ++ o ∷ []) c)) (lt-ltb (length h) c.object (omega (arith, e)))
        ∙ cell_there (h ++ o ∷ []) c o (subst (λ n. slice_get (h ++ o ∷ []) n ≡ Some o) (omega (arith, e)) (get_end h o)))
    by_object (inr e) =
        ap (λ x. x && ltb c.field (length o.fields)) (ne_eqb (suc (length h)) c.object e) ∙ sym (past (ltb (length h) c.object) refl e)
