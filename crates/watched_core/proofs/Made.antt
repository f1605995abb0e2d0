-- The cells of the objects that were made since there were so many, by their members.
use Rattle.std.proofs.Common.{◌≡◌, ℕ, zero, suc, ◌+◌, ◌-◌, ◌≤◌, Bool, true, false, ◌&&◌, ◌||◌, eqb, ltb, leb, List, [], ◌∷◌, length, drop, refl, sym, ap, ◌∙◌, arith}
use Rattle.std.specs.Prelude.{slice_get, is_some}
use Rattle.c0_meaning.specs.Heaps.{Object, Heap, Cell, same_cell, owns, cells_of, field_of, cell_value}
use Rattle.core_checks.specs.Parts.{cells_from}
use Rattle.frame_laws.specs.FrameLaws.{made}
use Rattle.watched_core.specs.WatchRuns.{cells_since}
use Rattle.watched_core.proofs.Sets.{owns_join}

-- which fields a list has
has_field : (xs : List ℕ) (i : ℕ) → is_some (slice_get xs i) ≡ ltb i (length xs)
has_field [] i = grind arith
has_field (x ∷ xs) zero = grind arith
has_field (x ∷ xs) (suc i) = has_field xs i ∙ step i (length xs)
  where
    step : (i n : ℕ) → ltb i n ≡ ltb (suc i) (suc n)
    step i n = grind arith

field_below : (a b : Bool) (f n : ℕ) → ((a && eqb n f) || (a && ltb f n)) ≡ (a && ltb f (suc n))
field_below true b f n = grind arith
field_below false b f n = refl

-- the cells of one object
owns_of : (k n : ℕ) (c : Cell) → owns (cells_of k n) c ≡ (eqb k c.object && ltb c.field n)
owns_of k zero c = none (eqb k c.object) c.field
  where
    none : (a : Bool) (f : ℕ) → false ≡ (a && ltb f 0)
    none true f = grind arith
    none false f = refl
owns_of k (suc n) c = ap (λ x. same_cell record { object = k; field = n } c || x) (owns_of k n c) ∙ field_below (eqb k c.object) false c.field n

-- the object of this number among those from another number on
abbrev at_number : (k number : ℕ) → Heap → ℕ → Bool
at_number k number os f = leb k number && is_some (field_of (slice_get os (number - k)) f)

number_case : (k number : ℕ) (o : Object) (os : Heap) (f : ℕ) → ((eqb k number && ltb f (length o.fields)) || at_number (suc k) number os f) ≡ at_number k number (o ∷ os) f
number_case k number o os f = by_order (eqb k number) (leb (suc k) number) refl refl
  where
    first : (d : ℕ) → d ≡ 0 → is_some (field_of (slice_get (o ∷ os) d) f) ≡ ltb f (length o.fields)
    first zero e = has_field o.fields f
    first (suc d) e = absurd cc

    later : (d e : ℕ) → d ≡ suc e → is_some (field_of (slice_get (o ∷ os) d) f) ≡ is_some (field_of (slice_get os e) f)
    later zero e q = absurd cc
    later (suc d) e q = let r : d ≡ e = omega (arith, q) in ap (λ i. is_some (field_of (slice_get os i) f)) r

    or_false : (b : Bool) → (b || false) ≡ b
    or_false true = refl
    or_false false = refl

    equal : eqb k number ≡ true → k ≡ number
    equal e = grind arith

    above : leb (suc k) number ≡ true → suc k ≤ number
    above e = grind arith

    here : k ≡ number → (leb k number ≡ true) × (leb (suc k) number ≡ false)
    here e = (grind arith, grind arith)

    beyond : suc k ≤ number → leb k number ≡ true
    beyond e = grind arith

    neither : eqb k number ≡ false → leb (suc k) number ≡ false → leb k number ≡ false
    neither e g = grind arith

    by_order : (a b : Bool) → eqb k number ≡ a → leb (suc k) number ≡ b → ((a && ltb f (length o.fields)) || (b && is_some (field_of (slice_get os (number - suc k)) f))) ≡ (leb k number && is_some (field_of (slice_get (o ∷ os) (number - k)) f))
    by_order true true e g = absurd (both (equal e) (above g))
      where
        both : k ≡ number → suc k ≤ number → ⊥
        both e g = omega (arith, e, g)
    by_order true false e g =
        let q = equal e in
        or_false (ltb f (length o.fields)) ∙ sym (ap (λ x. x && is_some (field_of (slice_get (o ∷ os) (number - k)) f)) (here q).0 ∙ first (number - k) (omega (arith, q)))
    by_order false true e g =
        let q = above g in
        sym (ap (λ x. x && is_some (field_of (slice_get (o ∷ os) (number - k)) f)) (beyond q) ∙ later (number - k) (number - suc k) (omega (arith, q)))
    by_order false false e g = sym (ap (λ x. x && is_some (field_of (slice_get (o ∷ os) (number - k)) f)) (neither e g))

owns_from : (k : ℕ) (os : Heap) (c : Cell) → owns (cells_from k os) c ≡ at_number k c.object os c.field
owns_from k [] c = none (leb k c.object)
  where
    none : (a : Bool) → false ≡ (a && false)
    none true = refl
    none false = refl
owns_from k (o ∷ os) c =
    owns_join (cells_of k (length o.fields)) (cells_from (suc k) os) c
    ∙ ap (λ x. x || owns (cells_from (suc k) os) c) (owns_of k (length o.fields) c)
    ∙ ap (λ x. (eqb k c.object && ltb c.field (length o.fields)) || x) (owns_from (suc k) os c)
    ∙ number_case k c.object o os c.field

get_drop : (n : ℕ) (heap : Heap) (d : ℕ) → slice_get (drop n heap) d ≡ slice_get heap (n + d)
get_drop zero heap d = let e : zero + d ≡ d = omega arith in ap (slice_get heap) (sym e)
get_drop (suc n) [] d = none d
  where
    none : (d : ℕ) → slice_get {X = Object} [] d ≡ slice_get {X = Object} [] (suc n + d)
    none d = refl
get_drop (suc n) (o ∷ heap) d = get_drop n heap d ∙ step (n + d) (suc n + d) (omega arith)
  where
    step : (i j : ℕ) → j ≡ suc i → slice_get heap i ≡ slice_get (o ∷ heap) j
    step i zero e = absurd cc
    step i (suc j) e = let q : i ≡ j = omega (arith, e) in ap (slice_get heap) q

pub owns_since : (before : ℕ) (heap : Heap) (c : Cell) → owns (cells_since before heap) c ≡ made heap before c
owns_since before heap c = owns_from (suc before) (drop before heap) c ∙ by_order (leb (suc before) c.object) refl
  where
    same : leb (suc before) c.object ≡ ltb before c.object
    same = grind arith

    above : leb (suc before) c.object ≡ true → suc before ≤ c.object
    above e = grind arith

    by_order : (b : Bool) → leb (suc before) c.object ≡ b → (leb (suc before) c.object && is_some (field_of (slice_get (drop before heap) (c.object - suc before)) c.field)) ≡ made heap before c
    by_order true e =
        let q : before + (c.object - suc before) ≡ c.object - 1 = (let g = above e in omega (arith, g)) in
        ap (λ x. x && is_some (field_of (slice_get (drop before heap) (c.object - suc before)) c.field)) same
        ∙ ap (λ o. ltb before c.object && is_some (field_of o c.field)) (get_drop before heap (c.object - suc before) ∙ ap (slice_get heap) q)
    by_order false e =
        ap (λ x. x && is_some (field_of (slice_get (drop before heap) (c.object - suc before)) c.field)) e
        ∙ sym (ap (λ x. x && is_some (cell_value heap c)) (sym same ∙ e))
