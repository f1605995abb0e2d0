-- The cells of a heap are those that have a word.
use Rattle.std.proofs.Common.{◌≡◌, ℕ, zero, suc, ◌+◌, ◌-◌, ◌<◌, Bool, true, false, List, [], ◌∷◌, ◌++◌, length, refl, sym, ap, subst, IsTrue, eqb, arith}
use Rattle.std.proofs.lemmas.Bool.{eqb-true}
use Rattle.std.specs.Prelude.{slice_get, is_some, ◌||◌}
use Rattle.c0_meaning.specs.Heaps.{Cell, Cells, Heap, same_cell, owns, cells_of, cell_value, field_of}
use Rattle.core_checks.specs.Parts.{cells_from, all_cells}
use Rattle.walk_laws.specs.Walks.{all_cells_law}
use Rattle.walk_laws.proofs.Free.{and_is, cell_at, valued_in}

both_ways : (a b : Bool) → (IsTrue a → IsTrue b) → (IsTrue b → IsTrue a) → a ≡ b
both_ways true b f g = sym (f refl)
both_ways false true f g = g refl
both_ways false false f g = refl

or_both : (a b : Bool) (G : Type 0) → (IsTrue a → G) → (IsTrue b → G) → IsTrue (a || b) → G
or_both true b G f g h = f refl
or_both false b G f g h = g h

owns_either : (cs ds : Cells) (c : Cell) (G : Type 0) → (IsTrue (owns cs c) → G) → (IsTrue (owns ds c) → G) → IsTrue (owns (cs ++ ds) c) → G
owns_either [] ds c G f g h = g h
owns_either (d ∷ cs) ds c G f g h =
    or_both (same_cell d c) (owns (cs ++ ds) c) G (λ s. f (ap (λ b. b || owns cs c) s))
    (owns_either cs ds c G (λ l. f (later (same_cell d c) (owns cs c) l)) g) h
  where
    later : (a b : Bool) → IsTrue b → IsTrue (a || b)
    later true b h = refl
    later false b h = h

of_object : (k n f j : ℕ) → IsTrue (owns (cells_of k n) (cell_at j f)) → (k ≡ j) × (f < n)
of_object k zero f j h = cc
of_object k (suc n) f j h =
    or_both (same_cell (cell_at k n) (cell_at j f)) (owns (cells_of k n) (cell_at j f)) ((k ≡ j) × (f < suc n))
    (λ s. let e = and_is (eqb k j) (eqb n f) s in let same : n ≡ f = eqb-true n f e.1 in (eqb-true k j e.0, omega (arith, same)))
    (λ l. let r = of_object k n f j l in (r.0, omega (arith, r.1))) h

is_in : (xs : List ℕ) (i : ℕ) → i < length xs → IsTrue (is_some (slice_get xs i))
is_in [] i h = absurd (omega arith)
is_in (x ∷ xs) zero h = refl
is_in (x ∷ xs) (suc i) h = is_in xs i (omega arith)

value_of : (heap : Heap) (base f k : ℕ) → IsTrue (owns (cells_from base heap) (cell_at k f)) → (n : ℕ) × (k ≡ base + n) × IsTrue (is_some (field_of (slice_get heap n) f))
value_of [] base f k h = cc
value_of (o ∷ os) base f k h =
    owns_either (cells_of base (length o.fields)) (cells_from (suc base) os) (cell_at k f)
    ((n : ℕ) × (k ≡ base + n) × IsTrue (is_some (field_of (slice_get (o ∷ os) n) f)))
    (λ here. let r = of_object base (length o.fields) f k here in let same : base ≡ k = r.0 in (0, omega (arith, same), is_in o.fields f r.1))
    (λ l. let r = value_of os (suc base) f k l in let same : k ≡ suc base + r.0 = r.1 in (suc r.0, omega (arith, same), r.2)) h

pub all_valued : all_cells_law
all_valued heap n field =
    let back : suc n - 1 ≡ n = omega arith in
    both_ways (owns (all_cells heap) (cell_at (suc n) field)) (is_some (cell_value heap (cell_at (suc n) field)))
    (λ o. let r = value_of heap 1 field (suc n) o in
    let same : r.0 ≡ suc n - 1 = omega (arith, r.1) in
    subst (λ k. IsTrue (is_some (field_of (slice_get heap k) field))) same r.2)
    (λ v. valued_in heap 1 n field (suc n) (omega arith) (subst (λ k. IsTrue (is_some (field_of (slice_get heap k) field))) back v))
