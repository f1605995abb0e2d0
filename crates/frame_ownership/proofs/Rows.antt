-- Rows of places, and what a place more or a row more changes.
use Rattle.std.proofs.Common.{◌≡◌, ℕ, zero, suc, ◌<◌, ◌≤◌, ◌⊎◌, inl, inr, Bool, true, false, ◌&&◌, List, [], ◌∷◌, ◌++◌, length, set, get_or, Some, refl, sym, ap, ◌∙◌, eqb, arith}
use Rattle.std.proofs.lemmas.Bool.{eqb-true, eqb-false}
use Rattle.std.proofs.lemmas.List.{get_or-set_same, get_or-set_other}
use Rattle.std.specs.Prelude.{slice_get, slice_index, if◌then◌else◌}
use Rattle.std.specs.declared.vec.Vec.{Vec}
use Rattle.std.specs.declared.alloc.Global.{Global}
use Rattle.std.specs.Vec.{with_item}
use Rattle.frame_ownership.specs.Placed.{row_at, place_in}

abbrev Row : Type 0
Row = Vec ℕ Global

pub decide : (a b : ℕ) → ((a ≡ b) × (eqb a b ≡ true)) ⊎ ((a ≡ b → ⊥) × (eqb a b ≡ false))
decide a b = by (eqb a b) refl
  where
    by : (t : Bool) → eqb a b ≡ t → ((a ≡ b) × (eqb a b ≡ true)) ⊎ ((a ≡ b → ⊥) × (eqb a b ≡ false))
    by true e = inl (eqb-true a b e, e)
    by false e = inr (eqb-false a b e, e)

pub row_there : (rows : List Row) (f : ℕ) (row : Row) → slice_get rows f ≡ Some row → row_at rows f ≡ row.items
row_there [] f row e = cc
row_there (r ∷ rows) zero row e = let s : r ≡ row = cc in ap (λ (v : Row). v.items) s
row_there (r ∷ rows) (suc f) row e = row_there rows f row e

pub row_past : (rows : List Row) (f : ℕ) → length rows ≤ f → row_at rows f ≡ []
row_past [] f h = refl
row_past (r ∷ rows) zero h = absurd (omega arith)
row_past (r ∷ rows) (suc f) h = row_past rows f (omega arith)

pub row_read : (rows : List Row) (f : ℕ) (row : Row) → f < length rows → row ≡ get_or rows f row → row_at rows f ≡ row.items
row_read [] f row h e = absurd (omega arith)
row_read (r ∷ rows) zero row h e = ap (λ (v : Row). v.items) (sym e)
row_read (r ∷ rows) (suc f) row h e = row_read rows f row (omega arith) e

pub row_set_same : (rows : List Row) (i : ℕ) (v : Row) → i < length rows → row_at (set rows i v) i ≡ v.items
row_set_same [] i v h = absurd (omega arith)
row_set_same (r ∷ rows) zero v h = refl
row_set_same (r ∷ rows) (suc i) v h = row_set_same rows i v (omega arith)

pub row_set_other : (rows : List Row) (i : ℕ) (v : Row) (f : ℕ) → (f ≡ i → ⊥) → row_at (set rows i v) f ≡ row_at rows f
row_set_other [] i v f n = refl
row_set_other (r ∷ rows) zero v zero n = absurd (n refl)
row_set_other (r ∷ rows) zero v (suc f) n = refl
row_set_other (r ∷ rows) (suc i) v zero n = refl
row_set_other (r ∷ rows) (suc i) v (suc f) n = row_set_other rows i v f (λ e. n (ap suc e))

-- a row without places more
pub row_push : (rows : List Row) (v : Row) (f : ℕ) → v.items ≡ [] → row_at (rows ++ v ∷ []) f ≡ row_at rows f
row_push [] v zero e = e
row_push [] v (suc f) e = refl
row_push (r ∷ rows) v zero e = refl
row_push (r ∷ rows) v (suc f) e = row_push rows v f e

-- a row that says the same
pub same_row : (rows : List Row) (i : ℕ) (v : Row) (object f : ℕ) → i < length rows → ((k : ℕ) → slice_index v.items k ≡ slice_index (row_at rows i) k) →
    place_in (set rows i v) object f ≡ place_in rows object f
same_row rows i v object f h same = by (decide f i)
  where
    by : ((f ≡ i) × (eqb f i ≡ true)) ⊎ ((f ≡ i → ⊥) × (eqb f i ≡ false)) → place_in (set rows i v) object f ≡ place_in rows object f
    by (inl (e, t)) =
        ap (λ k. slice_index (row_at (set rows i v) k) object) e ∙ ap (λ xs. slice_index xs object) (row_set_same rows i v h)
        ∙ same object ∙ ap (λ k. slice_index (row_at rows k) object) (sym e)
    by (inr (n, t)) = ap (λ xs. slice_index xs object) (row_set_other rows i v f n)

-- a place that is noted
pub put_is : (rows : List Row) (i o place : ℕ) (v : Row) (object f : ℕ) → i < length rows → o < length v.items → row_at rows i ≡ v.items →
    place_in (set rows i (with_item v o place)) object f ≡ (if eqb object o && eqb f i then place else place_in rows object f)
put_is rows i o place v object f h room here = by (decide f i) (decide object o)
  where
    w : Row
    w = with_item v o place

    by : ((f ≡ i) × (eqb f i ≡ true)) ⊎ ((f ≡ i → ⊥) × (eqb f i ≡ false)) → ((object ≡ o) × (eqb object o ≡ true)) ⊎ ((object ≡ o → ⊥) × (eqb object o ≡ false)) →
        place_in (set rows i (with_item v o place)) object f ≡ (if eqb object o && eqb f i then place else place_in rows object f)
    by (inl (e, t)) (inl (d, s)) =
        ap (λ k. slice_index (row_at (set rows i (with_item v o place)) k) object) e
        ∙ ap (λ xs. slice_index xs object) (row_set_same rows i (with_item v o place) h)
        ∙ ap (λ k. slice_index (set v.items o place) k) d
        ∙ get_or-set_same v.items o place 0 room
        ∙ sym (rw (s, t) refl)
    by (inl (e, t)) (inr (n, s)) =
        ap (λ k. slice_index (row_at (set rows i (with_item v o place)) k) object) e
        ∙ ap (λ xs. slice_index xs object) (row_set_same rows i (with_item v o place) h)
        ∙ get_or-set_other v.items o object place 0 n
        ∙ ap (λ xs. slice_index xs object) (sym here)
        ∙ ap (λ k. slice_index (row_at rows k) object) (sym e)
        ∙ sym (rw s refl)
    by (inr (n, t)) (inl (d, s)) = ap (λ xs. slice_index xs object) (row_set_other rows i (with_item v o place) f n) ∙ sym (rw (s, t) refl)
    by (inr (n, t)) (inr (m, s)) = ap (λ xs. slice_index xs object) (row_set_other rows i (with_item v o place) f n) ∙ sym (rw s refl)
