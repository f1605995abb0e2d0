-- A cell is among the cells that were taken exactly where it stands at its place.
use Rattle.std.proofs.Common.{◌≡◌, ℕ, zero, suc, ◌<◌, ◌≤◌, ◌⊎◌, inl, inr, Bool, true, false, ◌&&◌, List, [], ◌∷◌, ◌++◌, length, map, get_or, Some, refl, sym, ap, subst, ◌∙◌, IsTrue, eqb, ltb, arith}
use Rattle.std.proofs.lemmas.Bool.{eqb-true, eq-eqb, le-ltb}
use Rattle.std.proofs.lemmas.Option.{slice_get_read, slice_get_within}
use Rattle.std.specs.Prelude.{slice_get, if◌then◌else◌, ◌||◌}
use Rattle.std.specs.declared.vec.Vec.{Vec}
use Rattle.std.specs.declared.alloc.Global.{Global}
use Rattle.c0_meaning.specs.Heaps as meant
use Rattle.c0_meaning.specs.Heaps.{same_cell, owns}
use Rattle.owned_heap.specs.Views.{cell_view}
use Rattle.owned_heap.specs.declared.heap.Cell.{Cell}
use Rattle.frame_ownership.specs.Placed.{place_in, ArePlaced}

both_ways : (a b : Bool) → (IsTrue a → IsTrue b) → (IsTrue b → IsTrue a) → a ≡ b
both_ways true b f g = sym (f refl)
both_ways false true f g = g refl
both_ways false false f g = refl

and_parts : (a b : Bool) → IsTrue (a && b) → IsTrue a × IsTrue b
and_parts true b h = (refl, h)
and_parts false b h = cc

or_first : (a b : Bool) → IsTrue a → IsTrue (a || b)
or_first true b h = refl
or_first false b h = cc

or_later : (a b : Bool) → IsTrue b → IsTrue (a || b)
or_later true b h = refl
or_later false b h = h

or_is : (a b : Bool) → IsTrue (a || b) → IsTrue a ⊎ IsTrue b
or_is true b h = inl refl
or_is false b h = inr h

true_false : (b : Bool) → IsTrue b → b ≡ false → ⊥
true_false true h e = cc
true_false false h e = cc

-- a cell of the list that is the same as another
record Found (cells : List Cell) (v : meant.Cell) : Type 0 where
  index : ℕ
  cell : Cell
  there : slice_get cells index ≡ Some cell
  same : IsTrue (same_cell (cell_view cell) v)

later : (d : Cell) (cells : List Cell) (v : meant.Cell) → Found cells v → Found (d ∷ cells) v
later d cells v f = record { index = suc f.index; cell = f.cell; there = f.there; same = f.same }

found : (cells : List Cell) (v : meant.Cell) → IsTrue (owns (map cell_view cells) v) → Found cells v
found [] v h = cc
found (d ∷ cells) v h = by (or_is (same_cell (cell_view d) v) (owns (map cell_view cells) v) h) (found cells v)
  where
    by : IsTrue (same_cell (cell_view d) v) ⊎ IsTrue (owns (map cell_view cells) v) → (IsTrue (owns (map cell_view cells) v) → Found cells v) → Found (d ∷ cells) v
    by (inl s) k = record { index = 0; cell = d; there = refl; same = s }
    by (inr o) k = later d cells v (k o)

owned_from : (cells : List Cell) (i : ℕ) (d : Cell) (v : meant.Cell) → slice_get cells i ≡ Some d → IsTrue (same_cell (cell_view d) v) → IsTrue (owns (map cell_view cells) v)
owned_from [] i d v e s = cc
owned_from (x ∷ cells) zero d v e s =
    let is : x ≡ d = cc in
    or_first (same_cell (cell_view x) v) (owns (map cell_view cells) v) (subst (λ (y : Cell). IsTrue (same_cell (cell_view y) v)) (sym is) s)
owned_from (x ∷ cells) (suc i) d v e s = or_later (same_cell (cell_view x) v) (owns (map cell_view cells) v) (owned_from cells i d v e s)

-- the cell that was found stands where the table says that it would
stands : (cells : List Cell) (rows : List (Vec ℕ Global)) (cell : Cell) (f : Found cells (cell_view cell)) → ArePlaced cells rows → place_in rows cell.object cell.field ≡ f.index
stands cells rows cell f placed =
    let e = and_parts (eqb f.cell.object cell.object) (eqb f.cell.field cell.field) f.same in
    ap (λ o. place_in rows o cell.field) (sym (eqb-true f.cell.object cell.object e.0))
    ∙ ap (λ k. place_in rows f.cell.object k) (sym (eqb-true f.cell.field cell.field e.1))
    ∙ placed f.index f.cell f.there

some_is : (x y : Cell) → Some x ≡ Some y → x ≡ y
some_is x y e = cc

pub there_is : (cells : List Cell) (rows : List (Vec ℕ Global)) (cell x : Cell) (place : ℕ) → ArePlaced cells rows → place < length cells → x ≡ get_or cells place x →
    place ≡ place_in rows cell.object cell.field → same_cell (cell_view x) (cell_view cell) ≡ owns (map cell_view cells) (cell_view cell)
there_is cells rows cell x place placed lt e at =
    let here = slice_get_read cells (length cells) place x refl lt e in
    both_ways (same_cell (cell_view x) (cell_view cell)) (owns (map cell_view cells) (cell_view cell))
    (λ s. owned_from cells place x (cell_view cell) here s)
    (λ o. let f = found cells (cell_view cell) o in
    let same_place : f.index ≡ place = sym (at ∙ stands cells rows cell f placed) in
    let is : f.cell ≡ x = some_is f.cell x (sym f.there ∙ ap (λ k. slice_get cells k) same_place ∙ here) in
    subst (λ (y : Cell). IsTrue (same_cell (cell_view y) (cell_view cell))) is f.same)

pub past_is : (cells : List Cell) (rows : List (Vec ℕ Global)) (cell : Cell) (place : ℕ) → ArePlaced cells rows → length cells ≤ place →
    place ≡ place_in rows cell.object cell.field → ltb place (length cells) ≡ owns (map cell_view cells) (cell_view cell)
past_is cells rows cell place placed le at =
    le-ltb place (length cells) le
    ∙ both_ways false (owns (map cell_view cells) (cell_view cell)) (λ n. cc)
    (λ o. let f = found cells (cell_view cell) o in
    let less = slice_get_within cells f.index f.cell f.there in
    let same_place : f.index ≡ place = sym (at ∙ stands cells rows cell f placed) in
    absurd (omega (arith, less, same_place)))

-- ---- one cell more
before_or_last : (cells : List Cell) (cell : Cell) (i : ℕ) (d : Cell) → slice_get (cells ++ cell ∷ []) i ≡ Some d → (slice_get cells i ≡ Some d) ⊎ ((i ≡ length cells) × (cell ≡ d))
before_or_last [] cell zero d e = inr (refl, cc)
before_or_last [] cell (suc i) d e = cc
before_or_last (x ∷ cells) cell zero d e = inl e
before_or_last (x ∷ cells) cell (suc i) d e = up (before_or_last cells cell i d e)
  where
    up : (slice_get cells i ≡ Some d) ⊎ ((i ≡ length cells) × (cell ≡ d)) → (slice_get cells i ≡ Some d) ⊎ ((suc i ≡ suc (length cells)) × (cell ≡ d))
    up (inl h) = inl h
    up (inr h) = inr (ap suc h.0, h.1)

cond_true : (b : Bool) (x y : ℕ) → IsTrue b → (if b then x else y) ≡ x
cond_true true x y h = refl
cond_true false x y h = cc

cond_false : (b : Bool) (x y : ℕ) → (IsTrue b → ⊥) → (if b then x else y) ≡ y
cond_false true x y h = absurd (h refl)
cond_false false x y h = refl

and_from : (a b : Bool) → IsTrue a → IsTrue b → IsTrue (a && b)
and_from true b h k = k
and_from false b h k = cc

pub placed_push : (cells : List Cell) (old new : List (Vec ℕ Global)) (cell : Cell) (place : ℕ) → ArePlaced cells old → place ≡ length cells →
    ((object f : ℕ) → place_in new object f ≡ (if eqb object cell.object && eqb f cell.field then place else place_in old object f)) →
    owns (map cell_view cells) (cell_view cell) ≡ false → ArePlaced (cells ++ cell ∷ []) new
placed_push cells old new cell place placed at is out i d e = by (before_or_last cells cell i d e)
  where
    by : (slice_get cells i ≡ Some d) ⊎ ((i ≡ length cells) × (cell ≡ d)) → place_in new d.object d.field ≡ i
    by (inl h) =
        is d.object d.field
        ∙ cond_false (eqb d.object cell.object && eqb d.field cell.field) place (place_in old d.object d.field)
        (λ s. true_false (owns (map cell_view cells) (cell_view cell)) (owned_from cells i d (cell_view cell) h s) out)
        ∙ placed i d h
    by (inr (k, s)) =
        is d.object d.field
        ∙ cond_true (eqb d.object cell.object && eqb d.field cell.field) place (place_in old d.object d.field)
        (and_from (eqb d.object cell.object) (eqb d.field cell.field) (eq-eqb d.object cell.object (ap (λ (y : Cell). y.object) (sym s))) (eq-eqb d.field cell.field (ap (λ (y : Cell). y.field) (sym s))))
        ∙ at ∙ sym k
