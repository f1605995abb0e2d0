-- Stamps that are written at the places of cells.
use Rattle.std.proofs.Common.{◌≡◌, ℕ, zero, suc, ◌+◌, ◌<◌, ◌≤◌, Bool, true, false, ◌||◌, cond, eqb, List, [], ◌∷◌, ◌++◌, length, get_or, set, Option, Some, None, refl, sym, ap, ◌∙◌, arith, inl, inr}
use Rattle.std.proofs.lemmas.Bool.{and_parts, eqb-true, eq-eqb, cases_order, cases_eq}
use Rattle.std.proofs.lemmas.List.{get_or-set_same, get_or-set_other}
use Rattle.std.specs.List.{slice_get}
use Rattle.std.proofs.lemmas.Option.{none-some, same_Some}
use Rattle.c0_meaning.specs.Heaps.{Cell, Cells, same_cell, owns}
use Rattle.owned_heap.specs.declared.heap.Stretch.{Stretch}
use Rattle.owned_heap.specs.declared.heap.Heap.{Heap}
use Rattle.owned_heap.specs.Stands.{offset_of, stamp_at}
use Rattle.owned_heap.proofs.Stretches.{Lies, lies, earlier}
use Rattle.owned_heap.proofs.Stamped.{owns_join, AreStampedAnew}

pub same_is : (c d : Cell) → same_cell c d ≡ true → c ≡ d
same_is c d h =
    let e = and_parts (eqb c.object d.object) (eqb c.field d.field) h in
    let p = eqb-true c.object d.object e.0 in
    let q = eqb-true c.field d.field e.1 in
    λ i. record { object = p i; field = q i }

pub same_self : (c : Cell) → same_cell c c ≡ true
same_self c = rw (eq-eqb c.object c.object refl) (eq-eqb c.field c.field refl)

not_so : (b : Bool) → (b ≡ true → ⊥) → b ≡ false
not_so true h = absurd (h refl)
not_so false h = refl

-- two cells with one place are one
module _ (h : Heap) (c d : Cell) (place : ℕ) (l : Lies h c.object c.field place) (m : Lies h d.object d.field place) where
  apart : (s t : Stretch) (j k f g : ℕ) → slice_get h.objects.items j ≡ Some s → slice_get h.objects.items k ≡ Some t → f < s.fields → s.start + f ≡ t.start + g → j < k → ⊥
  apart s t j k f g e e' less is before =
      let ends = earlier 0 h.objects.items (length h.words.items) j k s t h.laid before e e' in
      omega arith

  same_index : l.index ≡ m.index
  same_index =
      elim (cases_order l.index m.index) [
        | inl e ↦ e
        | inr (inl before) ↦ absurd (apart l.stretch m.stretch l.index m.index c.field d.field l.there m.there l.less (l.is ∙ sym m.is) before)
        | inr (inr behind) ↦ absurd (apart m.stretch l.stretch m.index l.index d.field c.field m.there l.there m.less (m.is ∙ sym l.is) behind)
      ]

  same_stretch : l.stretch ≡ m.stretch
  same_stretch = same_Some l.stretch m.stretch (sym l.there ∙ ap (slice_get h.objects.items) same_index ∙ m.there)

  pub same_cells : c ≡ d
  same_cells =
      let p : c.object ≡ d.object = l.number ∙ ap suc same_index ∙ sym m.number in
      let q : c.field ≡ d.field = omega (arith, l.is, m.is, ap (λ (s : Stretch). s.start) same_stretch) in
      λ i. record { object = p i; field = q i }

pub one_place : (h : Heap) (c d : Cell) (place : ℕ) → offset_of h c ≡ Some place → offset_of h d ≡ Some place → c ≡ d
one_place h c d place e e' = same_cells h c d place (lies h c.object c.field place e) (lies h d.object d.field place e')

-- ---- one more cell of a list
owns_last : (cells : Cells) (d c : Cell) → owns (cells ++ d ∷ []) c ≡ (owns cells c || same_cell d c)
owns_last cells d c = owns_join cells (d ∷ []) c ∙ ap (λ x. owns cells c || x) (or_none (same_cell d c)) where
  or_none : (b : Bool) → (b || false) ≡ b
  or_none true = refl
  or_none false = refl

or_true : (b : Bool) → (b || true) ≡ true
or_true true = refl
or_true false = refl

or_false : (b : Bool) → (b || false) ≡ b
or_false true = refl
or_false false = refl

module _ (h : Heap) (clock : ℕ) (old : List ℕ) where
  abbrev pub AreStampedAs : (stamps : List ℕ) → Cells → Type 0
  AreStampedAs stamps cells = (c : Cell) (place : ℕ) → offset_of h c ≡ Some place → get_or stamps place 0 ≡ cond (owns cells c) clock (get_or old place 0)

  -- the other cells
  left_as : (stamps : List ℕ) (cells : Cells) (d c : Cell) (place : ℕ) → AreStampedAs stamps cells → offset_of h c ≡ Some place → (d ≡ c → ⊥) → get_or stamps place 0 ≡ cond (owns (cells ++ d ∷ []) c) clock (get_or old place 0)
  left_as stamps cells d c place as_is e differs =
      as_is c place e
      ∙ ap (λ b. cond b clock (get_or old place 0)) (sym (owns_last cells d c ∙ ap (λ x. owns cells c || x) (not_so (same_cell d c) (λ t. differs (same_is d c t))) ∙ or_false (owns cells c)))

  -- a cell that the heap doesn't have
  pub none_more : (stamps : List ℕ) (cells : Cells) (d : Cell) → offset_of h d ≡ None → AreStampedAs stamps cells → AreStampedAs stamps (cells ++ d ∷ [])
  none_more stamps cells d none as_is c place e =
      left_as stamps cells d c place as_is e (λ same. none-some place (sym none ∙ ap (offset_of h) same ∙ e))

  pub one_more : (stamps : List ℕ) (cells : Cells) (d : Cell) (at : ℕ) → offset_of h d ≡ Some at → at < length stamps → AreStampedAs stamps cells → AreStampedAs (set stamps at clock) (cells ++ d ∷ [])
  one_more stamps cells d at there within as_is c place e =
      elim (cases_eq place at) [
        | inl here ↦
            let same : d ≡ c = one_place h d c at there (e ∙ ap Some here) in
            let member : owns (cells ++ d ∷ []) c ≡ true = owns_last cells d c ∙ ap (λ x. owns cells c || x) (ap (λ x. same_cell x c) same ∙ same_self c) ∙ or_true (owns cells c) in
            ap (λ k. get_or (set stamps at clock) k 0) here ∙ get_or-set_same stamps at clock 0 within ∙ ap (λ b. cond b clock (get_or old place 0)) (sym member)
        | inr other ↦
            get_or-set_other stamps at place clock 0 other
            ∙ left_as stamps cells d c place as_is e (λ same. other (same_Some place at (sym e ∙ ap (offset_of h) (sym same) ∙ there)))
      ]

-- ---- what the stamps then are
-- a cell of none of the heap's places is none of the cells
abbrev pub AreInHeap : Heap → Cells → Type 0
AreInHeap h cells = (c : Cell) → offset_of h c ≡ None → owns cells c ≡ false

module _ (h : Heap) (cells : Cells) (clock : ℕ) (old covered stamps : List ℕ) (same : (k : ℕ) → get_or covered k 0 ≡ get_or old k 0) (within : AreInHeap h cells) where
  pub cells_anew : AreStampedAs h clock covered stamps cells → AreStampedAnew (λ c. stamp_at old (offset_of h c)) (λ c. stamp_at stamps (offset_of h c)) cells clock
  cells_anew as_is c = at_place (offset_of h c) refl where
    at_place : (at : Option ℕ) → offset_of h c ≡ at → stamp_at stamps at ≡ cond (owns cells c) clock (stamp_at old at)
    at_place None e = sym (ap (λ b. cond b clock 0) (within c e))
    at_place (Some place) e = as_is c place e ∙ ap (λ n. cond (owns cells c) clock n) (same place)

pub past_more : (stamps : List ℕ) (at clock k : ℕ) → get_or stamps k 0 ≤ clock → get_or (set stamps at clock) k 0 ≤ clock
past_more [] at clock k h = h
past_more (x ∷ stamps) zero clock zero h = omega arith
past_more (x ∷ stamps) zero clock (suc k) h = h
past_more (x ∷ stamps) (suc at) clock zero h = h
past_more (x ∷ stamps) (suc at) clock (suc k) h = past_more stamps at clock k h
