-- Lists of clause numbers, one for each literal.
use Rattle.std.proofs.Common.{◌≡◌, ◌∙◌, ℕ, zero, suc, ◌<◌, true, false, List, [], ◌∷◌, ◌++◌, length, set, get_or, arith, refl, sym, ap, subst, inl, inr, Vec}
use Rattle.std.specs.declared.alloc.Global.{Global}
use Rattle.std.specs.List.{Contains}
use Rattle.std.proofs.lemmas.Bool.{cases_eq, cases_Bool}
use Rattle.std.proofs.lemmas.List.Elements.{Contains-push, Contains-append_left, Contains-push_cases}
use Rattle.sat_check.specs.declared.clause.Lit.{Lit}
use Rattle.plain_search.specs.Occurrences.{list_at, occurrences_of, AddsAt, Adds}

list_at-set_same : (lists : List (Vec ℕ Global)) (place : ℕ) (w : Vec ℕ Global) → place < length lists → list_at (set lists place w) place ≡ w.items
list_at-set_same [] place w h = absurd (omega arith)
list_at-set_same (v ∷ lists) zero w h = refl
list_at-set_same (v ∷ lists) (suc place) w h = list_at-set_same lists place w (omega arith)

list_at-set_other : (lists : List (Vec ℕ Global)) (place other : ℕ) (w : Vec ℕ Global) → (other ≡ place → ⊥) → list_at (set lists place w) other ≡ list_at lists other
list_at-set_other [] place other w h = refl
list_at-set_other (v ∷ lists) zero zero w h = absurd (h refl)
list_at-set_other (v ∷ lists) zero (suc other) w h = refl
list_at-set_other (v ∷ lists) (suc place) zero w h = refl
list_at-set_other (v ∷ lists) (suc place) (suc other) w h = list_at-set_other lists place other w (λ e. h (ap suc e))

pub list_at-get_or : (lists : List (Vec ℕ Global)) (place : ℕ) (d : Vec ℕ Global) → place < length lists → list_at lists place ≡ (get_or lists place d).items
list_at-get_or [] place d h = absurd (omega arith)
list_at-get_or (v ∷ lists) zero d h = refl
list_at-get_or (v ∷ lists) (suc place) d h = list_at-get_or lists place d (omega arith)

pub AddsAt-push :
    (lists : List (Vec ℕ Global)) (place number : ℕ) (v w : Vec ℕ Global) → place < length lists → v ≡ get_or lists place v → w.items ≡ v.items ++ number ∷ []
    → AddsAt lists (set lists place w) place number
AddsAt-push lists place number v w within was is =
    let new : list_at (set lists place w) place ≡ list_at lists place ++ number ∷ [] =
    list_at-set_same lists place w within ∙ is ∙ ap (λ (u : Vec ℕ Global). u.items ++ number ∷ []) was ∙ ap (λ (xs : List ℕ). xs ++ number ∷ []) (sym (list_at-get_or lists place v within)) in
    record {
      kept = λ other item h.
          elim (cases_eq other place) [
            | inl same ↦
                let there : Contains (list_at lists place) item = subst (λ (n : ℕ). Contains (list_at lists n) item) same h in
                subst (λ (n : ℕ). Contains (list_at (set lists place w) n) item) (sym same) (subst (λ (xs : List ℕ). Contains xs item) (sym new) (Contains-append_left (list_at lists place) (number ∷ []) item there))
            | inr differs ↦ subst (λ (xs : List ℕ). Contains xs item) (sym (list_at-set_other lists place other w differs)) h
          ];
      added = subst (λ (xs : List ℕ). Contains xs number) (sym new) (Contains-push (list_at lists place) number);
    }

pub Adds-none : (positive negative : List (Vec ℕ Global)) (number : ℕ) → Adds positive negative positive negative number []
Adds-none positive negative number = record { kept = λ lit item h. h; added = λ lit h. absurd (omega (arith, h.1)) }

-- the list of the literal grows where the lists of its sign do
kept_positive :
    (positive negative new : List (Vec ℕ Global)) (place number : ℕ) → AddsAt positive new place number
    → (lit : Lit) (item : ℕ) → Contains (occurrences_of positive negative lit) item → Contains (occurrences_of new negative lit) item
kept_positive positive negative new place number adds lit item h =
    elim (cases_Bool lit.positive)
    [ inl is ↦ rw is (adds.kept lit.variable item (rw is at h)) | inr is ↦ rw is (rw is at h) ]

kept_negative :
    (positive negative new : List (Vec ℕ Global)) (place number : ℕ) → AddsAt negative new place number
    → (lit : Lit) (item : ℕ) → Contains (occurrences_of positive negative lit) item → Contains (occurrences_of positive new lit) item
kept_negative positive negative new place number adds lit item h =
    elim (cases_Bool lit.positive)
    [ inl is ↦ rw is (rw is at h) | inr is ↦ rw is (adds.kept lit.variable item (rw is at h)) ]

pub Adds-positive :
    (old_positive old_negative positive negative new : List (Vec ℕ Global)) (number : ℕ) (lits : List Lit) (lit : Lit)
    → Adds old_positive old_negative positive negative number lits → lit.positive ≡ true → AddsAt positive new lit.variable number
    → Adds old_positive old_negative new negative number (lits ++ lit ∷ [])
Adds-positive old_positive old_negative positive negative new number lits lit adds is more =
    let keeps = kept_positive positive negative new lit.variable number more in
    let here : Contains (occurrences_of new negative lit) number = rw is more.added in
    record {
      kept = λ other item h. keeps other item (adds.kept other item h);
      added = λ other h.
          elim (Contains-push_cases lits lit other h) [
            | inl before ↦ keeps other number (adds.added other before)
            | inr same ↦ subst (λ (l : Lit). Contains (occurrences_of new negative l) number) same here
          ];
    }

pub Adds-negative :
    (old_positive old_negative positive negative new : List (Vec ℕ Global)) (number : ℕ) (lits : List Lit) (lit : Lit)
    → Adds old_positive old_negative positive negative number lits → lit.positive ≡ false → AddsAt negative new lit.variable number
    → Adds old_positive old_negative positive new number (lits ++ lit ∷ [])
Adds-negative old_positive old_negative positive negative new number lits lit adds is more =
    let keeps = kept_negative positive negative new lit.variable number more in
    let here : Contains (occurrences_of positive new lit) number = rw is more.added in
    record {
      kept = λ other item h. keeps other item (adds.kept other item h);
      added = λ other h.
          elim (Contains-push_cases lits lit other h) [
            | inl before ↦ keeps other number (adds.added other before)
            | inr same ↦ subst (λ (l : Lit). Contains (occurrences_of positive new l) number) same here
          ];
    }
