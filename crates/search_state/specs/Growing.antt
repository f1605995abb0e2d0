-- Laws of trails and watches that grow.
use Rattle.std.proofs.Common.{◌≡◌, ◌∙◌, ℕ, ◌+◌, ◌-◌, ◌<◌, true, List, [], ◌∷◌, ◌++◌, Some, length, map, set, arith, refl, sym, ap, subst, inl, inr}
use Rattle.std.specs.declared.vec.Vec.{Vec}
use Rattle.std.specs.declared.alloc.Global.{Global}
use Rattle.std.specs.List.{Contains, slice_get}
use Rattle.std.proofs.lemmas.Option.{slice_get_within}
use Rattle.std.proofs.lemmas.List.{length-set, map-append}
use Rattle.std.proofs.lemmas.List.Elements.{Contains-append_left}
use Rattle.sat_check.specs.declared.clause.Lit.{Lit}
use Rattle.sat_check.specs.declared.clause.Clause.{Clause}
use Rattle.sat_check.specs.Clauses.{opposite_of}
use Rattle.sat_check.specs.Literals.{slice_get-set_same, slice_get-set_other}
use Rattle.search_base.specs.declared.trail.Slot.{Slot}
use Rattle.search_base.specs.declared.trail.Step.{Step}
use Rattle.search_state.specs.declared.placed.PlacedTrail.{PlacedTrail}
use Rattle.search_state.specs.declared.watches.Pair.{Pair}
use Rattle.search_state.specs.declared.watches.Watches.{Watches}
use Rattle.search_base.specs.Trails.{falses_of, Keeps, IsStep}
use Rattle.search_base.specs.Propagation.{Extends}
use Rattle.search_state.specs.Watches.{ListsMore, WatchesMore, IsLocated, IsTrail, AreWatched, Guards, Within}
use Rattle.search_base.specs.Lists.{slice_get-push, slice_get-push_cases}
use Rattle.search_base.specs.Steps.{Keeps-push}
use Rattle.search_base.specs.Refuting.{earlier_apart}

pub AreWatched-len : (m n : ℕ) (known : List Clause) (watches : Watches) → m ≡ n → AreWatched m known watches → AreWatched n known watches
AreWatched-len m n known watches e watched = subst (λ (k : ℕ). AreWatched k known watches) e watched

pub Extends-within : (old new : List Step) → Extends old new → Within (falses_of old) (falses_of new)
Extends-within old new (more, is, by) lit h =
    let f : Step → Lit = λ s. s.falsified in
    subst (λ (l : List Lit). Contains l lit) (sym (ap (map f) is ∙ map-append f old more)) (Contains-append_left (map f old) (map f more) lit h)

pub Guards-grow : (falses many before : List Lit) (pair : Pair) (lits : List Lit) → Within falses many → Guards falses before pair lits → Guards many before pair lits
Guards-grow falses many before pair lits within guards =
    elim guards [ inl it ↦ inl (it.0, it.1, within (opposite_of it.0) it.2) | inr free ↦ inr free ]

pub IsTrail-push :
    (known : List Clause) (old new : PlacedTrail) (step : Step) → IsTrail known old → IsStep (length old.trail.slots.items) known (falses_of old.trail.steps.items) step
    → new.trail.slots.items ≡ set old.trail.slots.items step.falsified.variable (record { assigned = true; positive = step.falsified.positive })
    → new.trail.steps.items ≡ old.trail.steps.items ++ step ∷ [] → new.places.items ≡ set old.places.items step.falsified.variable (length old.trail.steps.items) → IsTrail known new
IsTrail-push known old new step trail is slots steps places =
    let v = step.falsified.variable in
    let n = length old.trail.steps.items in
    let written = set old.trail.slots.items v (record { assigned = true; positive = step.falsified.positive }) in
    let kept : Keeps known written (old.trail.steps.items ++ step ∷ []) = Keeps-push known old.trail.slots.items old.trail.steps.items step trail.keeps is in
    let located : IsLocated (old.trail.steps.items ++ step ∷ []) (set old.places.items v n) =
    λ place other at.
    elim (slice_get-push_cases old.trail.steps.items step place other at) [
      | inl before ↦
          let less : place < n = slice_get_within old.trail.steps.items place other before in
          let differ : other.falsified.variable ≡ v → ⊥ = λ e. earlier_apart known written (old.trail.steps.items ++ step ∷ []) kept place n other step less at (slice_get-push old.trail.steps.items step) e in
          slice_get-set_other old.places.items v other.falsified.variable n differ ∙ trail.located place other before
      | inr last ↦
          let inside : v < length old.places.items = omega (arith, is.below, trail.places_len) in
          let here : slice_get (set old.places.items v n) v ≡ Some n = slice_get-set_same old.places.items v n inside in
          subst (λ (s : Step). slice_get (set old.places.items v n) s.falsified.variable ≡ Some place) last.1 (here ∙ ap (λ (m : ℕ). Some m) (sym last.0))
    ] in
    record {
      keeps = rw (slots, steps) kept;
      located = rw (steps, places) located;
      places_len = ap (λ (l : List ℕ). length l) places ∙ length-set old.places.items v n ∙ trail.places_len ∙ sym (length-set old.trail.slots.items v (record { assigned = true; positive = step.falsified.positive })) ∙ sym (ap (λ (l : List Slot). length l) slots);
    }

pub ListsMore-none : (old : Watches) (index : ℕ) (pair : Pair) → pair.first ≡ pair.second → ListsMore old old index pair
ListsMore-none old index pair same =
    record {
      kept = λ lit n listed. listed;
      first_listed = λ apart. absurd (apart same);
      second_listed = λ apart. absurd (apart same);
      among = λ lit x h. inl h;
      positive_len = refl;
      negative_len = refl;
    }

-- the pairs are of no account
pub ListsMore-pairs :
    (old new : Watches) (pairs : Vec Pair Global) (index : ℕ) (pair : Pair) → ListsMore old new index pair → ListsMore old (record { positive = new.positive; negative = new.negative; pairs = pairs }) index pair
ListsMore-pairs old new pairs index pair lists =
    record {
      kept = λ lit n listed. lists.kept lit n listed;
      first_listed = λ apart. lists.first_listed apart;
      second_listed = λ apart. lists.second_listed apart;
      among = λ lit x h. lists.among lit x h;
      positive_len = lists.positive_len;
      negative_len = lists.negative_len;
    }

pub WatchesMore-none :
    (old : Watches) (pairs : Vec Pair Global) (index : ℕ) (pair : Pair) → pair.first ≡ pair.second → pairs.items ≡ old.pairs.items ++ pair ∷ []
    → WatchesMore old (record { positive = old.positive; negative = old.negative; pairs = pairs }) index pair
WatchesMore-none old pairs index pair same is = record { pairs = is; lists = ListsMore-pairs old old pairs index pair (ListsMore-none old index pair same) }
