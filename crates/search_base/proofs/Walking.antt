-- Hints that lead from what is false to a clause that is false.
use Rattle.std.proofs.Common.{◌≡◌, ◌∙◌, ℕ, ◌+◌, ◌-◌, ◌<◌, ◌≤◌, true, false, List, [], ◌∷◌, ◌++◌, Option, Some, None, length, take, set, get_or, option_to_list, arith, refl, sym, ap, subst, inl, inr}
use Rattle.std.specs.Option.{IsSome}
use Rattle.std.specs.List.{slice_get, Contains}
use Rattle.std.proofs.lemmas.Option.{none-some, same_Some, slice_get_within}
use Rattle.std.proofs.lemmas.List.{append-nil}
use Rattle.std.proofs.lemmas.List.Elements.{Contains-push, Contains-append_left, Contains-push_cases}
use Rattle.sat_check.specs.declared.clause.Lit.{Lit}
use Rattle.sat_check.specs.declared.clause.Clause.{Clause}
use Rattle.sat_check.specs.Clauses.{opposite_of}
use Rattle.sat_check.specs.Logs.{HasNoValue, IsUnit, Refutes}
use Rattle.sat_check.specs.Literals.{opposite-opposite, Contains-nil, Contains-there, Contains-here, Contains-cons_cases}
use Rattle.search_base.specs.declared.trail.Slot.{Slot}
use Rattle.search_base.specs.declared.trail.Step.{Step}
use Rattle.search_base.specs.Trails.{falses_of, Keeps, IsStep}
use Rattle.search_base.specs.Places.{false_at, false_by, falses_more, falses-take}
use Rattle.search_base.specs.Refuting.{Refutes-cons, no_some}
use Rattle.search_base.specs.Steps.{Keeps-push, open_value}

-- the same hints refute the same literals in another order
pub Refutes-same :
    (known : List Clause) (F G : List Lit) → ((lit : Lit) → Contains F lit → Contains G lit) → ((lit : Lit) → Contains G lit → Contains F lit)
    → (hints : List ℕ) → Refutes known F hints → Refutes known G hints
Refutes-same known F G to from [] r = absurd r
Refutes-same known F G to from (hint ∷ []) (clause, at, all) = (clause, at, λ k d within. to (get_or clause.lits k d) (all k d within))
Refutes-same known F G to from (hint ∷ next ∷ rest) (clause, lit, at, unit, then) =
    let f = opposite_of lit in
    let free : HasNoValue G lit = record { not_false = λ h. unit.without_value.not_false (from lit h); not_true = λ h. unit.without_value.not_true (from f h) } in
    let unit' : IsUnit G clause.lits lit =
    record {
      stands = unit.stands;
      without_value = free;
      others = λ k d within. elim (unit.others k d within) [ inl same ↦ inl same | inr it ↦ inr (to (get_or clause.lits k d) it) ];
    } in
    let more : (X Y : List Lit) → ((l : Lit) → Contains X l → Contains Y l) → (l : Lit) → Contains (f ∷ X) l → Contains (f ∷ Y) l =
    λ X Y step l h. elim (Contains-cons_cases X f l h) [ inl same ↦ subst (Contains (f ∷ Y)) same (Contains-here Y f) | inr it ↦ Contains-there Y f l (step l it) ] in
    (clause, lit, at, unit', Refutes-same known (f ∷ F) (f ∷ G) (more F G to) (more G F from) (next ∷ rest) then)

-- a hint at which one literal has no value leads on
pub leads_on :
    (known : List Clause) (F : List Lit) (hint : ℕ) (clause : Clause) (lit : Lit) → slice_get known hint ≡ Some clause → IsUnit F clause.lits lit
    → (rest : List ℕ) → Refutes known (F ++ opposite_of lit ∷ []) rest → Refutes known F (hint ∷ rest)
leads_on known F hint clause lit named unit rest r =
    let f = opposite_of lit in
    Refutes-cons known F hint rest clause f named (subst (IsUnit F clause.lits) (sym (opposite-opposite lit)) unit)
    (Refutes-same known (F ++ f ∷ []) (f ∷ F)
    (λ l h. elim (Contains-push_cases F f l h) [ inl it ↦ Contains-there F f l it | inr same ↦ subst (Contains (f ∷ F)) same (Contains-here F f) ])
    (λ l h. elim (Contains-cons_cases F f l h) [ inl same ↦ subst (Contains (F ++ f ∷ [])) same (Contains-push F f) | inr it ↦ Contains-append_left F (f ∷ []) l it ]) rest r)

-- a trail of no steps is one over any clauses
pub Keeps-other : (known other : List Clause) (slots : List Slot) (steps : List Step) → steps ≡ [] → Keeps known slots steps → Keeps other slots steps
Keeps-other known other slots steps none keeps =
    record {
      shows = keeps.shows;
      each = λ index step at. absurd (none-some step (subst (λ (s : List Step). slice_get s index ≡ Some step) none at));
      counted = keeps.counted;
    }

-- ---- literals that are taken as false

pub Keeps-taken :
    (known : List Clause) (slots slots' : List Slot) (steps steps' : List Step) (lit : Lit) (slot : Slot) → slice_get slots lit.variable ≡ Some slot → slot.assigned ≡ false
    → steps' ≡ steps ++ (record { falsified = lit; reason = None }) ∷ [] → slots' ≡ set slots lit.variable (record { assigned = true; positive = lit.positive })
    → Keeps known slots steps → Keeps known slots' steps'
Keeps-taken known slots slots' steps steps' lit slot at is_open steps_are slots_are keeps =
    let step : Step = record { falsified = lit; reason = None } in
    let is_step : IsStep (length slots) known (falses_of steps) step =
    record {
      below = slice_get_within slots lit.variable slot at;
      without_value = open_value slots (falses_of steps) lit slot keeps.shows at is_open;
      reason = λ r e. absurd (none-some r e);
    } in
    rw (steps_are, slots_are) (Keeps-push known slots steps step keeps is_step)
