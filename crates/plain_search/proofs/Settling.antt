-- Clauses that are settled, as a trail grows.
use Rattle.std.proofs.Common.{◌≡◌, ◌∙◌, ℕ, ◌+◌, ◌<◌, ◌≤◌, true, false, List, [], ◌∷◌, ◌++◌, Some, None, length, set, arith, refl, sym, ap, subst, inl, inr, append_assoc, append-nil}
use Rattle.std.specs.Option.{IsSome}
use Rattle.std.specs.List.{slice_get, Contains}
use Rattle.std.proofs.lemmas.Bool.{cases_eq, false≢true}
use Rattle.std.proofs.lemmas.Option.{same_Some, slice_get_within}
use Rattle.std.proofs.lemmas.List.{length-append, map_push}
use Rattle.std.proofs.lemmas.List.Elements.{All-nil, All-cons, Contains-append_left, Contains-push_cases, Contains-get_or}
use Rattle.sat_check.specs.declared.clause.Lit.{Lit}
use Rattle.sat_check.specs.declared.clause.Clause.{Clause}
use Rattle.sat_check.specs.Clauses.{opposite_of}
use Rattle.sat_check.specs.Logs.{IsUnit}
use Rattle.search_base.specs.declared.trail.Slot.{Slot}
use Rattle.search_base.specs.declared.trail.Step.{Step}
use Rattle.search_base.specs.Trails.{falses_of, IsStep, Keeps, IsStuck, AllStuck}
use Rattle.plain_search.specs.Looks.{IsSettled, AllSettled, Visits, VisitsAll}
use Rattle.search_base.specs.Propagation.{Extends}
use Rattle.search_base.specs.Steps.{Keeps-push, falses-push}
use Rattle.search_base.specs.Lists.{slice_get-append_left, slice_get-push}
use Rattle.search_base.specs.Settling.{cases_Contains, Extends-none, IsStuck-single, Keeps-single}

-- a clause without the literal stays stuck when that becomes false
IsStuck-push : (falses lits : List Lit) (f : Lit) → (Contains lits f → ⊥) → IsStuck falses lits → IsStuck (falses ++ f ∷ []) lits
IsStuck-push falses lits f apart stuck =
    let before : (o : Lit) → Contains lits o → Contains (falses ++ f ∷ []) o → Contains falses o =
    λ o in_lits h. elim (Contains-push_cases falses f o h) [ inl it ↦ it | inr same ↦ absurd (apart (subst (Contains lits) (sym same) in_lits)) ] in
    record {
      not_false = λ all. stuck.not_false (λ k d within. before _ (Contains-get_or lits k d within) (all k d within));
      not_unit = λ lit unit.
          stuck.not_unit lit
          (record {
            stands = unit.stands;
            without_value =
                record {
                  not_false = λ h. unit.without_value.not_false (Contains-append_left falses (f ∷ []) lit h);
                  not_true = λ h. unit.without_value.not_true (Contains-append_left falses (f ∷ []) (opposite_of lit) h);
                };
            others = λ k d within. elim (unit.others k d within) [ inl same ↦ inl same | inr h ↦ inr (before _ (Contains-get_or lits k d within) h) ];
          });
    }

pub IsSettled-push : (steps : List Step) (head : ℕ) (lits : List Lit) (step : Step) → head ≤ length steps → IsSettled steps head lits → IsSettled (steps ++ step ∷ []) head lits
IsSettled-push steps head lits step within settled =
    elim (cases_Contains lits step.falsified) [
      | inl stands ↦ inr (record { place = length steps; step = step; late = within; at = slice_get-push steps step; stands = stands })
      | inr apart ↦
          elim settled [
            | inl stuck ↦ inl (rw (map_push (λ (s : Step). s.falsified) steps step) (IsStuck-push (falses_of steps) lits step.falsified apart stuck))
            | inr p ↦ inr (record { place = p.place; step = p.step; late = p.late; at = slice_get-append_left steps (step ∷ []) p.place p.step p.at; stands = p.stands })
          ]
    ]

IsSettled-append : (steps more : List Step) (head : ℕ) (lits : List Lit) → head ≤ length steps → IsSettled steps head lits → IsSettled (steps ++ more) head lits
IsSettled-append steps [] head lits within settled = rw append-nil settled
IsSettled-append steps (step ∷ more) head lits within settled =
    let next : IsSettled ((steps ++ step ∷ []) ++ more) head lits =
    IsSettled-append (steps ++ step ∷ []) more head lits (omega (arith, length-append steps (step ∷ []))) (IsSettled-push steps head lits step within settled) in
    rw append_assoc at next

pub IsSettled-grow : (old new : List Step) (head : ℕ) (lits : List Lit) → Extends old new → head ≤ length old → IsSettled old head lits → IsSettled new head lits
IsSettled-grow old new head lits (more, is, by) within settled = subst (λ (steps : List Step). IsSettled steps head lits) (sym is) (IsSettled-append old more head lits within settled)

pub IsSettled-sooner : (steps : List Step) (low high : ℕ) (lits : List Lit) → low ≤ high → IsSettled steps high lits → IsSettled steps low lits
IsSettled-sooner steps low high lits le settled =
    elim settled [
      | inl stuck ↦ inl stuck
      | inr p ↦ inr (record { place = p.place; step = p.step; late = omega (arith, p.late); at = p.at; stands = p.stands })
    ]

-- once the clauses of its literal have been looked at, a step is no longer pending
pub AllSettled-next :
    (known : List Clause) (old new : List Step) (slots : List Slot) (head : ℕ) (step : Step) (indices : List ℕ)
    → slice_get old head ≡ Some step → AllSettled known old head → VisitsAll known old slots new indices None
    → ((index : ℕ) (clause : Clause) → slice_get known index ≡ Some clause → Contains clause.lits step.falsified → Contains indices index)
    → AllSettled known new (head + 1)
AllSettled-next known old new slots head step indices at settled visits complete index clause named =
    let within : head < length old = slice_get_within old head step at in
    elim (settled index clause named) [
      | inl stuck ↦
          IsSettled-sooner new (head + 1) (length old) clause.lits (omega arith) (IsSettled-grow old new (length old) clause.lits visits.extends (omega arith) (inl stuck))
      | inr p ↦
          elim (cases_eq p.place head) [
            | inl here ↦
                let same : p.step ≡ step = same_Some p.step step (sym p.at ∙ subst (λ (n : ℕ). slice_get old n ≡ Some step) (sym here) at) in
                let stands : Contains clause.lits step.falsified = subst (λ (s : Step). Contains clause.lits s.falsified) same p.stands in
                IsSettled-sooner new (head + 1) (length old) clause.lits (omega arith) (visits.settled refl index clause (complete index clause named stands) named)
            | inr later ↦
                IsSettled-grow old new (head + 1) clause.lits visits.extends (omega arith)
                (inr (record { place = p.place; step = p.step; late = omega (arith, p.late, later); at = p.at; stands = p.stands }))
          ]
    ]

pub AllStuck-from_settled : (known : List Clause) (steps : List Step) (head : ℕ) → length steps ≤ head → AllSettled known steps head → AllStuck known (falses_of steps)
AllStuck-from_settled known steps head all settled index clause named =
    elim (settled index clause named) [ inl stuck ↦ stuck | inr p ↦ absurd (omega (arith, p.late, slice_get_within steps p.place p.step p.at)) ]

-- what a look does that makes the one literal left true
pub Visits-single :
    (known : List Clause) (slots slots' : List Slot) (steps steps' : List Step) (clause : Clause) (lit falsified : Lit) (index : ℕ)
    → Keeps known slots steps → lit.variable < length slots → slice_get known index ≡ Some clause → IsUnit (falses_of steps) clause.lits lit → falsified ≡ opposite_of lit
    → steps' ≡ steps ++ (record { falsified = falsified; reason = Some index }) ∷ []
    → slots' ≡ set slots falsified.variable (record { assigned = true; positive = falsified.positive })
    → Visits known steps slots' steps' index false
Visits-single known slots slots' steps steps' clause lit falsified index keeps below at unit is steps_are slots_are =
    let step : Step = record { falsified = falsified; reason = Some index } in
    let kept : Keeps known slots' steps' =
    Keeps-single known slots slots' steps steps' clause lit falsified index keeps below at unit is steps_are slots_are in
    let falses : falses_of steps' ≡ falses_of steps ++ opposite_of lit ∷ [] =
    ap falses_of steps_are ∙ falses-push steps step ∙ ap (λ (f : Lit). falses_of steps ++ f ∷ []) is in
    record {
      keeps = kept;
      extends = (step ∷ [], steps_are, All-cons (λ (s : Step). IsSome s.reason) step [] refl (All-nil (λ (s : Step). IsSome s.reason)));
      found = λ e. absurd (false≢true e);
      stuck = λ _ other named.
          let same : clause ≡ other = same_Some clause other (sym at ∙ named) in
          subst (λ (c : Clause). IsStuck (falses_of steps') c.lits) same (rw falses (IsStuck-single (falses_of steps) clause.lits lit unit));
    }

pub Visits-stuck :
    (known : List Clause) (slots : List Slot) (steps : List Step) (clause : Clause) (index : ℕ)
    → Keeps known slots steps → slice_get known index ≡ Some clause → IsStuck (falses_of steps) clause.lits → Visits known steps slots steps index false
Visits-stuck known slots steps clause index keeps at stuck =
    record {
      keeps = keeps;
      extends = Extends-none steps;
      found = λ e. absurd (false≢true e);
      stuck = λ _ other named. subst (λ (c : Clause). IsStuck (falses_of steps) c.lits) (same_Some clause other (sym at ∙ named)) stuck;
    }

-- a clause that a look left stuck is settled from then on
pub settled_by : (known : List Clause) (old new : List Step) (slots : List Slot) (index head : ℕ) (clause : Clause) → Visits known old slots new index false → slice_get known index ≡ Some clause → IsSettled new head clause.lits
settled_by known old new slots index head clause visits at = inl (visits.stuck refl clause at)
