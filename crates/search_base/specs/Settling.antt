-- Literals, clauses and trails that grow.
use Rattle.std.proofs.Common.{◌≡◌, ◌⊎◌, ◌∙◌, ℕ, ◌<◌, ◌≤◌, List, [], ◌∷◌, ◌++◌, Some, length, set, true, arith, sym, ap, subst, inl, inr, append_assoc, append-nil}
use Rattle.std.specs.Option.{IsSome}
use Rattle.std.specs.List.{slice_get, Contains}
use Rattle.std.proofs.lemmas.Bool.{cases_eq}
use Rattle.std.proofs.lemmas.Option.{same_Some}
use Rattle.std.proofs.lemmas.List.{length-append}
use Rattle.std.proofs.lemmas.List.Elements.{All-nil, All-append, Contains-push, Contains-push_cases}
use Rattle.sat_check.specs.declared.clause.Lit.{Lit}
use Rattle.sat_check.specs.declared.clause.Clause.{Clause}
use Rattle.sat_check.specs.Clauses.{opposite_of}
use Rattle.sat_check.specs.Logs.{IsUnit}
use Rattle.sat_check.specs.Literals.{same_lit, not-same, cases_sign, opposite-opposite, Contains-here, Contains-there, Contains-cons_cases}
use Rattle.sat_check.specs.Laws.{Neither-true}
use Rattle.search_base.specs.declared.trail.Slot.{Slot}
use Rattle.search_base.specs.declared.trail.Step.{Step}
use Rattle.search_base.specs.Trails.{falses_of, IsStep, Keeps, IsStuck}
use Rattle.search_base.specs.Propagation.{Extends}
use Rattle.search_base.specs.Steps.{Keeps-push}

pub cases_lit : (a b : Lit) → (a ≡ b) ⊎ (a ≡ b → ⊥)
cases_lit a b =
    elim (cases_eq a.variable b.variable) [
      | inl same ↦
          elim (cases_sign a.positive b.positive) [
            | inl sign ↦ inl (same_lit a b same sign)
            | inr other ↦ inr (λ e. not-same b.positive (sym (ap (λ (l : Lit). l.positive) e) ∙ other))
          ]
      | inr differ ↦ inr (λ e. differ (ap (λ (l : Lit). l.variable) e))
    ]

pub cases_Contains : (lits : List Lit) (lit : Lit) → Contains lits lit ⊎ (Contains lits lit → ⊥)
cases_Contains [] lit = inr (λ h. omega (arith, h.1))
cases_Contains (first ∷ lits) lit =
    elim (cases_lit first lit) [
      | inl same ↦ inl (subst (Contains (first ∷ lits)) same (Contains-here lits first))
      | inr differ ↦
          elim (cases_Contains lits lit) [
            | inl there ↦ inl (Contains-there lits first lit there)
            | inr none ↦ inr (λ h. elim (Contains-cons_cases lits first lit h) [ inl same ↦ differ same | inr there ↦ none there ])
          ]
    ]

pub Extends-none : (steps : List Step) → Extends steps steps
Extends-none steps = ([], sym (append-nil steps), All-nil (λ (s : Step). IsSome s.reason))

pub Extends-both : (a b c : List Step) → Extends a b → Extends b c → Extends a c
Extends-both a b c (more, is, by) (further, e, by') =
    (more ++ further, e ∙ ap (λ (s : List Step). s ++ further) is ∙ append_assoc a more further, All-append (λ (s : Step). IsSome s.reason) more further by by')

pub Extends-length : (a b : List Step) → Extends a b → length a ≤ length b
Extends-length a b (more, is, by) = omega (arith, ap length is, length-append a more)

-- the clause of one literal left is stuck once that is true
pub IsStuck-single : (falses lits : List Lit) (lit : Lit) → IsUnit falses lits lit → IsStuck (falses ++ opposite_of lit ∷ []) lits
IsStuck-single falses lits lit unit =
    let now = falses ++ opposite_of lit ∷ [] in
    let neither =
    Neither-true now lits lit
    (λ h. elim (Contains-push_cases falses (opposite_of lit) lit h) [
      | inl before ↦ unit.without_value.not_false before
      | inr same ↦ not-same lit.positive (sym (ap (λ (l : Lit). l.positive) same))
    ])
    unit.stands (Contains-push falses (opposite_of lit)) in
    record { not_false = neither.0; not_unit = neither.1 }

-- the step by which the one literal left becomes true
pub IsStep-single :
    (variables : ℕ) (known : List Clause) (falses : List Lit) (clause : Clause) (lit : Lit) (index : ℕ)
    → lit.variable < variables → slice_get known index ≡ Some clause → IsUnit falses clause.lits lit
    → IsStep variables known falses (record { falsified = opposite_of lit; reason = Some index })
IsStep-single variables known falses clause lit index below at unit =
    record {
      below = below;
      without_value =
          record {
            not_false = unit.without_value.not_true;
            not_true = λ h. unit.without_value.not_false (subst (Contains falses) (opposite-opposite lit) h);
          };
      reason = λ r e.
          let is : index ≡ r = same_Some index r e in
          (clause, subst (λ (n : ℕ). slice_get known n ≡ Some clause) is at, subst (IsUnit falses clause.lits) (sym (opposite-opposite lit)) unit);
    }

-- a trail with that step more is one too
pub Keeps-single :
    (known : List Clause) (slots slots' : List Slot) (steps steps' : List Step) (clause : Clause) (lit falsified : Lit) (index : ℕ)
    → Keeps known slots steps → lit.variable < length slots → slice_get known index ≡ Some clause
    → IsUnit (falses_of steps) clause.lits lit → falsified ≡ opposite_of lit
    → steps' ≡ steps ++ (record { falsified = falsified; reason = Some index }) ∷ []
    → slots' ≡ set slots falsified.variable (record { assigned = true; positive = falsified.positive })
    → Keeps known slots' steps'
Keeps-single known slots slots' steps steps' clause lit falsified index keeps below at unit is steps_are slots_are =
    let step : Step = record { falsified = falsified; reason = Some index } in
    let is_step : IsStep (length slots) known (falses_of steps) step =
    subst (λ (f : Lit). IsStep (length slots) known (falses_of steps) (record { falsified = f; reason = Some index })) (sym is)
    (IsStep-single (length slots) known (falses_of steps) clause lit index below at unit) in
    rw (steps_are, slots_are) (Keeps-push known slots steps step keeps is_step)

-- no more steps than variables
pub steps_within : (known : List Clause) (slots : List Slot) (steps : List Step) → Keeps known slots steps → length steps ≤ length slots
steps_within known slots steps keeps = omega (arith, keeps.counted)
