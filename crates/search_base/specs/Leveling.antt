-- The levels of a trail.
use Rattle.std.proofs.Common.{◌≡◌, ◌⊎◌, ◌∙◌, ℕ, zero, suc, ◌-◌, ◌<◌, List, [], ◌∷◌, ◌++◌, Option, Some, None, length, get_or, take, arith, refl, sym, ap, subst, inl, inr}
use Rattle.std.specs.Option.{IsSome}
use Rattle.std.specs.List.{slice_get, Contains}
use Rattle.std.proofs.lemmas.Bool.{cases_eq}
use Rattle.std.proofs.lemmas.Option.{same_Some, none-some, slice_get_within}
use Rattle.std.proofs.lemmas.List.{length-append, take_at}
use Rattle.std.proofs.lemmas.List.Elements.{All-contains, Contains-push, Contains-append_left}
use Rattle.sat_check.specs.declared.clause.Lit.{Lit}
use Rattle.sat_check.specs.declared.clause.Clause.{Clause}
use Rattle.sat_check.specs.Clauses.{opposite_of}
use Rattle.sat_check.specs.Logs.{Refutes}
use Rattle.sat_check.specs.Literals.{Contains-at, Contains-index, Contains-cons_cases}
use Rattle.search_base.specs.declared.trail.Step.{Step}
use Rattle.search_base.specs.Trails.{falses_of, AllStuck}
use Rattle.search_base.specs.Propagation.{Extends}
use Rattle.search_base.specs.Analysis.{IsLastLevel}
use Rattle.search_base.specs.Levels.{LevelsAre, IsStart}
use Rattle.search_base.specs.Lists.{slice_get-push_cases, take_within}
use Rattle.search_base.specs.Settling.{cases_Contains}
use Rattle.search_base.specs.Refuting.{no_some}

-- Where all clauses are stuck, nothing follows from fewer literals that are false.
pub stuck_refutes_none :
    (known : List Clause) (stuck_at : List Lit) → AllStuck known stuck_at
    → (falses : List Lit) (hints : List ℕ) → ((lit : Lit) → Contains falses lit → Contains stuck_at lit) → Refutes known falses hints → ⊥
stuck_refutes_none known stuck_at stuck falses [] among h = h
stuck_refutes_none known stuck_at stuck falses (hint ∷ []) among (clause, named, all) =
    (stuck hint clause named).not_false (λ k d within. among (get_or clause.lits k d) (all k d within))
stuck_refutes_none known stuck_at stuck falses (hint ∷ next ∷ rest) among (clause, lit, named, unit, then) =
    let is = stuck hint clause named in
    elim (cases_Contains stuck_at lit) [
      | inl it ↦
          is.not_false
          (λ k d within.
          elim (unit.others k d within) [ inl same ↦ subst (Contains stuck_at) (sym same) it | inr h ↦ among (get_or clause.lits k d) h ])
      | inr not_it ↦
          elim (cases_Contains stuck_at (opposite_of lit)) [
            | inl opposite ↦
                stuck_refutes_none known stuck_at stuck (opposite_of lit ∷ falses) (next ∷ rest)
                (λ o h. elim (Contains-cons_cases falses (opposite_of lit) o h) [ inl same ↦ subst (Contains stuck_at) same opposite | inr h' ↦ among o h' ]) then
            | inr not_opposite ↦
                is.not_unit lit
                (record {
                  stands = unit.stands;
                  without_value = record { not_false = not_it; not_true = not_opposite };
                  others = λ k d within. elim (unit.others k d within) [ inl same ↦ inl same | inr h ↦ inr (among (get_or clause.lits k d) h) ];
                })
          ]
    ]

pub some_of : {X : Type 0} (o : Option X) → (o ≡ None → ⊥) → IsSome o
some_of None differs = absurd (differs refl)
some_of (Some x) differs = refl

pub slice_get-append_cases : {X : Type 0} (xs ys : List X) (i : ℕ) (y : X) → slice_get (xs ++ ys) i ≡ Some y → (slice_get xs i ≡ Some y) ⊎ Contains ys y
slice_get-append_cases [] ys i y at = inr (Contains-at ys i y at)
slice_get-append_cases (x ∷ xs) ys zero y at = inl at
slice_get-append_cases (x ∷ xs) ys (suc i) y at = slice_get-append_cases xs ys i y at

pub LevelsAre-none : (known : List Clause) (steps : List Step) → Extends [] steps → LevelsAre known steps []
LevelsAre-none known steps (more, is, by) =
    record {
      within = λ level place e. absurd (none-some place e);
      stuck = λ level place e. absurd (none-some place e);
      rising = λ i k a b less e. absurd (none-some a e);
      decisions = λ place step at none.
          let there : Contains more step = Contains-at more place step (subst (λ (s : List Step). slice_get s place ≡ Some step) is at) in
          absurd (no_some step.reason none (All-contains (λ (s : Step). IsSome s.reason) more step by there));
    }

pub LevelsAre-extend : (known : List Clause) (old new : List Step) (levels : List ℕ) → LevelsAre known old levels → Extends old new → LevelsAre known new levels
LevelsAre-extend known old new levels are (more, is, by) =
    record {
      within = λ level place e. omega (arith, are.within level place e, ap length is, length-append old more);
      stuck = λ level place e.
          let below : place < length old = are.within level place e in
          let same : take place new ≡ take place old = ap (λ (s : List Step). take place s) is ∙ take_within place old more (omega arith) in
          rw same (are.stuck level place e);
      rising = are.rising;
      decisions = λ place step at none.
          elim (slice_get-append_cases old more place step (subst (λ (s : List Step). slice_get s place ≡ Some step) is at)) [
            | inl before ↦ are.decisions place step before none
            | inr there ↦ absurd (no_some step.reason none (All-contains (λ (s : Step). IsSome s.reason) more step by there))
          ];
    }

pub LevelsAre-decide :
    (known : List Clause) (steps : List Step) (levels : List ℕ) (step : Step) → LevelsAre known steps levels → AllStuck known (falses_of steps)
    → LevelsAre known (steps ++ step ∷ []) (levels ++ length steps ∷ [])
LevelsAre-decide known steps levels step are stuck =
    record {
      within = λ level place e.
          elim (slice_get-push_cases levels (length steps) level place e) [
            | inl before ↦ omega (arith, are.within level place before, length-append steps (step ∷ []))
            | inr last ↦ omega (arith, last.1, length-append steps (step ∷ []))
          ];
      stuck = λ level place e.
          elim (slice_get-push_cases levels (length steps) level place e) [
            | inl before ↦
                let below : place < length steps = are.within level place before in
                rw (take_within place steps (step ∷ []) (omega arith)) (are.stuck level place before)
            | inr last ↦ rw (take_at steps (step ∷ []) place last.1) stuck
          ];
      rising = λ i k a b less at_a at_b.
          elim (slice_get-push_cases levels (length steps) k b at_b) [
            | inl before ↦
                let k_within : k < length levels = slice_get_within levels k b before in
                elim (slice_get-push_cases levels (length steps) i a at_a)
                [ inl a_before ↦ are.rising i k a b less a_before before | inr last ↦ absurd (omega (arith, last.0, k_within, less)) ]
            | inr last ↦
                elim (slice_get-push_cases levels (length steps) i a at_a)
                [ inl a_before ↦ omega (arith, are.within i a a_before, last.1) | inr a_last ↦ absurd (omega (arith, last.0, a_last.0, less)) ]
          ];
      decisions = λ place other at none.
          elim (slice_get-push_cases steps step place other at) [
            | inl before ↦ Contains-append_left levels (length steps ∷ []) place (are.decisions place other before none)
            | inr last ↦ subst (Contains (levels ++ length steps ∷ [])) (sym last.0) (Contains-push levels (length steps))
          ];
    }

-- after the place where the last level begins all steps have reasons
pub last_level : (known : List Clause) (steps : List Step) (levels : List ℕ) (start : ℕ) → LevelsAre known steps levels → IsStart levels start → IsLastLevel steps start
last_level known steps levels start are is_start place step later at =
    let has_reason : step.reason ≡ None → ⊥ =
    λ none.
    let there = Contains-index levels place (are.decisions place step at none) in
    elim is_start [
      | inl empty ↦ none-some place (subst (λ (l : List ℕ). slice_get l there.0 ≡ Some place) empty.0 there.1)
      | inr last ↦
          let within : there.0 < length levels = slice_get_within levels there.0 place there.1 in
          elim (cases_eq there.0 (length levels - 1)) [
            | inl same ↦
                let e : place ≡ start = same_Some place start (sym there.1 ∙ subst (λ (n : ℕ). slice_get levels n ≡ Some start) (sym same) last) in
                omega (arith, e, later)
            | inr differ ↦ omega (arith, are.rising there.0 (length levels - 1) place start (omega (arith, within, differ)) there.1 last, later)
          ]
    ] in
    some_of step.reason has_reason
