-- The moves of a search keep its state.
use Rattle.std.proofs.Common.{◌≡◌, ◌≢◌, ◌⊎◌, ◌∙◌, ℕ, ◌-◌, ◌<◌, ◌≤◌, false, List, [], ◌∷◌, ◌++◌, Option, Some, None, length, get_or, take, arith, refl, sym, ap, subst, inl, inr}
use Rattle.std.specs.List.{All, slice_get, Contains}
use Rattle.std.proofs.lemmas.Bool.{cases_order}
use Rattle.std.proofs.lemmas.Option.{same_Some, none-some, slice_get-get_or}
use Rattle.std.proofs.lemmas.List.{length-take-le}
use Rattle.std.proofs.lemmas.List.Elements.{All-push, Contains-get_or}
use Rattle.sat_check.specs.declared.clause.Lit.{Lit}
use Rattle.sat_check.specs.declared.clause.Clause.{Clause}
use Rattle.sat_check.specs.declared.log.Entry.{Entry}
use Rattle.sat_check.specs.Clauses.{opposite_of, AreBelow}
use Rattle.sat_check.specs.Logs.{HasNoValue, IsUnit, Follows, IsNew, IsRefutation, Refutes, known_before, EntriesAreBelow}
use Rattle.sat_check.specs.Literals.{at_within, Contains-nil, Contains-at, Contains-index}
use Rattle.sat_check.specs.Laws.{HasEmpty-push}
use Rattle.search_base.specs.declared.trail.Slot.{Slot}
use Rattle.search_base.specs.declared.trail.Step.{Step}
use Rattle.search_state.specs.declared.watches.Pair.{Pair}
use Rattle.search_base.specs.Trails.{falses_of, Keeps, IsStuck, AllStuck}
use Rattle.search_state.specs.Watches.{IsFree}
use Rattle.sat_search.specs.Learning.{Learns}
use Rattle.search_base.specs.Searches.{IsRefutedByPropagation}
use Rattle.search_state.specs.Shelves.{IsAside}
use Rattle.search_base.specs.Levels.{LevelsAre, EntriesAre}
use Rattle.search_state.specs.Guarding.{cases_flag}
use Rattle.search_base.specs.Lists.{slice_get-take, take_slice_get, take-take}
use Rattle.search_base.specs.Places.{falses_more}
use Rattle.search_base.specs.Steps.{shown_once}
use Rattle.search_base.specs.Settling.{cases_Contains}
use Rattle.search_base.specs.Refuting.{one_place, false_below}
use Rattle.search_base.specs.Leveling.{stuck_refutes_none}
use Rattle.search_base.specs.Entries.{AllFollow-push, AllNew-push}

-- ---- what was learned

module _ (known : List Clause) (slots : List Slot) (steps : List Step) (start : ℕ) (entry : Entry) (asserting : Option Lit) (keep : ℕ)
    (keeps : Keeps known slots steps) (learns : Learns known steps start entry.clause.lits entry.hints asserting keep) where
  pub learned_below : AreBelow (length slots) entry.clause.lits
  learned_below k d within = false_below known slots steps (get_or entry.clause.lits k d) keeps (learns.among (get_or entry.clause.lits k d) (Contains-get_or entry.clause.lits k d within))

  pub learned_follows : Follows known entry
  learned_follows =
      record {
        no_tautology = λ (lit, stands, opposite).
            let here = learns.among lit stands in
            shown_once slots (falses_of steps) lit keeps.shows (false_below known slots steps lit keeps here) here (learns.among (opposite_of lit) opposite);
        refutes = learns.refutes;
      }

module _ (known : List Clause) (slots : List Slot) (steps : List Step) (start : ℕ) (entry : Entry) (asserting : Lit) (keep : ℕ)
    (keeps : Keeps known slots steps) (learns : Learns known steps start entry.clause.lits entry.hints (Some asserting) keep) where
  asserting_free : HasNoValue (falses_of (take start steps)) asserting
  asserting_free =
      let it = learns.late asserting refl in
      let is = keeps.each it.place it.step it.at in
      record {
        not_false = λ h. is.without_value.not_false (subst (Contains (falses_of (take it.place steps))) (sym it.same) (falses_more start it.place steps asserting it.late h));
        not_true = λ h. is.without_value.not_true (subst (λ (l : Lit). Contains (falses_of (take it.place steps)) (opposite_of l)) (sym it.same) (falses_more start it.place steps (opposite_of asserting) it.late h));
      }

  others_early : (lit : Lit) → Contains entry.clause.lits lit → (lit ≡ asserting) ⊎ Contains (falses_of (take keep steps)) lit
  others_early lit h = elim (learns.others lit h) [ inl e ↦ inl (sym (same_Some asserting lit e)) | inr before ↦ inr before ]

  pub asserting_below : asserting.variable < length slots
  asserting_below = false_below known slots steps asserting keeps (learns.among asserting (learns.stands asserting refl))

  pub learned_unit : (place : ℕ) → keep ≤ place → place ≤ start → IsUnit (falses_of (take place steps)) entry.clause.lits asserting
  learned_unit place above le =
      record {
        stands = learns.stands asserting refl;
        without_value =
            record {
              not_false = λ h. asserting_free.not_false (falses_more place start steps asserting le h);
              not_true = λ h. asserting_free.not_true (falses_more place start steps (opposite_of asserting) le h);
            };
        others = λ k d within.
            let o = get_or entry.clause.lits k d in
            elim (others_early o (Contains-get_or entry.clause.lits k d within)) [ inl same ↦ inl same | inr before ↦ inr (falses_more keep place steps o above before) ];
      }

  -- before `keep` it has two
  pub learned_free : (second : Lit) (place : ℕ) (step : Step) → slice_get steps (keep - 1) ≡ Some step → step.falsified ≡ second → place < keep → IsFree (falses_of (take place steps)) (record { first = asserting; second = second; aside = false })
  learned_free second place step there same less =
      let it = learns.late asserting refl in
      record {
        first = λ h. asserting_free.not_false (falses_more place start steps asserting (omega (arith, learns.keep_le, less)) h);
        second = λ h.
            (keeps.each (keep - 1) step there).without_value.not_false (subst (Contains (falses_of (take (keep - 1) steps))) (sym same) (falses_more place (keep - 1) steps second (omega (arith, less)) h));
        apart = λ e.
            let q : it.place ≡ keep - 1 = one_place known slots steps keeps it.place (keep - 1) it.step step it.at there (ap (λ (l : Lit). l.variable) (it.same ∙ e ∙ sym same)) in
            omega (arith, q, learns.keep_le, it.late, less);
      }

  -- no clause lies within it that is stuck where the last level begins
  apart_some : (clause : Clause) → IsStuck (falses_of (take start steps)) clause.lits → ¬ All (Contains entry.clause.lits) clause.lits
  apart_some clause is all =
      let F = falses_of (take start steps) in
      let at : (o : Lit) → Contains entry.clause.lits o → (o ≡ asserting) ⊎ Contains F o =
      λ o h. elim (others_early o h) [ inl same ↦ inl same | inr before ↦ inr (falses_more keep start steps o learns.keep_le before) ] in
      elim (cases_Contains clause.lits asserting) [
        | inl it ↦ is.not_unit asserting (record { stands = it; without_value = asserting_free; others = λ k e inside. at (get_or clause.lits k e) (all k e inside) })
        | inr not_it ↦
            is.not_false
            (λ k e inside.
            elim (at (get_or clause.lits k e) (all k e inside))
            [ inl same ↦ absurd (not_it (subst (Contains clause.lits) same (Contains-get_or clause.lits k e inside))) | inr h ↦ h ])
      ]

apart_none :
    (known : List Clause) (steps : List Step) (start : ℕ) (entry : Entry) (keep : ℕ) → Learns known steps start entry.clause.lits entry.hints None keep
    → (clause : Clause) → IsStuck (falses_of (take start steps)) clause.lits → ¬ All (Contains entry.clause.lits) clause.lits
apart_none known steps start entry keep learns clause is all =
    is.not_false
    (λ k d within.
    let lit = get_or clause.lits k d in
    elim (learns.others lit (all k d within)) [ inl e ↦ absurd (none-some lit e) | inr before ↦ falses_more keep start steps lit learns.keep_le before ])

learned_apart :
    (known : List Clause) (slots : List Slot) (steps : List Step) (start : ℕ) (entry : Entry) (asserting : Option Lit) (keep : ℕ) → Keeps known slots steps
    → Learns known steps start entry.clause.lits entry.hints asserting keep → (clause : Clause) → IsStuck (falses_of (take start steps)) clause.lits → ¬ All (Contains entry.clause.lits) clause.lits
learned_apart known slots steps start entry None keep keeps learns = apart_none known steps start entry keep learns
learned_apart known slots steps start entry (Some asserting) keep keeps learns = apart_some known slots steps start entry asserting keep keeps learns

-- It is new, since what wasn't set aside is stuck where the last level begins, and what was doesn't lie within it.
pub learned_new :
    (known : List Clause) (pairs : List Pair) (slots : List Slot) (steps : List Step) (start : ℕ) (entry : Entry) (asserting : Option Lit) (keep : ℕ) → Keeps known slots steps
    → Learns known steps start entry.clause.lits entry.hints asserting keep → length pairs ≡ length known → entry.clause.lits ≢ []
    → ((index : ℕ) (clause : Clause) (pair : Pair) → slice_get known index ≡ Some clause → slice_get pairs index ≡ Some pair → pair.aside ≡ false → IsStuck (falses_of (take start steps)) clause.lits)
    → ((index : ℕ) (clause : Clause) → slice_get known index ≡ Some clause → IsAside pairs index → ¬ All (Contains entry.clause.lits) clause.lits) → IsNew known entry
learned_new known pairs slots steps start entry asserting keep keeps learns len ne hot cold =
    record {
      not_empty = ne;
      no_tautology = (learned_follows known slots steps start entry asserting keep keeps learns).no_tautology;
      not_known = λ index d within all.
          let clause = get_or known index d in
          let named = slice_get-get_or known index d within in
          let (pair, at) = at_within pairs index (omega (arith, within, len)) in
          elim (cases_flag pair.aside) [
            | inl aside ↦ cold index clause named (pair, at, aside) all
            | inr not_aside ↦ learned_apart known slots steps start entry asserting keep keeps learns clause (hot index clause pair named at not_aside) all
          ];
    }

-- where all clauses are stuck, propagation alone doesn't refute them
pub not_propagated : (clauses : List Clause) (falses : List Lit) → AllStuck clauses falses → ¬ IsRefutedByPropagation clauses
not_propagated clauses falses stuck (hints, follows) = stuck_refutes_none clauses falses stuck [] hints (λ lit h. absurd (Contains-nil lit h)) follows.refutes

pub EntriesAre-push :
    (variables : ℕ) (clauses : List Clause) (entries : List Entry) (entry : Entry) → EntriesAre variables clauses entries → AreBelow variables entry.clause.lits
    → Follows (known_before clauses entries) entry → IsNew (known_before clauses entries) entry → ¬ IsRefutedByPropagation clauses → EntriesAre variables clauses (entries ++ entry ∷ [])
EntriesAre-push variables clauses entries entry are below follows new apart =
    record {
      below = All-push (λ (e : Entry). AreBelow variables e.clause.lits) entries entry are.below below;
      follow = AllFollow-push clauses entries entry are.follow follows;
      new = AllNew-push clauses entries entry are.new new;
      not_propagated = λ _. apart;
    }

-- an empty clause refutes the clauses
pub refuted_push :
    (variables : ℕ) (clauses : List Clause) (entries : List Entry) (entry : Entry) → EntriesAre variables clauses entries → Refutes (known_before clauses entries) entry.clause.lits entry.hints → entry.clause.lits ≡ []
    → IsRefutation clauses (entries ++ entry ∷ []) × EntriesAreBelow variables (entries ++ entry ∷ [])
refuted_push variables clauses entries entry are refutes empty =
    let lits = entry.clause.lits in
    let none : (lit : Lit) → Contains lits lit → ⊥ = λ lit h. Contains-nil lit (subst (λ (l : List Lit). Contains l lit) empty h) in
    let follows : Follows (known_before clauses entries) entry = record { no_tautology = λ (lit, stands, opposite). none lit stands; refutes = refutes } in (
      record { follow = AllFollow-push clauses entries entry are.follow follows; empty = HasEmpty-push entries entry empty },
      All-push (λ (e : Entry). AreBelow variables e.clause.lits) entries entry are.below (λ k d within. absurd (none (get_or lits k d) (Contains-get_or lits k d within))),
    )

-- ---- levels that stay

pub LevelsAre-cut :
    (known : List Clause) (steps : List Step) (levels : List ℕ) (level place : ℕ) → LevelsAre known steps levels → slice_get levels level ≡ Some place → LevelsAre known (take place steps) (take level levels)
LevelsAre-cut known steps levels level place are at =
    let place_within : place < length steps = are.within level place at in
    let cut : length (take place steps) ≡ place = length-take-le place steps (omega arith) in
    record {
      within = λ i a e. let (less, there) = take_slice_get level levels i a e in omega (arith, are.rising i level a place less there at, cut);
      stuck = λ i a e.
          let (less, there) = take_slice_get level levels i a e in
          let before : a < place = are.rising i level a place less there at in
          rw (take-take a place steps (omega (arith, before))) (are.stuck i a there);
      rising = λ i k a b less e f. are.rising i k a b less (take_slice_get level levels i a e).1 (take_slice_get level levels k b f).1;
      decisions = λ p other e none.
          let (less, there) = take_slice_get place steps p other e in
          let (i, found) = Contains-index levels p (are.decisions p other there none) in
          let sooner : i < level =
          elim (cases_order i level) [
            | inl same ↦ absurd (let e' : p ≡ place = same_Some p place (sym found ∙ subst (λ (n : ℕ). slice_get levels n ≡ Some place) (sym same) at) in omega (arith, e', less))
            | inr apart ↦ elim apart [ inl it ↦ it | inr later ↦ absurd (omega (arith, are.rising level i place p later at found, less)) ]
          ] in
          Contains-at (take level levels) i p (slice_get-take level levels i p sooner found);
    }
