-- A jump back after a conflict keeps the state of a search.
use Rattle.std.proofs.Common.{◌≡◌, ◌≢◌, ◌⊎◌, ◌∙◌, ℕ, ◌+◌, ◌-◌, ◌<◌, ◌≤◌, true, List, [], ◌∷◌, ◌++◌, Some, None, length, map, set, get_or, take, arith, refl, sym, ap, subst, inl, inr}
use Rattle.std.specs.List.{slice_get, Contains}
use Rattle.std.specs.declared.vec.Vec.{Vec}
use Rattle.std.specs.declared.alloc.Global.{Global}
use Rattle.std.proofs.lemmas.Bool.{cases_order}
use Rattle.std.proofs.lemmas.Option.{same_Some, none-some, slice_get-get_or}
use Rattle.std.proofs.lemmas.List.{length-set, length-append, length-take-le}
use Rattle.std.proofs.lemmas.List.Elements.{All-contains, All-push, Contains-get_or}
use Rattle.sat_check.specs.declared.clause.Lit.{Lit}
use Rattle.sat_check.specs.declared.clause.Clause.{Clause}
use Rattle.sat_check.specs.declared.log.Entry.{Entry}
use Rattle.sat_check.specs.Clauses.{opposite_of, AreBelow}
use Rattle.sat_check.specs.Logs.{HasNoValue, IsUnit, Follows, IsNew, known_before, IsRefutation, EntriesAreBelow}
use Rattle.sat_check.specs.Literals.{at_within, Contains-nil, Contains-at, Contains-index}
use Rattle.sat_check.specs.Laws.{HasEmpty-push}
use Rattle.search_base.specs.declared.trail.Slot.{Slot}
use Rattle.search_base.specs.declared.trail.Step.{Step}
use Rattle.search_base.specs.Trails.{falses_of, IsStep, Keeps, IsStuck}
use Rattle.plain_search.specs.Occurrences.{occurrences_of, Adds, IsComplete}
use Rattle.search_base.specs.Replacing.{IsDecision, Learns}
use Rattle.plain_search.specs.States.{IsState, IsAhead}
use Rattle.search_base.specs.Levels.{LevelsAre, EntriesAre, IsStart}
use Rattle.search_base.specs.Lists.{slice_get-append_left, slice_get-push, slice_get-push_cases, slice_get-take, take_slice_get, take_within, take-take}
use Rattle.search_base.specs.Places.{falses_more}
use Rattle.search_base.specs.Steps.{shown_once, falses-push, Keeps-push, Keeps-known}
use Rattle.plain_search.proofs.Settling.{IsSettled-push}
use Rattle.search_base.specs.Settling.{cases_Contains, IsStuck-single, IsStep-single}
use Rattle.search_base.specs.Refuting.{one_place, false_below}
use Rattle.search_base.specs.Leveling.{stuck_refutes_none}
use Rattle.search_base.specs.Entries.{some_lit, known_push, length-known, AllFollow-push, AllNew-push, place_le}

-- The last level of a trail from which a clause was learned: its decision stands in the clause.
pub record IsJump (known : List Clause) (slots : List Slot) (steps : List Step) (levels : List ℕ) (start : ℕ) (lits : List Lit) (keep : ℕ) : Type 0 where
  pub last : slice_get levels (length levels - 1) ≡ Some start
  pub decision : Step
  pub at : slice_get steps start ≡ Some decision
  pub stands : Contains lits decision.falsified
  pub others : (lit : Lit) → Contains lits lit → (lit ≡ decision.falsified) ⊎ Contains (falses_of (take keep steps)) lit
  pub free : HasNoValue (falses_of (take start steps)) decision.falsified
  pub below : decision.falsified.variable < length slots

pub is_jump :
    (known : List Clause) (slots : List Slot) (steps : List Step) (levels : List ℕ) (start : ℕ) (lits : List Lit) (hints : List ℕ) (keep : ℕ)
    → Keeps known slots steps → LevelsAre known steps levels → IsStart levels start → Learns known steps start lits hints keep → lits ≢ []
    → IsJump known slots steps levels start lits keep
is_jump known slots steps levels start lits hints keep keeps are is_start learns ne =
    let (lit, stands) = some_lit lits ne in
    -- some level begins at the start
    let last : slice_get levels (length levels - 1) ≡ Some start =
    elim is_start [
      | inl none ↦
          absurd
          (elim (learns.decided lit stands) [
            | inl decision ↦
                let there = Contains-index levels start (are.decisions start decision.0 decision.1 decision.2) in
                none-some start (subst (λ (l : List ℕ). slice_get l there.0 ≡ Some start) none.0 there.1)
            | inr before ↦
                let zero' : keep ≡ 0 = omega (arith, learns.keep_le, none.1) in
                Contains-nil lit (subst (λ (n : ℕ). Contains (falses_of (take n steps)) lit) zero' before)
          ])
      | inr it ↦ it
    ] in
    let (decision, at) = at_within steps start (are.within (length levels - 1) start last) in
    let is = keeps.each start decision at in
    let same_decision : (o : Lit) → IsDecision steps start o → o ≡ decision.falsified =
    λ o d. sym d.3 ∙ ap (λ (s : Step). s.falsified) (same_Some d.0 decision (sym d.1 ∙ at)) in
    let others : (o : Lit) → Contains lits o → (o ≡ decision.falsified) ⊎ Contains (falses_of (take keep steps)) o =
    λ o h. elim (learns.decided o h) [ inl d ↦ inl (same_decision o d) | inr before ↦ inr before ] in
    let has : Contains lits decision.falsified =
    elim (cases_Contains lits decision.falsified) [
      | inl it ↦ it
      | inr not_it ↦
          absurd
          (stuck_refutes_none known (falses_of (take start steps)) (are.stuck (length levels - 1) start last) lits hints
          (λ o h.
          elim (others o h)
          [ inl same ↦ absurd (not_it (subst (Contains lits) same h)) | inr before ↦ falses_more keep start steps o learns.keep_le before ])
          learns.refutes)
    ] in
    record { last = last; decision = decision; at = at; stands = has; others = others; free = is.without_value; below = is.below }

-- where the clause has one literal left
jump_unit :
    (known : List Clause) (slots : List Slot) (steps : List Step) (levels : List ℕ) (start : ℕ) (lits : List Lit) (keep place : ℕ)
    → (jump : IsJump known slots steps levels start lits keep) → keep ≤ place → place ≤ start → IsUnit (falses_of (take place steps)) lits jump.decision.falsified
jump_unit known slots steps levels start lits keep place jump above le =
    let u = jump.decision.falsified in
    record {
      stands = jump.stands;
      without_value =
          record {
            not_false = λ h. jump.free.not_false (falses_more place start steps u le h);
            not_true = λ h. jump.free.not_true (falses_more place start steps (opposite_of u) le h);
          };
      others = λ k d within.
          let o = get_or lits k d in
          elim (jump.others o (Contains-get_or lits k d within)) [ inl same ↦ inl same | inr before ↦ inr (falses_more keep place steps o above before) ];
    }

-- before that it has two
jump_stuck :
    (known : List Clause) (slots : List Slot) (steps : List Step) (levels : List ℕ) (start : ℕ) (lits : List Lit) (hints : List ℕ) (keep place : ℕ)
    → Keeps known slots steps → Learns known steps start lits hints keep
    → (jump : IsJump known slots steps levels start lits keep) → place < keep → IsStuck (falses_of (take place steps)) lits
jump_stuck known slots steps levels start lits hints keep place keeps learns jump less =
    let F = falses_of (take place steps) in
    let u = jump.decision.falsified in
    let (other, there, stands) = learns.last (omega arith) in
    let q = other.falsified in
    let u_free : Contains F u → ⊥ = λ h. jump.free.not_false (falses_more place start steps u (omega (arith, learns.keep_le)) h) in
    let q_free : Contains F q → ⊥ = λ h. (keeps.each (keep - 1) other there).without_value.not_false (falses_more place (keep - 1) steps q (omega arith) h) in
    let differ : u ≡ q → ⊥ =
    λ e.
    let same : start ≡ keep - 1 = one_place known slots steps keeps start (keep - 1) jump.decision other jump.at there (ap (λ (l : Lit). l.variable) e) in
    omega (arith, same, learns.keep_le, less) in
    record {
      not_false = λ all. u_free (All-contains (Contains F) lits u all jump.stands);
      not_unit = λ lit unit.
          elim (All-contains (λ (o : Lit). (o ≡ lit) ⊎ Contains F o) lits u unit.others jump.stands) [
            | inl u_is ↦
                elim (All-contains (λ (o : Lit). (o ≡ lit) ⊎ Contains F o) lits q unit.others stands)
                [ inl q_is ↦ differ (u_is ∙ sym q_is) | inr h ↦ q_free h ]
            | inr h ↦ u_free h
          ];
    }

-- the levels that begin before the place stay, and the clause is known from then on
pub LevelsAre-jump :
    (known : List Clause) (slots : List Slot) (steps : List Step) (levels : List ℕ) (start : ℕ) (clause : Clause) (hints : List ℕ) (keep level place : ℕ) (step : Step)
    → Keeps known slots steps → LevelsAre known steps levels → Learns known steps start clause.lits hints keep → IsJump known slots steps levels start clause.lits keep
    → slice_get levels level ≡ Some place → ((i a : ℕ) → i < level → slice_get levels i ≡ Some a → a < keep) → (step.reason ≡ None → ⊥)
    → LevelsAre (known ++ clause ∷ []) (take place steps ++ step ∷ []) (take level levels)
LevelsAre-jump known slots steps levels start clause hints keep level place step keeps are learns jump at earlier reason =
    let place_within : place < length steps = are.within level place at in
    let cut : length (take place steps) ≡ place = length-take-le place steps (omega arith) in
    record {
      within = λ i a e.
          let (less, there) = take_slice_get level levels i a e in
          omega (arith, are.rising i level a place less there at, length-append (take place steps) (step ∷ []), cut);
      stuck = λ i a e index other named.
          let (less, there) = take_slice_get level levels i a e in
          let before : a < place = are.rising i level a place less there at in
          let same : take a (take place steps ++ step ∷ []) ≡ take a steps = take_within a (take place steps) (step ∷ []) (omega (arith, before, cut)) ∙ take-take a place steps (omega (arith, before)) in
          rw same
          (elim (slice_get-push_cases known clause index other named) [
            | inl old ↦ are.stuck i a there index other old
            | inr last ↦
                subst (λ (c : Clause). IsStuck (falses_of (take a steps)) c.lits) last.1
                (jump_stuck known slots steps levels start clause.lits hints keep a keeps learns jump (earlier i a less there))
          ]);
      rising = λ i k a b less e f. are.rising i k a b less (take_slice_get level levels i a e).1 (take_slice_get level levels k b f).1;
      decisions = λ p other e none.
          elim (slice_get-push_cases (take place steps) step p other e) [
            | inl old ↦
                let (less, there) = take_slice_get place steps p other old in
                let (i, found) = Contains-index levels p (are.decisions p other there none) in
                let sooner : i < level =
                elim (cases_order i level) [
                  | inl same ↦ absurd (let e' : p ≡ place = same_Some p place (sym found ∙ subst (λ (n : ℕ). slice_get levels n ≡ Some place) (sym same) at) in omega (arith, e', less))
                  | inr apart ↦ elim apart [ inl it ↦ it | inr later ↦ absurd (omega (arith, are.rising level i place p later at found, less)) ]
                ] in
                Contains-at (take level levels) i p (slice_get-take level levels i p sooner found)
            | inr last ↦ absurd (reason (subst (λ (s : Step). s.reason ≡ None) (sym last.1) none))
          ];
    }

-- all clauses are settled but for the literal that just became true
pub IsAhead-jump :
    (known : List Clause) (slots : List Slot) (steps : List Step) (levels : List ℕ) (start : ℕ) (clause : Clause) (keep level place : ℕ) (step : Step)
    → LevelsAre known steps levels → (jump : IsJump known slots steps levels start clause.lits keep) → slice_get levels level ≡ Some place → keep ≤ place → place ≤ start
    → step.falsified ≡ opposite_of jump.decision.falsified → IsAhead (known ++ clause ∷ []) (take place steps ++ step ∷ [])
IsAhead-jump known slots steps levels start clause keep level place step are jump at above le is =
    let old = take place steps in
    let len : length (old ++ step ∷ []) ≡ length old + 1 = length-append old (step ∷ []) in
    let head : length (old ++ step ∷ []) - 1 ≡ length old = omega (arith, len) in
    let falses : falses_of (old ++ step ∷ []) ≡ falses_of old ++ opposite_of jump.decision.falsified ∷ [] =
    falses-push old step ∙ ap (λ (f : Lit). falses_of old ++ f ∷ []) is in
    record {
      some = omega (arith, len);
      settled = λ index other named.
          rw head
          (elim (slice_get-push_cases known clause index other named) [
            | inl before ↦ IsSettled-push old (length old) other.lits step (omega arith) (inl (are.stuck level place at index other before))
            | inr last ↦
                inl
                (subst (λ (c : Clause). IsStuck (falses_of (old ++ step ∷ [])) c.lits) last.1
                (rw falses (IsStuck-single (falses_of old) clause.lits jump.decision.falsified (jump_unit known slots steps levels start clause.lits keep place jump above le))))
          ]);
    }

-- the step of the literal that becomes true
pub IsStep-jump :
    (known : List Clause) (slots : List Slot) (steps : List Step) (levels : List ℕ) (start : ℕ) (clause : Clause) (keep place index : ℕ)
    → (jump : IsJump known slots steps levels start clause.lits keep) → keep ≤ place → place ≤ start → index ≡ length known
    → IsStep (length slots) (known ++ clause ∷ []) (falses_of (take place steps)) (record { falsified = opposite_of jump.decision.falsified; reason = Some index })
IsStep-jump known slots steps levels start clause keep place index jump above le is =
    IsStep-single (length slots) (known ++ clause ∷ []) (falses_of (take place steps)) clause jump.decision.falsified index jump.below
    (subst (λ (n : ℕ). slice_get (known ++ clause ∷ []) n ≡ Some clause) (sym is) (slice_get-push known clause))
    (jump_unit known slots steps levels start clause.lits keep place jump above le)

pub IsComplete-push :
    (known : List Clause) (clause : Clause) (positive negative new_positive new_negative : List (Vec ℕ Global)) (index : ℕ) → IsComplete known positive negative → index ≡ length known
    → Adds positive negative new_positive new_negative index clause.lits → IsComplete (known ++ clause ∷ []) new_positive new_negative
IsComplete-push known clause positive negative new_positive new_negative index complete is adds k other lit named stands =
    elim (slice_get-push_cases known clause k other named) [
      | inl before ↦ adds.kept lit k (complete k other lit before stands)
      | inr last ↦
          let stands' : Contains clause.lits lit = subst (λ (c : Clause). Contains c.lits lit) (sym last.1) stands in
          subst (λ (n : ℕ). Contains (occurrences_of new_positive new_negative lit) n) (is ∙ sym last.0) (adds.added lit stands')
    ]

-- ---- entries

-- what was learned follows
learned_follows :
    (known : List Clause) (slots : List Slot) (steps : List Step) (start : ℕ) (entry : Entry) (keep : ℕ)
    → Keeps known slots steps → Learns known steps start entry.clause.lits entry.hints keep → Follows known entry
learned_follows known slots steps start entry keep keeps learns =
    record {
      no_tautology = λ (lit, stands, opposite).
          let here = learns.among lit stands in
          shown_once slots (falses_of steps) lit keeps.shows (false_below known slots steps lit keeps here) here (learns.among (opposite_of lit) opposite);
      refutes = learns.refutes;
    }

pub learned_below :
    (known : List Clause) (slots : List Slot) (steps : List Step) (start : ℕ) (entry : Entry) (keep : ℕ)
    → Keeps known slots steps → Learns known steps start entry.clause.lits entry.hints keep → AreBelow (length slots) entry.clause.lits
learned_below known slots steps start entry keep keeps learns k d within =
    let lits = entry.clause.lits in
    false_below known slots steps (get_or lits k d) keeps (learns.among (get_or lits k d) (Contains-get_or lits k d within))

-- and is new: a clause within it would have been false or had one literal left before the last decision
learned_new :
    (known : List Clause) (slots : List Slot) (steps : List Step) (levels : List ℕ) (start : ℕ) (entry : Entry) (keep : ℕ)
    → Keeps known slots steps → LevelsAre known steps levels → Learns known steps start entry.clause.lits entry.hints keep
    → IsJump known slots steps levels start entry.clause.lits keep → entry.clause.lits ≢ [] → IsNew known entry
learned_new known slots steps levels start entry keep keeps are learns jump ne =
    let F = falses_of (take start steps) in
    let u = jump.decision.falsified in
    let stuck = are.stuck (length levels - 1) start jump.last in
    let lits = entry.clause.lits in
    record {
      not_empty = ne;
      no_tautology = (learned_follows known slots steps start entry keep keeps learns).no_tautology;
      not_known = λ index d within all.
          let clause = get_or known index d in
          let is = stuck index clause (slice_get-get_or known index d within) in
          let at : (o : Lit) → Contains lits o → (o ≡ u) ⊎ Contains F o =
          λ o h. elim (jump.others o h) [ inl same ↦ inl same | inr before ↦ inr (falses_more keep start steps o learns.keep_le before) ] in
          elim (cases_Contains clause.lits u) [
            | inl it ↦
                is.not_unit u
                (record { stands = it; without_value = jump.free; others = λ k e inside. at (get_or clause.lits k e) (all k e inside) })
            | inr not_it ↦
                is.not_false
                (λ k e inside.
                elim (at (get_or clause.lits k e) (all k e inside))
                [ inl same ↦ absurd (not_it (subst (Contains clause.lits) same (Contains-get_or clause.lits k e inside))) | inr h ↦ h ])
          ];
    }

pub EntriesAre-push :
    (clauses : List Clause) (entries : List Entry) (slots : List Slot) (steps : List Step) (levels : List ℕ) (start : ℕ) (entry : Entry) (keep : ℕ)
    → Keeps (known_before clauses entries) slots steps → LevelsAre (known_before clauses entries) steps levels
    → Learns (known_before clauses entries) steps start entry.clause.lits entry.hints keep
    → IsJump (known_before clauses entries) slots steps levels start entry.clause.lits keep → entry.clause.lits ≢ []
    → EntriesAre (length slots) clauses entries → EntriesAre (length slots) clauses (entries ++ entry ∷ [])
EntriesAre-push clauses entries slots steps levels start entry keep keeps are learns jump ne entries_are =
    let known = known_before clauses entries in
    record {
      below = All-push (λ (e : Entry). AreBelow (length slots) e.clause.lits) entries entry entries_are.below (learned_below known slots steps start entry keep keeps learns);
      follow = AllFollow-push clauses entries entry entries_are.follow (learned_follows known slots steps start entry keep keeps learns);
      new = AllNew-push clauses entries entry entries_are.new (learned_new known slots steps levels start entry keep keeps are learns jump ne);
      not_propagated = λ _ (hints, follows).
          stuck_refutes_none clauses (falses_of (take start steps))
          (λ index clause named. are.stuck (length levels - 1) start jump.last index clause (slice_get-append_left clauses (map (λ (e : Entry). e.clause) entries) index clause named))
          [] hints (λ lit h. absurd (Contains-nil lit h)) follows.refutes;
    }

-- an empty clause that was learned refutes the clauses
pub refuted_push :
    (clauses : List Clause) (entries : List Entry) (slots : List Slot) (steps : List Step) (start : ℕ) (entry : Entry) (keep : ℕ)
    → Keeps (known_before clauses entries) slots steps → Learns (known_before clauses entries) steps start entry.clause.lits entry.hints keep
    → entry.clause.lits ≡ [] → EntriesAre (length slots) clauses entries
    → IsRefutation clauses (entries ++ entry ∷ []) × EntriesAreBelow (length slots) (entries ++ entry ∷ [])
refuted_push clauses entries slots steps start entry keep keeps learns empty entries_are =
    let known = known_before clauses entries in (
      record {
        follow = AllFollow-push clauses entries entry entries_are.follow (learned_follows known slots steps start entry keep keeps learns);
        empty = HasEmpty-push entries entry empty;
      },
      All-push (λ (e : Entry). AreBelow (length slots) e.clause.lits) entries entry entries_are.below (learned_below known slots steps start entry keep keeps learns),
    )

-- ---- whole states

pub State-jump :
    (clauses : List Clause) (slots cut_slots slots' : List Slot) (steps steps' : List Step) (levels levels' : List ℕ) (positive negative positive' negative' : List (Vec ℕ Global)) (entries entries' : List Entry)
    (entry : Entry) (start keep level place index : ℕ) (falsified : Lit)
    → IsState (length slots) clauses slots steps levels positive negative entries
    → Learns (known_before clauses entries) steps start entry.clause.lits entry.hints keep → entry.clause.lits ≢ []
    → (jump : IsJump (known_before clauses entries) slots steps levels start entry.clause.lits keep)
    → slice_get levels level ≡ Some place → keep ≤ place → ((i a : ℕ) → i < level → slice_get levels i ≡ Some a → a < keep)
    → length cut_slots ≡ length slots → Keeps (known_before clauses entries) cut_slots (take place steps) → index ≡ length clauses + length entries
    → Adds positive negative positive' negative' index entry.clause.lits → length positive' ≡ length positive → length negative' ≡ length negative
    → falsified ≡ opposite_of jump.decision.falsified → levels' ≡ take level levels → entries' ≡ entries ++ entry ∷ []
    → slots' ≡ set cut_slots falsified.variable (record { assigned = true; positive = falsified.positive })
    → steps' ≡ take place steps ++ (record { falsified = falsified; reason = Some index }) ∷ []
    → IsState (length slots') clauses slots' steps' levels' positive' negative' entries' × IsAhead (known_before clauses entries') steps'
State-jump clauses slots cut_slots slots' steps steps' levels levels' positive negative positive' negative' entries entries' entry start keep level place index falsified
    state learns ne jump at above earlier cut_len cut_keeps is_index adds p_len n_len is_falsified levels_are entries_are slots_are steps_are =
    let known = known_before clauses entries in
    let clause = entry.clause in
    let step : Step = record { falsified = falsified; reason = Some index } in
    let le : place ≤ start = place_le known steps levels start level place state.levels_are jump.last at in
    let number : index ≡ length known = is_index ∙ sym (length-known clauses entries) in
    let len : length slots' ≡ length slots = ap length slots_are ∙ length-set cut_slots falsified.variable (record { assigned = true; positive = falsified.positive }) ∙ cut_len in
    let more : known_before clauses entries' ≡ known ++ clause ∷ [] = ap (λ (es : List Entry). known_before clauses es) entries_are ∙ known_push clauses entries entry in
    let is_step : IsStep (length cut_slots) (known ++ clause ∷ []) (falses_of (take place steps)) step =
    subst (λ (n : ℕ). IsStep n (known ++ clause ∷ []) (falses_of (take place steps)) step) (sym cut_len)
    (subst (λ (f : Lit). IsStep (length slots) (known ++ clause ∷ []) (falses_of (take place steps)) (record { falsified = f; reason = Some index })) (sym is_falsified)
    (IsStep-jump known slots steps levels start clause keep place index jump above le number)) in
    let keeps : Keeps (known ++ clause ∷ []) slots' steps' =
    rw (slots_are, steps_are) (Keeps-push (known ++ clause ∷ []) cut_slots (take place steps) step (Keeps-known known (clause ∷ []) cut_slots (take place steps) cut_keeps) is_step) in
    let are : LevelsAre (known ++ clause ∷ []) steps' levels' =
    rw (levels_are, steps_are)
    (LevelsAre-jump known slots steps levels start clause entry.hints keep level place step state.keeps state.levels_are learns jump at earlier (λ e. none-some index (sym e))) in (
      record {
        all = refl;
        keeps = rw more keeps;
        levels_are = rw more are;
        complete = rw more (IsComplete-push known clause positive negative positive' negative' index state.complete number adds);
        positive_len = p_len ∙ state.positive_len ∙ sym len;
        negative_len = n_len ∙ state.negative_len ∙ sym len;
        entries_are =
            rw (entries_are, len)
            (EntriesAre-push clauses entries slots steps levels start entry keep state.keeps state.levels_are learns jump ne state.entries_are);
      },
      rw (more, steps_are) (IsAhead-jump known slots steps levels start clause keep level place step state.levels_are jump at above le is_falsified),
    )
