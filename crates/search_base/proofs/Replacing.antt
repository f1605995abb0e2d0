-- The steps by which a conflict is gone over.
use Rattle.std.proofs.Common.{◌≡◌, ◌⊎◌, ◌∙◌, ℕ, ◌+◌, ◌-◌, ◌<◌, ◌≤◌, Bool, true, false, List, [], ◌∷◌, ◌++◌, Some, None, length, set, get_or, take, reverse, arith, sym, ap, subst, inl, inr}
use Rattle.std.specs.List.{All, slice_get, Contains}
use Rattle.std.proofs.lemmas.Bool.{cases_eq, cases_order, false≢true}
use Rattle.std.proofs.lemmas.Option.{same_Some, slice_get_within}
use Rattle.std.proofs.lemmas.List.{reverse-append}
use Rattle.std.proofs.lemmas.List.Elements.{All-push, Contains-push, Contains-append_left, Contains-push_cases}
use Rattle.sat_check.specs.declared.clause.Lit.{Lit}
use Rattle.sat_check.specs.declared.clause.Clause.{Clause}
use Rattle.sat_check.specs.Clauses.{opposite_of}
use Rattle.sat_check.specs.Logs.{HasNoValue, IsUnit, Refutes}
use Rattle.sat_check.specs.Literals.{opposite-opposite, Contains-nil, Contains-there, Contains-here, Contains-cons_cases, slice_get-set_same, slice_get-set_other}
use Rattle.search_base.specs.declared.trail.Slot.{Slot}
use Rattle.search_base.specs.declared.trail.Step.{Step}
use Rattle.search_base.specs.Trails.{falses_of, Keeps}
use Rattle.search_base.specs.Replacing.{Walked, Learns}
use Rattle.search_base.specs.Analysis.{AllMarked, IsLastLevel}
use Rattle.search_base.specs.Steps.{shown_once}
use Rattle.search_base.specs.Places.{place_of, false_at, false_before, false_by}
use Rattle.search_base.specs.Refuting.{earlier_apart, one_place, no_some, Refutes-cons, false_below}

pub Walked-begin :
    (known : List Clause) (steps : List Step) (start conflict : ℕ) (marks : List Bool) (clause : Clause)
    → slice_get known conflict ≡ Some clause → All (Contains (falses_of steps)) clause.lits → AllMarked marks clause.lits
    → Walked known steps start (length steps) marks [] (conflict ∷ []) 0
Walked-begin known steps start conflict marks clause named all marked =
    record {
      refutes = λ falses fits. (
        clause,
        named,
        λ k d within.
            let lit = get_or clause.lits k d in
            let (place, it) = place_of steps lit (all k d within) in
            let mark = subst (λ (l : Lit). slice_get marks l.variable ≡ Some true) (sym it.same) (marked k d within) in
            subst (Contains falses) it.same (fits.marked place it.step (slice_get_within steps place it.step it.at) it.at mark),
      );
      from = λ lit h. absurd (Contains-nil lit h);
      decided = λ lit h. absurd (Contains-nil lit h);
      low = λ h. absurd (omega (arith, h));
      keep_le = omega arith;
      last = λ h. absurd (omega (arith, h));
    }

-- a step that isn't marked changes nothing
pub Walked-skip :
    (known : List Clause) (steps : List Step) (start at : ℕ) (marks : List Bool) (lits : List Lit) (hints : List ℕ) (keep : ℕ) (step : Step)
    → slice_get steps at ≡ Some step → slice_get marks step.falsified.variable ≡ Some false
    → Walked known steps start (at + 1) marks lits hints keep → Walked known steps start at marks lits hints keep
Walked-skip known steps start at marks lits hints keep step here unmarked walked =
    record {
      refutes = λ falses fits.
          walked.refutes falses
          (record {
            among = fits.among;
            kept = fits.kept;
            marked = λ place other below there mark.
                elim (cases_eq place at) [
                  | inl same ↦
                      let is : other ≡ step = same_Some other step (sym (subst (λ (n : ℕ). slice_get steps n ≡ Some other) same there) ∙ here) in
                      let said : Some true ≡ Some false = sym (subst (λ (s : Step). slice_get marks s.falsified.variable ≡ Some true) is mark) ∙ unmarked in
                      absurd (false≢true (sym (same_Some true false said)))
                  | inr apart ↦ fits.marked place other (omega (arith, below, apart)) there mark
                ];
            late = λ place other above there h. fits.late place other (omega (arith, above)) there h;
          });
      from = λ lit h. let (place, other, above, there, is) = walked.from lit h in (place, other, omega (arith, above), there, is);
      decided = walked.decided;
      low = λ h. omega (arith, walked.low h);
      keep_le = walked.keep_le;
      last = walked.last;
    }

-- a step's literal stays in the clause
pub Walked-keep :
    (known : List Clause) (slots : List Slot) (steps : List Step) (start at : ℕ) (marks : List Bool) (lits : List Lit) (hints : List ℕ) (keep keep' : ℕ) (step : Step)
    → Keeps known slots steps → IsLastLevel steps start → slice_get steps at ≡ Some step → (at < start) ⊎ (step.reason ≡ None)
    → (at < start → keep ≡ 0 → keep' ≡ at + 1) → (0 < keep → keep' ≡ keep) → (start ≤ at → keep' ≡ keep)
    → Walked known steps start (at + 1) marks lits hints keep
    → Walked known steps start at (set marks step.falsified.variable false) (lits ++ step.falsified ∷ []) hints keep'
Walked-keep known slots steps start at marks lits hints keep keep' step keeps last_level here cause first later none walked =
    let f = step.falsified in
    let here_in : Contains (lits ++ f ∷ []) f = Contains-push lits f in
    let cases : (at < start) ⊎ (start ≤ at) = elim (cases_order at start) [ inl same ↦ inr (omega arith) | inr apart ↦ elim apart [ inl less ↦ inl less | inr more ↦ inr (omega arith) ] ] in
    let cases_keep : (keep ≡ 0) ⊎ (0 < keep) = elim (cases_order keep 0) [ inl same ↦ inl same | inr apart ↦ elim apart [ inl less ↦ absurd (omega (arith, less)) | inr more ↦ inr more ] ] in
    record {
      refutes = λ falses fits.
          walked.refutes falses
          (record {
            among = fits.among;
            kept = λ lit h. fits.kept lit (Contains-append_left lits (f ∷ []) lit h);
            marked = λ place other below there mark.
                elim (cases_eq place at) [
                  | inl same ↦
                      let is : other ≡ step = same_Some other step (sym (subst (λ (n : ℕ). slice_get steps n ≡ Some other) same there) ∙ here) in
                      subst (λ (s : Step). Contains falses s.falsified) (sym is) (fits.kept f here_in)
                  | inr apart ↦
                      let differ : other.falsified.variable ≡ f.variable → ⊥ = λ e. apart (one_place known slots steps keeps place at other step there here e) in
                      fits.marked place other (omega (arith, below, apart)) there (slice_get-set_other marks f.variable other.falsified.variable false differ ∙ mark)
                ];
            late = λ place other above there h.
                elim (Contains-push_cases lits f other.falsified (fits.late place other (omega (arith, above)) there h)) [
                  | inl it ↦ it
                  | inr same ↦
                      absurd (let e : place ≡ at = one_place known slots steps keeps place at other step there here (ap (λ (l : Lit). l.variable) (sym same)) in omega (arith, e, above))
                ];
          });
      from = λ lit h.
          elim (Contains-push_cases lits f lit h) [
            | inl before ↦ let (place, other, above, there, is) = walked.from lit before in (place, other, omega (arith, above), there, is)
            | inr same ↦ (at, step, omega arith, here, same)
          ];
      decided = λ lit h.
          elim (Contains-push_cases lits f lit h) [
            | inl before ↦
                elim (walked.decided lit before) [
                  | inl decision ↦ inl decision
                  | inr there ↦
                      elim cases_keep [
                        | inl zero' ↦ absurd (Contains-nil lit (subst (λ (n : ℕ). Contains (falses_of (take n steps)) lit) zero' there))
                        | inr some ↦ inr (subst (λ (n : ℕ). Contains (falses_of (take n steps)) lit) (sym (later some)) there)
                      ]
                ]
            | inr same ↦
                elim cases [
                  | inl less ↦
                      let within : at < keep' = elim cases_keep [ inl zero' ↦ omega (arith, first less zero') | inr some ↦ omega (arith, later some, walked.low some) ] in
                      inr (subst (Contains (falses_of (take keep' steps))) same (false_by keep' steps at step within here))
                  | inr above ↦
                      let no_reason : step.reason ≡ None = elim cause [ inl less ↦ absurd (omega (arith, less, above)) | inr e ↦ e ] in
                      elim (cases_eq at start) [
                        | inl is_start ↦ inl (step, subst (λ (n : ℕ). slice_get steps n ≡ Some step) is_start here, no_reason, same)
                        | inr apart ↦ absurd (let some = last_level at step (omega (arith, above, apart)) here in absurd (no_some step.reason no_reason some))
                      ]
                ]
          ];
      low = λ h.
          elim cases_keep [
            | inl zero' ↦
                elim cases [ inl less ↦ omega (arith, first less zero') | inr above ↦ absurd (omega (arith, none above, zero', h)) ]
            | inr some ↦ omega (arith, later some, walked.low some)
          ];
      keep_le =
          elim cases_keep [
            | inl zero' ↦ elim cases [ inl less ↦ omega (arith, first less zero', less) | inr above ↦ omega (arith, none above, zero') ]
            | inr some ↦ omega (arith, later some, walked.keep_le)
          ];
      last = λ h.
          elim cases_keep [
            | inl zero' ↦
                elim cases [
                  | inl less ↦
                      let is : keep' - 1 ≡ at = omega (arith, first less zero') in
                      (step, subst (λ (n : ℕ). slice_get steps n ≡ Some step) (sym is) here, here_in)
                  | inr above ↦ absurd (omega (arith, none above, zero', h))
                ]
            | inr some ↦
                let (other, there, stands) = walked.last some in
                (other, subst (λ (n : ℕ). slice_get steps (n - 1) ≡ Some other) (sym (later some)) there, Contains-append_left lits (f ∷ []) other.falsified stands)
          ];
    }

-- a step's literal is replaced by the others of its reason
pub Walked-replace :
    (known : List Clause) (slots : List Slot) (steps : List Step) (start at : ℕ) (marks marks' : List Bool) (lits : List Lit) (hints : List ℕ) (keep reason : ℕ) (step : Step)
    → Keeps known slots steps → slice_get steps at ≡ Some step → step.reason ≡ Some reason
    → ((variable : ℕ) → slice_get marks variable ≡ Some true → slice_get marks' variable ≡ Some true)
    → ((clause : Clause) → slice_get known reason ≡ Some clause → AllMarked marks' clause.lits)
    → Walked known steps start (at + 1) marks lits hints keep
    → Walked known steps start at (set marks' step.falsified.variable false) lits (hints ++ reason ∷ []) keep
Walked-replace known slots steps start at marks marks' lits hints keep reason step keeps here has_reason stay covers walked =
    let f = step.falsified in
    let is = keeps.each at step here in
    let (clause, named, unit) = is.reason reason has_reason in
    let f_false : Contains (falses_of steps) f = false_at steps at step here in
    record {
      refutes = λ falses fits.
          let not_f : Contains falses f → ⊥ =
          λ h. let (place, other, above, there, e) = walked.from f (fits.late at step (omega arith) here h) in
          omega (arith, above, one_place known slots steps keeps place at other step there here (ap (λ (l : Lit). l.variable) e)) in
          let free : HasNoValue falses (opposite_of f) =
          record {
            not_false = λ h. shown_once slots (falses_of steps) f keeps.shows (false_below known slots steps f keeps f_false) f_false (fits.among (opposite_of f) h);
            not_true = λ h. not_f (subst (Contains falses) (opposite-opposite f) h);
          } in
          let apart_mark : (place : ℕ) (other : Step) → place < at → slice_get steps place ≡ Some other → slice_get marks' other.falsified.variable ≡ Some true → Contains falses other.falsified =
          λ place other below there mark.
          let differ : other.falsified.variable ≡ f.variable → ⊥ = λ e. earlier_apart known slots steps keeps place at other step below there here e in
          fits.marked place other below there (slice_get-set_other marks' f.variable other.falsified.variable false differ ∙ mark) in
          let others : All (λ (o : Lit). (o ≡ opposite_of f) ⊎ Contains falses o) clause.lits =
          λ k d within.
          elim (unit.others k d within) [
            | inl same ↦ inl same
            | inr before ↦
                let lit = get_or clause.lits k d in
                let (place, below, it) = false_before at steps lit before in
                let mark = subst (λ (l : Lit). slice_get marks' l.variable ≡ Some true) (sym it.same) (covers clause named k d within) in
                inr (subst (Contains falses) it.same (apart_mark place it.step below it.at mark))
          ] in
          let now : IsUnit falses clause.lits (opposite_of f) = record { stands = unit.stands; without_value = free; others = others } in
          let then : Refutes known (f ∷ falses) (reverse hints) =
          walked.refutes (f ∷ falses)
          (record {
            among = λ lit h. elim (Contains-cons_cases falses f lit h) [ inl same ↦ subst (Contains (falses_of steps)) same f_false | inr it ↦ fits.among lit it ];
            kept = λ lit h. Contains-there falses f lit (fits.kept lit h);
            marked = λ place other below there mark.
                elim (cases_eq place at) [
                  | inl same ↦
                      let e : other ≡ step = same_Some other step (sym (subst (λ (n : ℕ). slice_get steps n ≡ Some other) same there) ∙ here) in
                      subst (λ (s : Step). Contains (f ∷ falses) s.falsified) (sym e) (Contains-here falses f)
                  | inr apart ↦ Contains-there falses f other.falsified (apart_mark place other (omega (arith, below, apart)) there (stay other.falsified.variable mark))
                ];
            late = λ place other above there h.
                elim (Contains-cons_cases falses f other.falsified h) [
                  | inl same ↦
                      absurd (let e : place ≡ at = one_place known slots steps keeps place at other step there here (ap (λ (l : Lit). l.variable) (sym same)) in omega (arith, e, above))
                  | inr it ↦ fits.late place other (omega (arith, above)) there it
                ];
          }) in
          rw reverse-append (Refutes-cons known falses reason (reverse hints) clause f named now then);
      from = λ lit h. let (place, other, above, there, e) = walked.from lit h in (place, other, omega (arith, above), there, e);
      decided = walked.decided;
      low = λ h. omega (arith, walked.low h);
      keep_le = walked.keep_le;
      last = walked.last;
    }

-- what the walk over the whole trail has learned
pub Learns-end :
    (known : List Clause) (steps : List Step) (start : ℕ) (marks : List Bool) (lits : List Lit) (hints hints' : List ℕ) (keep : ℕ)
    → Walked known steps start 0 marks lits hints keep → hints' ≡ reverse hints → Learns known steps start lits hints' keep
Learns-end known steps start marks lits hints hints' keep walked is =
    let among : (lit : Lit) → Contains lits lit → Contains (falses_of steps) lit =
    λ lit h. let (place, step, above, there, e) = walked.from lit h in subst (Contains (falses_of steps)) e (false_at steps place step there) in
    record {
      refutes =
          subst (Refutes known lits) (sym is)
          (walked.refutes lits
          (record {
            among = among;
            kept = λ lit h. h;
            marked = λ place step below there mark. absurd (omega (arith, below));
            late = λ place step above there h. h;
          }));
      among = among;
      decided = walked.decided;
      keep_le = walked.keep_le;
      last = walked.last;
    }

-- ---- marks

pub mark_kept : (marks : List Bool) (v u : ℕ) → v < length marks → slice_get marks u ≡ Some true → slice_get (set marks v true) u ≡ Some true
mark_kept marks v u within h =
    elim (cases_eq u v) [
      | inl same ↦ subst (λ (n : ℕ). slice_get (set marks v true) n ≡ Some true) (sym same) (slice_get-set_same marks v true within)
      | inr differ ↦ slice_get-set_other marks v u true differ ∙ h
    ]

pub AllMarked-set : (marks : List Bool) (lits : List Lit) (lit : Lit) → lit.variable < length marks → AllMarked marks lits → AllMarked (set marks lit.variable true) (lits ++ lit ∷ [])
AllMarked-set marks lits lit within all =
    All-push (λ (l : Lit). slice_get (set marks lit.variable true) l.variable ≡ Some true) lits lit
    (λ k d h. mark_kept marks lit.variable (get_or lits k d).variable within (all k d h))
    (slice_get-set_same marks lit.variable true within)
