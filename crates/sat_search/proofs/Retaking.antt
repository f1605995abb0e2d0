-- An entry that was set aside watches again.
use Rattle.std.proofs.Common.{◌≡◌, ◌≢◌, ◌⊎◌, ◌∙◌, ℕ, zero, suc, ◌+◌, ◌<◌, ◌≤◌, Bool, true, false, List, [], ◌∷◌, ◌++◌, Option, Some, length, set, take, if◌then◌else◌, arith, refl, sym, ap, subst, inl, inr}
use Rattle.std.specs.Option.{IsSome}
use Rattle.std.specs.List.{slice_get, Contains}
use Rattle.std.proofs.lemmas.Bool.{cases_eq, false≢true}
use Rattle.std.proofs.lemmas.Option.{same_Some, none-some, slice_get_within}
use Rattle.std.proofs.lemmas.List.{length-set, map-set}
use Rattle.std.proofs.lemmas.List.Sums.{sum_by-cons, sum_by_push}
use Rattle.sat_check.specs.declared.clause.Lit.{Lit}
use Rattle.sat_check.specs.declared.clause.Clause.{Clause}
use Rattle.sat_check.specs.Clauses.{opposite_of}
use Rattle.sat_check.specs.Logs.{known_before, IsUnit}
use Rattle.sat_check.specs.Literals.{slice_get-set_same, slice_get-set_other}
use Rattle.search_base.specs.declared.trail.Step.{Step}
use Rattle.search_state.specs.declared.watches.Pair.{Pair}
use Rattle.search_state.specs.declared.watches.Watches.{Watches}
use Rattle.search_state.specs.declared.shelf.Shelf.{Shelf}
use Rattle.sat_search.specs.declared.solver.Solver.{Solver}
use Rattle.search_base.specs.Trails.{falses_of, IsStep}
use Rattle.search_state.specs.Watches.{IsTrail, IsPairOf, AreWatched, IsPut, Guards, AllGuarded, flags_of, count_true}
use Rattle.search_base.specs.Levels.{LevelsAre}
use Rattle.search_state.specs.States.{IsAhead}
use Rattle.search_state.specs.Shelves.{IsAside}
use Rattle.sat_search.specs.Turns.{AreCarded, Holds, IsTaken}
use Rattle.search_base.specs.Lists.{slice_get-map}
use Rattle.search_base.specs.Settling.{IsStep-single}
use Rattle.search_state.specs.Growing.{AreWatched-len}
use Rattle.search_state.specs.Flags.{IsFirm-set}
use Rattle.sat_search.proofs.Moves.{LevelsAre-cut}
use Rattle.sat_search.proofs.Keeping.{Assigned, Ahead}

-- ---- how many were set aside

abbrev weight : Bool → ℕ
weight flag = if flag then 1 else 0

pub count_true-unset : (flags : List Bool) (index : ℕ) → slice_get flags index ≡ Some true → count_true (set flags index false) + 1 ≡ count_true flags
count_true-unset [] index at = absurd (none-some true at)
count_true-unset (true ∷ flags) zero at = omega (arith, sum_by-cons weight false flags, sum_by-cons weight true flags)
count_true-unset (false ∷ flags) zero at = absurd (false≢true (same_Some false true at))
count_true-unset (flag ∷ flags) (suc index) at = omega (arith, sum_by-cons weight flag (set flags index false), sum_by-cons weight flag flags, count_true-unset flags index at)

pub count_true-push : (flags : List Bool) → count_true (flags ++ true ∷ []) ≡ count_true flags + 1
count_true-push flags = sum_by_push weight flags true

-- ---- a pair in place of another

pub set_cases : {X : Type 0} (xs : List X) (index : ℕ) (x : X) (k : ℕ) (y : X) → slice_get (set xs index x) k ≡ Some y → ((k ≡ index) × (x ≡ y)) ⊎ ((k ≢ index) × (slice_get xs k ≡ Some y))
set_cases xs index x k y at =
    elim (cases_eq k index) [
      | inl same ↦
          let within : index < length xs = omega (arith, slice_get_within (set xs index x) k y at, length-set xs index x, same) in
          inl (same, same_Some x y (sym (slice_get-set_same xs index x within) ∙ subst (λ (n : ℕ). slice_get (set xs index x) n ≡ Some y) same at))
      | inr differs ↦ inr (differs, sym (slice_get-set_other xs index k x differs) ∙ at)
    ]

pub flags-unset : (pairs : List Pair) (index : ℕ) (now : Pair) → IsAside pairs index → now.aside ≡ false → count_true (flags_of (set pairs index now)) + 1 ≡ count_true (flags_of pairs)
flags-unset pairs index now (pair, at, aside) hot =
    let f : Pair → Bool = λ p. p.aside in
    let flag : slice_get (flags_of pairs) index ≡ Some true = slice_get-map f pairs index pair at ∙ ap (λ (b : Bool). Some b) aside in
    let same : flags_of (set pairs index now) ≡ set (flags_of pairs) index false = map-set f pairs index now ∙ ap (λ (b : Bool). set (flags_of pairs) index b) hot in
    ap (λ (l : List Bool). count_true l + 1) same ∙ count_true-unset (flags_of pairs) index flag

pub AreWatched-put :
    (variables : ℕ) (known : List Clause) (clause : Clause) (old new : Watches) (index : ℕ) (pair : Pair) → AreWatched variables known old → slice_get known index ≡ Some clause
    → (pair.first ≢ pair.second → Contains clause.lits pair.first × Contains clause.lits pair.second) → IsPut old new index pair → AreWatched variables known new
AreWatched-put variables known clause old new index pair watched named stands put =
    record {
      positive_len = put.lists.positive_len ∙ watched.positive_len;
      negative_len = put.lists.negative_len ∙ watched.negative_len;
      pairs_len = ap (λ (l : List Pair). length l) put.pairs ∙ length-set old.pairs.items index pair ∙ watched.pairs_len;
      pairs = λ k c p named' at apart.
          elim (set_cases old.pairs.items index pair k p (subst (λ (l : List Pair). slice_get l k ≡ Some p) put.pairs at)) [
            | inl it ↦
                let apart' : pair.first ≢ pair.second = λ e. apart (subst (λ (q : Pair). q.first ≡ q.second) it.1 e) in
                let own : IsPairOf new index clause.lits pair =
                record { first_stands = (stands apart').0; second_stands = (stands apart').1; first_listed = put.lists.first_listed apart'; second_listed = put.lists.second_listed apart' } in
                let e : clause ≡ c = same_Some clause c (sym named ∙ subst (λ (n : ℕ). slice_get known n ≡ Some c) it.0 named') in
                subst (λ (n : ℕ). IsPairOf new n c.lits p) (sym it.0) (subst (λ (d : Clause). IsPairOf new index d.lits p) e (subst (λ (q : Pair). IsPairOf new index clause.lits q) it.1 own))
            | inr before ↦
                let own = watched.pairs k c p named' before.1 apart in
                record {
                  first_stands = own.first_stands;
                  second_stands = own.second_stands;
                  first_listed = put.lists.kept p.first k own.first_listed;
                  second_listed = put.lists.kept p.second k own.second_listed;
                }
          ];
      watchers = λ lit watcher h.
          elim (put.lists.among lit watcher h) [
            | inl before ↦ watched.watchers lit watcher before
            | inr it ↦
                let both = stands it.0 in
                record {
                  clause = clause;
                  named = subst (λ (n : ℕ). slice_get known n ≡ Some clause) (sym it.1) named;
                  stands = elim it.2 [ inl e ↦ subst (Contains clause.lits) (sym e) both.0 | inr e ↦ subst (Contains clause.lits) (sym e) both.1 ];
                }
          ];
    }

-- all others are guarded as they were
pub AllGuarded-others :
    (known : List Clause) (pairs pairs' : List Pair) (index : ℕ) (pair : Pair) (falses before : List Lit) → pairs' ≡ set pairs index pair → AllGuarded known pairs falses before
    → (k : ℕ) (c : Clause) (p : Pair) → slice_get known k ≡ Some c → slice_get pairs' k ≡ Some p → p.aside ≡ false → (k ≡ index) ⊎ Guards falses before p c.lits
AllGuarded-others known pairs pairs' index pair falses before is all k c p named at hot =
    elim (set_cases pairs index pair k p (subst (λ (l : List Pair). slice_get l k ≡ Some p) is at)) [ inl it ↦ inl it.0 | inr other ↦ inr (all k c p named other.1 hot) ]

-- what isn't set aside needs no card
pub AreCarded-taken : (known : List Clause) (pairs : List Pair) (index : ℕ) (pair : Pair) (shelf : Shelf) → pair.aside ≡ false → AreCarded known pairs shelf → AreCarded known (set pairs index pair) shelf
AreCarded-taken known pairs index pair shelf hot carded k c named (p, at, aside) =
    elim (set_cases pairs index pair k p at) [
      | inl it ↦ absurd (false≢true (sym hot ∙ subst (λ (q : Pair). q.aside ≡ true) (sym it.1) aside))
      | inr other ↦ carded k c named (p, other.1, aside)
    ]

-- ---- all decisions are taken back, and it watches again

pub record IsRetaken (clauses : List Clause) (old new : Solver) (number : ℕ) (clause : Clause) (pair : Pair) : Type 0 where
  pub taken : IsTaken clauses old new
  pub named : slice_get (known_before clauses new.entries) number ≡ Some clause
  pub at : slice_get new.watches.pairs.items number ≡ Some pair
  pub others : (k : ℕ) (c : Clause) (p : Pair) → slice_get (known_before clauses new.entries) k ≡ Some c → slice_get new.watches.pairs.items k ≡ Some p → p.aside ≡ false → (k ≡ number) ⊎ Guards (falses_of new.placed.trail.steps.items) (falses_of new.placed.trail.steps.items) p c.lits

pub Retaken :
    (clauses : List Clause) (old new : Solver) (base number : ℕ) (clause : Clause) (pair : Pair) → Holds clauses old → slice_get old.levels.items 0 ≡ Some base → slice_get (known_before clauses old.entries) number ≡ Some clause
    → IsAside old.watches.pairs.items number → pair.aside ≡ false → (pair.first ≢ pair.second → Contains clause.lits pair.first × Contains clause.lits pair.second)
    → IsTrail (known_before clauses old.entries) new.placed → length new.placed.trail.slots.items ≡ length old.placed.trail.slots.items → new.placed.trail.steps.items ≡ take base old.placed.trail.steps.items
    → new.levels.items ≡ [] → IsPut old.watches new.watches number pair → new.entries ≡ old.entries → new.shelf ≡ old.shelf → new.analysis ≡ old.analysis → IsRetaken clauses old new number clause pair
Retaken clauses old new base number clause pair holds base_at named aside hot stands trail len steps levels put entries shelf analysis =
    let known = known_before clauses old.entries in
    let state = holds.state in
    let before = old.placed.trail.steps.items in
    let n = length old.placed.trail.slots.items in
    let F = falses_of (take base before) in
    let are : LevelsAre clauses (take base before) [] = LevelsAre-cut clauses before old.levels.items 0 base state.levels_are base_at in
    let above : length clauses ≤ number = state.firm number aside.0 aside.1 aside.2 in
    let watched : AreWatched n known new.watches = AreWatched-put n known clause old.watches new.watches number pair state.watched named stands put in
    record {
      taken =
          record {
            holds =
                record {
                  state =
                      record {
                        trail = rw entries trail;
                        levels_are = rw (steps, levels) are;
                        watched = rw entries (AreWatched-len n (length new.placed.trail.slots.items) known new.watches (sym len) watched);
                        guarded = λ i a e. absurd (omega (arith, slice_get_within new.levels.items i a e, ap (λ (l : List ℕ). length l) levels));
                        firm = rw put.pairs (IsFirm-set clauses old.watches.pairs.items number pair above state.firm);
                        entries_are = rw (entries, len) state.entries_are;
                      };
                  ready = rw (len, analysis) holds.ready;
                  shelf = rw (len, shelf) holds.shelf;
                  carded = rw (entries, shelf, put.pairs) (AreCarded-taken known old.watches.pairs.items number pair old.shelf hot holds.carded);
                };
            len = len;
            entries = entries;
            fewer = rw put.pairs (flags-unset old.watches.pairs.items number pair aside hot);
          };
      named = rw entries named;
      at = rw put.pairs (slice_get-set_same old.watches.pairs.items number pair (slice_get_within old.watches.pairs.items number aside.0 aside.1));
      others = rw (entries, steps) (AllGuarded-others known old.watches.pairs.items new.watches.pairs.items number pair F F put.pairs (state.guarded 0 base base_at));
    }

-- where it is guarded, all are
pub Cleared-taken :
    (clauses : List Clause) (old new : Solver) (number : ℕ) (clause : Clause) (pair : Pair) → IsRetaken clauses old new number clause pair
    → Guards (falses_of new.placed.trail.steps.items) (falses_of new.placed.trail.steps.items) pair clause.lits
    → AllGuarded (known_before clauses new.entries) new.watches.pairs.items (falses_of new.placed.trail.steps.items) (falses_of new.placed.trail.steps.items)
Cleared-taken clauses old new number clause pair it own k c p named at hot =
    let F = falses_of new.placed.trail.steps.items in
    let known = known_before clauses new.entries in
    elim (it.others k c p named at hot) [
      | inl same ↦
          let e : clause ≡ c = same_Some clause c (sym it.named ∙ subst (λ (n : ℕ). slice_get known n ≡ Some c) same named) in
          let q : pair ≡ p = same_Some pair p (sym it.at ∙ subst (λ (n : ℕ). slice_get new.watches.pairs.items n ≡ Some p) same at) in
          subst (λ (d : Clause). Guards F F p d.lits) e (subst (λ (r : Pair). Guards F F r clause.lits) q own)
      | inr guards ↦ guards
    ]

step_is : (step : Step) (falsified : Lit) (reason : Option ℕ) → falsified ≡ step.falsified → reason ≡ step.reason → record { falsified = falsified; reason = reason } ≡ step
step_is step falsified reason a b =
    ap (λ (f : Lit). let s : Step = record { falsified = f; reason = reason } in s) a ∙ ap (λ (r : Option ℕ). let s : Step = record { falsified = step.falsified; reason = r } in s) b

-- where it has one literal left, that becomes true
pub Asserted-taken :
    (clauses : List Clause) (old mid new : Solver) (number : ℕ) (clause : Clause) (pair : Pair) (lit : Lit) (step : Step) → IsRetaken clauses old mid number clause pair
    → IsUnit (falses_of mid.placed.trail.steps.items) clause.lits lit → lit.variable < length mid.placed.trail.slots.items
    → step.falsified ≡ opposite_of lit → step.reason ≡ Some number → new.levels ≡ mid.levels → new.watches ≡ mid.watches → new.entries ≡ mid.entries → new.shelf ≡ mid.shelf → new.analysis ≡ mid.analysis
    → new.placed.trail.slots.items ≡ set mid.placed.trail.slots.items step.falsified.variable (record { assigned = true; positive = step.falsified.positive })
    → new.placed.trail.steps.items ≡ mid.placed.trail.steps.items ++ step ∷ [] → new.placed.places.items ≡ set mid.placed.places.items step.falsified.variable (length mid.placed.trail.steps.items)
    → IsTaken clauses old new × IsAhead (known_before clauses new.entries) new.placed.trail.steps.items new.watches
Asserted-taken clauses old mid new number clause pair lit step it unit below falsified reason levels watches entries shelf analysis slots steps places =
    let known = known_before clauses mid.entries in
    let before = mid.placed.trail.steps.items in
    let F = falses_of before in
    let n = length mid.placed.trail.slots.items in
    let made : IsStep n known F (record { falsified = opposite_of lit; reason = Some number }) = IsStep-single n known F clause lit number below it.named unit in
    let same_step : record { falsified = opposite_of lit; reason = Some number } ≡ step = step_is step (opposite_of lit) (Some number) (sym falsified) (sym reason) in
    let is_step : IsStep n known F step = subst (IsStep n known F) same_step made in
    let some : IsSome step.reason = subst (λ (o : Option ℕ). IsSome o) (sym reason) refl in
    let both = Assigned clauses mid new step it.taken.holds is_step some levels watches entries shelf analysis slots steps places in
    let ahead = Ahead known mid.watches.pairs.items before new.placed.trail.steps.items lit step number clause steps falsified some it.named unit.stands it.others in (
      record { holds = both.0; len = both.1 ∙ it.taken.len; entries = entries ∙ it.taken.entries; fewer = rw watches it.taken.fewer },
      rw (watches, entries) (record { some = ahead.0; guarded = ahead.1 }),
    )
