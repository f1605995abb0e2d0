-- Whole states, through the moves of a search.
use Rattle.std.proofs.Common.{◌≡◌, ◌≢◌, ◌⊎◌, ◌∙◌, ℕ, ◌+◌, ◌-◌, ◌<◌, ◌≤◌, true, false, List, [], ◌∷◌, ◌++◌, Option, Some, None, length, map, set, take, arith, refl, sym, ap, subst, inl, inr}
use Rattle.std.specs.Option.{IsSome}
use Rattle.std.specs.List.{slice_get, Contains}
use Rattle.std.proofs.lemmas.Bool.{cases_order, false≢true}
use Rattle.std.proofs.lemmas.Option.{same_Some, none-some, slice_get_within}
use Rattle.std.proofs.lemmas.List.{length-set, length-append, take_at}
use Rattle.std.proofs.lemmas.List.Elements.{All-cons, All-nil, Contains-push, Contains-append_left}
use Rattle.sat_check.specs.declared.clause.Lit.{Lit}
use Rattle.sat_check.specs.declared.clause.Clause.{Clause}
use Rattle.sat_check.specs.declared.log.Entry.{Entry}
use Rattle.sat_check.specs.Clauses.{opposite_of}
use Rattle.sat_check.specs.Logs.{known_before, IsUnit, IsNew}
use Rattle.search_base.specs.declared.trail.Slot.{Slot}
use Rattle.search_base.specs.declared.trail.Step.{Step}
use Rattle.search_state.specs.declared.placed.PlacedTrail.{PlacedTrail}
use Rattle.search_state.specs.declared.watches.Pair.{Pair}
use Rattle.search_state.specs.declared.watches.Watches.{Watches}
use Rattle.search_state.specs.declared.shelf.Shelf.{Shelf}
use Rattle.sat_search.specs.declared.solver.Solver.{Solver}
use Rattle.search_base.specs.Trails.{falses_of, IsStep, AllStuck}
use Rattle.search_base.specs.Propagation.{Extends}
use Rattle.search_state.specs.Watches.{IsTrail, AreWatched, WatchesMore, HasTrue, IsFree, Guards, AllGuarded, Within, flags_of, Advances}
use Rattle.sat_search.specs.Learning.{Learns}
use Rattle.search_base.specs.Levels.{LevelsAre, EntriesAre}
use Rattle.search_state.specs.States.{IsState, AllLevelsGuarded, IsAhead}
use Rattle.sat_search.specs.Turns.{AreCarded, Holds, IsKept, IsLearned}
use Rattle.search_base.specs.Lists.{slice_get-push, slice_get-push_cases, take_slice_get, take_within, take_whole, take-take}
use Rattle.search_base.specs.Places.{falses-take}
use Rattle.search_base.specs.Steps.{open_value, falses-push}
use Rattle.search_base.specs.Settling.{IsStep-single}
use Rattle.search_base.specs.Leveling.{LevelsAre-extend, LevelsAre-decide}
use Rattle.search_base.specs.Entries.{known_push, length-known, place_le}
use Rattle.search_state.specs.Growing.{Guards-grow, Extends-within, AreWatched-len, IsTrail-push}
use Rattle.search_state.specs.Flags.{flags-at, IsFirm-flags, IsFirm-push}
use Rattle.search_state.specs.Guarding.{AllStuck-guarded, AreWatched-push, AllGuarded-push, AllGuarded-kept, IsTrail-known}
use Rattle.sat_search.proofs.Moves.{learned_below, learned_follows, asserting_below, learned_unit, learned_free, not_propagated, EntriesAre-push, LevelsAre-cut}

-- a state is that of its parts
pub Holds-same :
    (clauses : List Clause) (a b : Solver) → b.placed ≡ a.placed → b.levels ≡ a.levels → b.watches ≡ a.watches → b.entries ≡ a.entries → b.shelf ≡ a.shelf → b.analysis ≡ a.analysis → Holds clauses a → Holds clauses b
Holds-same clauses a b placed levels watches entries shelf analysis holds =
    record {
      state = rw (placed, levels, watches, entries) holds.state;
      ready = rw (placed, analysis) holds.ready;
      shelf = rw (placed, shelf) holds.shelf;
      carded = rw (watches, entries, shelf) holds.carded;
    }

-- a longer trail has the same levels
levels_guarded :
    (clauses known : List Clause) (old new : List Step) (levels : List ℕ) (watches : Watches) → LevelsAre clauses old levels → Extends old new → AllLevelsGuarded known old levels watches → AllLevelsGuarded known new levels watches
levels_guarded clauses known old new levels watches are (more, is, by) guarded level place at =
    let below : place < length old = are.within level place at in
    let same : take place new ≡ take place old = ap (λ (s : List Step). take place s) is ∙ take_within place old more (omega arith) in
    subst (λ (s : List Step). AllGuarded known watches.pairs.items (falses_of s) (falses_of s)) (sym same) (guarded level place at)

pub State-advance :
    (clauses : List Clause) (old new : PlacedTrail) (levels : List ℕ) (watches watches' : Watches) (entries : List Entry) → IsState clauses old levels watches entries
    → Advances (known_before clauses entries) old new watches watches' → IsState clauses new levels watches' entries
State-advance clauses old new levels watches watches' entries state it =
    let known = known_before clauses entries in
    let steps = old.trail.steps.items in
    record {
      trail = it.trail;
      levels_are = LevelsAre-extend clauses steps new.trail.steps.items levels state.levels_are it.extends;
      watched = it.watched;
      firm = IsFirm-flags clauses watches.pairs.items watches'.pairs.items it.flags state.firm;
      guarded = levels_guarded clauses known steps new.trail.steps.items levels watches' state.levels_are it.extends
          (λ level place at. it.cuts (falses_of (take place steps)) (λ lit h. falses-take place steps lit h) (state.guarded level place at));
      entries_are = subst (λ (n : ℕ). EntriesAre n clauses entries) (sym it.len) state.entries_are;
    }

pub State-decide :
    (clauses : List Clause) (old new : PlacedTrail) (levels levels' : List ℕ) (watches : Watches) (entries : List Entry) (step : Step) (slot : Slot) (place : ℕ)
    → IsState clauses old levels watches entries → AllGuarded (known_before clauses entries) watches.pairs.items (falses_of old.trail.steps.items) (falses_of old.trail.steps.items)
    → slice_get old.trail.slots.items step.falsified.variable ≡ Some slot → slot.assigned ≡ false → step.reason ≡ None → place ≡ length old.trail.steps.items
    → new.trail.slots.items ≡ set old.trail.slots.items step.falsified.variable (record { assigned = true; positive = step.falsified.positive })
    → new.trail.steps.items ≡ old.trail.steps.items ++ step ∷ [] → new.places.items ≡ set old.places.items step.falsified.variable (length old.trail.steps.items) → levels' ≡ levels ++ place ∷ []
    → IsState clauses new levels' watches entries × IsAhead (known_before clauses entries) new.trail.steps.items watches × (length new.trail.slots.items ≡ length old.trail.slots.items)
State-decide clauses old new levels levels' watches entries step slot place state guarded at is_open no_reason is_place slots steps places levels_are =
    let known = known_before clauses entries in
    let n = length old.trail.slots.items in
    let before = old.trail.steps.items in
    let F = falses_of before in
    let len : length new.trail.slots.items ≡ n = ap (λ (s : List Slot). length s) slots ∙ length-set old.trail.slots.items step.falsified.variable (record { assigned = true; positive = step.falsified.positive }) in
    let is_step : IsStep n known F step =
    record {
      below = slice_get_within old.trail.slots.items step.falsified.variable slot at;
      without_value = open_value old.trail.slots.items F step.falsified slot state.trail.keeps.shows at is_open;
      reason = λ r e. absurd (none-some r (sym no_reason ∙ e));
    } in
    let whole : take (length before) before ≡ before = take_whole (length before) before (omega arith) in
    let stuck : AllStuck clauses F =
    subst (λ (s : List Step). AllStuck clauses (falses_of s)) whole
    (AllStuck-guarded n clauses (map (λ (e : Entry). e.clause) entries) watches old.trail.slots.items before (length before) state.trail.keeps state.watched state.firm
    (subst (λ (s : List Step). AllGuarded known watches.pairs.items (falses_of s) (falses_of s)) (sym whole) guarded)) in
    let are : LevelsAre clauses (before ++ step ∷ []) (levels ++ length before ∷ []) = LevelsAre-decide clauses before levels step state.levels_are stuck in
    let cut : take (length before) (before ++ step ∷ []) ≡ before = take_at before (step ∷ []) (length before) refl in
    let grown : Within F (falses_of (before ++ step ∷ [])) = λ lit h. subst (λ (l : List Lit). Contains l lit) (sym (falses-push before step)) (Contains-append_left F (step.falsified ∷ []) lit h) in (
      record {
        trail = IsTrail-push known old new step state.trail is_step slots steps places;
        levels_are = rw (steps, levels_are, is_place) are;
        watched = AreWatched-len n (length new.trail.slots.items) known watches (sym len) state.watched;
        firm = state.firm;
        guarded = λ level p e.
            let e' : slice_get (levels ++ place ∷ []) level ≡ Some p = subst (λ (l : List ℕ). slice_get l level ≡ Some p) levels_are e in
            subst (λ (s : List Step). AllGuarded known watches.pairs.items (falses_of (take p s)) (falses_of (take p s))) (sym steps)
            (elim (slice_get-push_cases levels place level p e') [
              | inl sooner ↦
                  let below : p < length before = state.levels_are.within level p sooner in
                  subst (λ (s : List Step). AllGuarded known watches.pairs.items (falses_of s) (falses_of s)) (sym (take_within p before (step ∷ []) (omega arith))) (state.guarded level p sooner)
              | inr last ↦
                  let q : p ≡ length before = sym last.1 ∙ is_place in
                  subst (λ (s : List Step). AllGuarded known watches.pairs.items (falses_of s) (falses_of s)) (sym (ap (λ (m : ℕ). take m (before ++ step ∷ [])) q ∙ cut)) guarded
            ]);
        entries_are = subst (λ (m : ℕ). EntriesAre m clauses entries) (sym len) state.entries_are;
      },
      record {
        some = omega (arith, ap (λ (s : List Step). length s) steps, length-append before (step ∷ []));
        guarded = λ k c p named paired hot.
            let less : length new.trail.steps.items - 1 ≡ length before = omega (arith, ap (λ (s : List Step). length s) steps, length-append before (step ∷ [])) in
            let same : take (length new.trail.steps.items - 1) new.trail.steps.items ≡ before = ap (λ (m : ℕ). take m new.trail.steps.items) less ∙ ap (λ (s : List Step). take (length before) s) steps ∙ cut in
            subst (λ (s : List Step). Guards (falses_of new.trail.steps.items) (falses_of s) p c.lits) (sym same)
            (subst (λ (s : List Step). Guards (falses_of s) F p c.lits) (sym steps) (Guards-grow F (falses_of (before ++ step ∷ [])) F p c.lits grown (guarded k c p named paired hot)));
      },
      len,
    )

-- where the flags are the same, so are the cards that have to be there
pub AreCarded-flags : (known : List Clause) (pairs pairs' : List Pair) (shelf : Shelf) → flags_of pairs' ≡ flags_of pairs → AreCarded known pairs shelf → AreCarded known pairs' shelf
AreCarded-flags known pairs pairs' shelf flags carded index clause named (pair', at', aside) =
    let (pair, at, same) = flags-at pairs pairs' flags index pair' at' in
    carded index clause named (pair, at, same ∙ aside)

-- a clause that isn't set aside needs no card
pub AreCarded-push :
    (known : List Clause) (clause : Clause) (pairs pairs' : List Pair) (pair : Pair) (shelf : Shelf) → length pairs ≡ length known → pairs' ≡ pairs ++ pair ∷ [] → pair.aside ≡ false
    → AreCarded known pairs shelf → AreCarded (known ++ clause ∷ []) pairs' shelf
AreCarded-push known clause pairs pairs' pair shelf len is hot carded index c named (p, at, aside) =
    elim (slice_get-push_cases pairs pair index p (subst (λ (l : List Pair). slice_get l index ≡ Some p) is at)) [
      | inl before ↦
          elim (slice_get-push_cases known clause index c named) [
            | inl sooner ↦ carded index c sooner (p, before, aside)
            | inr last ↦ absurd (omega (arith, slice_get_within pairs index p before, last.0, len))
          ]
      | inr last ↦ absurd (false≢true (sym hot ∙ subst (λ (q : Pair). q.aside ≡ true) (sym last.1) aside))
    ]

pub Kept :
    (clauses : List Clause) (old new : Solver) (entry : Entry) (asserting second : Lit) (start keep level place index : ℕ) → Holds clauses old
    → slice_get old.levels.items (length old.levels.items - 1) ≡ Some start → Learns (known_before clauses old.entries) old.placed.trail.steps.items start entry.clause.lits entry.hints (Some asserting) keep → IsNew (known_before clauses old.entries) entry
    → slice_get old.levels.items level ≡ Some place → ((i a : ℕ) → i < level → slice_get old.levels.items i ≡ Some a → a < keep)
    → (0 < keep → (step : Step) × (slice_get old.placed.trail.steps.items (keep - 1) ≡ Some step) × (step.falsified ≡ second)) → (keep ≡ 0 → second ≡ asserting)
    → IsTrail (known_before clauses old.entries) new.placed → length new.placed.trail.slots.items ≡ length old.placed.trail.slots.items → new.placed.trail.steps.items ≡ take place old.placed.trail.steps.items
    → new.levels.items ≡ take level old.levels.items → WatchesMore old.watches new.watches index (record { first = asserting; second = second; aside = false }) → index ≡ length clauses + length old.entries
    → new.entries ≡ old.entries ++ entry ∷ [] → new.shelf ≡ old.shelf → new.analysis ≡ old.analysis → IsKept clauses old new asserting keep place index
Kept clauses old new entry asserting second start keep level place index holds last learns is_new at earlier some none trail len steps levels more is_index entries shelf analysis =
    let known = known_before clauses old.entries in
    let clause = entry.clause in
    let state = holds.state in
    let slots = old.placed.trail.slots.items in
    let before = old.placed.trail.steps.items in
    let lv = old.levels.items in
    let n = length slots in
    let pair : Pair = record { first = asserting; second = second; aside = false } in
    let keeps = state.trail.keeps in
    let number : index ≡ length known = is_index ∙ sym (length-known clauses old.entries) in
    let known' : known_before clauses new.entries ≡ known ++ clause ∷ [] = ap (λ (es : List Entry). known_before clauses es) entries ∙ known_push clauses old.entries entry in
    let le : place ≤ start = place_le clauses before lv start level place state.levels_are last at in
    let stands : pair.first ≢ pair.second → Contains clause.lits asserting × Contains clause.lits second =
    λ apart.
    elim (cases_order keep 0) [
      | inl zero' ↦ absurd (apart (sym (none zero')))
      | inr other ↦
          let positive : 0 < keep = elim other [ inl less ↦ absurd (omega (arith, less)) | inr it ↦ it ] in
          let a = some positive in
          let b = learns.last positive in
          let same : b.0 ≡ a.0 = same_Some b.0 a.0 (sym b.1 ∙ a.1) in
          (learns.stands asserting refl, subst (Contains clause.lits) (ap (λ (s : Step). s.falsified) same ∙ a.2) b.2)
    ] in
    let watched : AreWatched n (known ++ clause ∷ []) new.watches = AreWatched-push n known clause old.watches new.watches index pair state.watched number stands more in
    let free : (p : ℕ) → p < keep → IsFree (falses_of (take p before)) pair =
    λ p less. let a = some (omega (arith, less)) in learned_free known slots before start entry asserting keep keeps learns second p a.0 a.1 a.2 less in
    let guarded_at : (i a : ℕ) → i < level → slice_get lv i ≡ Some a → AllGuarded (known ++ clause ∷ []) new.watches.pairs.items (falses_of (take a before)) (falses_of (take a before)) =
    λ i a less e. AllGuarded-push known clause old.watches.pairs.items new.watches.pairs.items pair (falses_of (take a before)) (falses_of (take a before)) state.watched.pairs_len more.pairs (state.guarded i a e) (λ _. inr (free a (earlier i a less e))) in
    let are : LevelsAre clauses (take place before) (take level lv) = LevelsAre-cut clauses before lv level place state.levels_are at in
    record {
      holds =
          record {
            state =
                record {
                  trail = rw known' (IsTrail-known known (clause ∷ []) new.placed trail);
                  levels_are = rw (steps, levels) are;
                  watched = rw known' (AreWatched-len n (length new.placed.trail.slots.items) (known ++ clause ∷ []) new.watches (sym len) watched);
                  guarded = λ i a e.
                      let e' = subst (λ (l : List ℕ). slice_get l i ≡ Some a) levels e in
                      let (less, there) = take_slice_get level lv i a e' in
                      let sooner : a < place = state.levels_are.rising i level a place less there at in
                      let same : take a new.placed.trail.steps.items ≡ take a before = ap (λ (s : List Step). take a s) steps ∙ take-take a place before (omega (arith, sooner)) in
                      rw (known', same) (guarded_at i a less there);
                  firm = rw more.pairs (IsFirm-push clauses old.watches.pairs.items pair (omega (arith, state.watched.pairs_len, length-known clauses old.entries)) state.firm);
                  entries_are =
                      rw (entries, len)
                      (EntriesAre-push n clauses old.entries entry state.entries_are (learned_below known slots before start entry (Some asserting) keep keeps learns)
                      (learned_follows known slots before start entry (Some asserting) keep keeps learns) is_new (not_propagated clauses (falses_of (take place before)) (state.levels_are.stuck level place at)));
                };
            ready = rw (len, analysis) holds.ready;
            shelf = rw (len, shelf) holds.shelf;
            carded = rw (known', shelf) (AreCarded-push known clause old.watches.pairs.items new.watches.pairs.items pair old.shelf state.watched.pairs_len more.pairs refl holds.carded);
          };
      len = len;
      more = ap (λ (es : List Entry). length es) entries ∙ length-append old.entries (entry ∷ []);
      steps = steps;
      clause = clause;
      last = known';
      index_is = number;
      guarded = AllGuarded-kept known old.watches.pairs.items new.watches.pairs.items pair (falses_of (take place before)) (falses_of (take place before)) state.watched.pairs_len more.pairs (state.guarded level place at);
      unit = λ above. learned_unit known slots before start entry asserting keep keeps learns place above le;
      free = λ less p paired.
          let number' : index ≡ length old.watches.pairs.items = number ∙ sym state.watched.pairs_len in
          let here : slice_get (old.watches.pairs.items ++ pair ∷ []) index ≡ Some pair = subst (λ (m : ℕ). slice_get (old.watches.pairs.items ++ pair ∷ []) m ≡ Some pair) (sym number') (slice_get-push old.watches.pairs.items pair) in
          let same : pair ≡ p = same_Some pair p (sym here ∙ subst (λ (l : List Pair). slice_get l index ≡ Some p) more.pairs paired) in
          subst (IsFree (falses_of (take place before))) same (free place less);
      below = asserting_below known slots before start entry asserting keep keeps learns;
    }

step_is : (step : Step) (falsified : Lit) (reason : Option ℕ) → falsified ≡ step.falsified → reason ≡ step.reason → record { falsified = falsified; reason = reason } ≡ step
step_is step falsified reason a b =
    ap (λ (f : Lit). let s : Step = record { falsified = f; reason = reason } in s) a ∙ ap (λ (r : Option ℕ). let s : Step = record { falsified = step.falsified; reason = r } in s) b

-- a literal becomes true by a clause
pub Assigned :
    (clauses : List Clause) (mid new : Solver) (step : Step) → Holds clauses mid → IsStep (length mid.placed.trail.slots.items) (known_before clauses mid.entries) (falses_of mid.placed.trail.steps.items) step → IsSome step.reason
    → new.levels ≡ mid.levels → new.watches ≡ mid.watches → new.entries ≡ mid.entries → new.shelf ≡ mid.shelf → new.analysis ≡ mid.analysis
    → new.placed.trail.slots.items ≡ set mid.placed.trail.slots.items step.falsified.variable (record { assigned = true; positive = step.falsified.positive })
    → new.placed.trail.steps.items ≡ mid.placed.trail.steps.items ++ step ∷ [] → new.placed.places.items ≡ set mid.placed.places.items step.falsified.variable (length mid.placed.trail.steps.items)
    → Holds clauses new × (length new.placed.trail.slots.items ≡ length mid.placed.trail.slots.items)
Assigned clauses mid new step holds is_step reason levels watches entries shelf analysis slots steps places =
    let known = known_before clauses mid.entries in
    let before = mid.placed.trail.steps.items in
    let state = holds.state in
    let n = length mid.placed.trail.slots.items in
    let len : length new.placed.trail.slots.items ≡ n = ap (λ (s : List Slot). length s) slots ∙ length-set mid.placed.trail.slots.items step.falsified.variable (record { assigned = true; positive = step.falsified.positive }) in
    let extends : Extends before new.placed.trail.steps.items = (step ∷ [], steps, All-cons (λ (s : Step). IsSome s.reason) step [] reason (All-nil (λ (s : Step). IsSome s.reason))) in (
      record {
        state =
            rw (levels, watches, entries)
            (record {
              trail = IsTrail-push known mid.placed new.placed step state.trail is_step slots steps places;
              levels_are = LevelsAre-extend clauses before new.placed.trail.steps.items mid.levels.items state.levels_are extends;
              watched = AreWatched-len n (length new.placed.trail.slots.items) known mid.watches (sym len) state.watched;
              guarded = levels_guarded clauses known before new.placed.trail.steps.items mid.levels.items mid.watches state.levels_are extends state.guarded;
              firm = state.firm;
              entries_are = subst (λ (m : ℕ). EntriesAre m clauses mid.entries) (sym len) state.entries_are;
            });
        ready = rw (len, analysis) holds.ready;
        shelf = rw (len, shelf) holds.shelf;
        carded = rw (watches, entries, shelf) holds.carded;
      },
      len,
    )

-- What was guarded stays so, and the clause by which the literal became true is guarded by that literal.
pub Ahead :
    (known : List Clause) (pairs : List Pair) (before after : List Step) (lit : Lit) (step : Step) (index : ℕ) (clause : Clause) → after ≡ before ++ step ∷ [] → step.falsified ≡ opposite_of lit → IsSome step.reason
    → slice_get known index ≡ Some clause → Contains clause.lits lit
    → ((k : ℕ) (c : Clause) (p : Pair) → slice_get known k ≡ Some c → slice_get pairs k ≡ Some p → p.aside ≡ false → (k ≡ index) ⊎ Guards (falses_of before) (falses_of before) p c.lits)
    → (0 < length after) × AllGuarded known pairs (falses_of after) (falses_of (take (length after - 1) after))
Ahead known pairs before after lit step index clause steps falsified reason named stands others =
    let F = falses_of before in
    let F' = falses_of after in
    let extends : Extends before after = (step ∷ [], steps, All-cons (λ (s : Step). IsSome s.reason) step [] reason (All-nil (λ (s : Step). IsSome s.reason))) in
    let cut : take (length before) (before ++ step ∷ []) ≡ before = take_at before (step ∷ []) (length before) refl in
    let less : length after - 1 ≡ length before = omega (arith, ap (λ (s : List Step). length s) steps, length-append before (step ∷ [])) in
    let same : take (length after - 1) after ≡ before = ap (λ (m : ℕ). take m after) less ∙ ap (λ (s : List Step). take (length before) s) steps ∙ cut in
    let now : Contains F' (opposite_of lit) =
    subst (λ (s : List Step). Contains (falses_of s) (opposite_of lit)) (sym steps) (rw (falses-push before step) (subst (λ (l : Lit). Contains (F ++ step.falsified ∷ []) l) falsified (Contains-push F step.falsified))) in (
      omega (arith, ap (λ (s : List Step). length s) steps, length-append before (step ∷ [])),
      subst (λ (s : List Step). AllGuarded known pairs F' (falses_of s)) (sym same)
          (λ k c p at paired hot.
          elim (others k c p at paired hot) [
            | inl is ↦
                let e : clause ≡ c = same_Some clause c (sym named ∙ subst (λ (m : ℕ). slice_get known m ≡ Some c) is at) in
                inl (subst (λ (d : Clause). HasTrue F' d.lits) e (lit, stands, now))
            | inr guards ↦ Guards-grow F F' F p c.lits (Extends-within before after extends) guards
          ]),
    )

-- where one literal is left, it becomes true
pub Asserts :
    (clauses : List Clause) (old mid new : Solver) (asserting : Lit) (keep place index : ℕ) (step : Step) → IsKept clauses old mid asserting keep place index → keep ≤ place
    → step.falsified ≡ opposite_of asserting → step.reason ≡ Some index → new.levels ≡ mid.levels → new.watches ≡ mid.watches → new.entries ≡ mid.entries → new.shelf ≡ mid.shelf → new.analysis ≡ mid.analysis
    → new.placed.trail.slots.items ≡ set mid.placed.trail.slots.items step.falsified.variable (record { assigned = true; positive = step.falsified.positive })
    → new.placed.trail.steps.items ≡ mid.placed.trail.steps.items ++ step ∷ [] → new.placed.places.items ≡ set mid.placed.places.items step.falsified.variable (length mid.placed.trail.steps.items)
    → IsLearned clauses old new × IsAhead (known_before clauses new.entries) new.placed.trail.steps.items new.watches
Asserts clauses old mid new asserting keep place index step kept above falsified reason levels watches entries shelf analysis slots steps places =
    let known = known_before clauses mid.entries in
    let before = mid.placed.trail.steps.items in
    let F = falses_of before in
    let n = length mid.placed.trail.slots.items in
    let clause = kept.clause in
    let named : slice_get known index ≡ Some clause =
    subst (λ (k : List Clause). slice_get k index ≡ Some clause) (sym kept.last)
    (subst (λ (m : ℕ). slice_get (known_before clauses old.entries ++ clause ∷ []) m ≡ Some clause) (sym kept.index_is) (slice_get-push (known_before clauses old.entries) clause)) in
    let unit = subst (λ (s : List Step). IsUnit (falses_of s) clause.lits asserting) (sym kept.steps) (kept.unit above) in
    let below : asserting.variable < n = omega (arith, kept.below, kept.len) in
    let made : IsStep n known F (record { falsified = opposite_of asserting; reason = Some index }) = IsStep-single n known F clause asserting index below named unit in
    let same_step : record { falsified = opposite_of asserting; reason = Some index } ≡ step = step_is step (opposite_of asserting) (Some index) (sym falsified) (sym reason) in
    let is_step : IsStep n known F step = subst (IsStep n known F) same_step made in
    let some : IsSome step.reason = subst (λ (o : Option ℕ). IsSome o) (sym reason) refl in
    let both = Assigned clauses mid new step kept.holds is_step some levels watches entries shelf analysis slots steps places in
    let ahead =
    Ahead known mid.watches.pairs.items before new.placed.trail.steps.items asserting step index clause steps falsified some named unit.stands
    (λ k c p at paired hot.
    elim (slice_get-push_cases (known_before clauses old.entries) clause k c (subst (λ (l : List Clause). slice_get l k ≡ Some c) kept.last at)) [
      | inl sooner ↦ inr (subst (λ (s : List Step). Guards (falses_of s) (falses_of s) p c.lits) (sym kept.steps) (kept.guarded k c p sooner paired hot))
      | inr last ↦ inl (last.0 ∙ sym kept.index_is)
    ]) in (
      record { holds = both.0; len = both.1 ∙ kept.len; nearer = inl (ap (λ (es : List Entry). length es) entries ∙ kept.more) },
      rw (watches, entries) (record { some = ahead.0; guarded = ahead.1 }),
    )

-- where two are left, all is guarded
pub Restarts :
    (clauses : List Clause) (old mid : Solver) (asserting : Lit) (keep place index : ℕ) → IsKept clauses old mid asserting keep place index → place < keep
    → AllGuarded (known_before clauses mid.entries) mid.watches.pairs.items (falses_of mid.placed.trail.steps.items) (falses_of mid.placed.trail.steps.items)
Restarts clauses old mid asserting keep place index kept less =
    subst (λ (s : List Step). AllGuarded (known_before clauses mid.entries) mid.watches.pairs.items (falses_of s) (falses_of s)) (sym kept.steps)
    (λ k c p at paired hot.
    elim (slice_get-push_cases (known_before clauses old.entries) kept.clause k c (subst (λ (l : List Clause). slice_get l k ≡ Some c) kept.last at)) [
      | inl sooner ↦ kept.guarded k c p sooner paired hot
      | inr last ↦ inr (kept.free less p (subst (λ (m : ℕ). slice_get mid.watches.pairs.items m ≡ Some p) (last.0 ∙ sym kept.index_is) paired))
    ])
