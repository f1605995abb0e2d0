-- Entries that are set aside.
use Rattle.std.proofs.Common.{◌≡◌, ◌∙◌, ℕ, zero, suc, ◌+◌, ◌-◌, ◌≤◌, true, List, [], ◌∷◌, ◌++◌, Some, length, map, set, take, arith, sym, ap, subst, inl, inr}
use Rattle.std.specs.List.{slice_get}
use Rattle.std.proofs.lemmas.Bool.{false≢true}
use Rattle.std.proofs.lemmas.Option.{same_Some, slice_get_within}
use Rattle.std.proofs.lemmas.List.{length-append}
use Rattle.sat_check.specs.declared.clause.Lit.{Lit}
use Rattle.sat_check.specs.declared.clause.Clause.{Clause}
use Rattle.sat_check.specs.declared.log.Entry.{Entry}
use Rattle.sat_check.specs.Clauses.{AreBelow}
use Rattle.sat_check.specs.Logs.{known_before, Follows, IsNew}
use Rattle.search_state.specs.declared.watches.Pair.{Pair}
use Rattle.search_state.specs.declared.shelf.Shelf.{Shelf}
use Rattle.sat_search.specs.declared.solver.Solver.{Solver}
use Rattle.search_base.specs.Trails.{falses_of}
use Rattle.search_state.specs.Watches.{AreWatched, WatchesMore, IsPut, AllGuarded}
use Rattle.search_state.specs.Shelves.{IsShelf, IsCarded}
use Rattle.sat_search.specs.Turns.{AreCarded, Holds, IsKeptAside, IsReduced}
use Rattle.search_base.specs.Lists.{slice_get-map, slice_get-push, slice_get-push_cases}
use Rattle.search_base.specs.Entries.{known_push, length-known}
use Rattle.search_state.specs.Flags.{IsFirm-set, IsFirm-push}
use Rattle.search_state.specs.Guarding.{AreWatched-push, AllGuarded-push, IsTrail-known}
use Rattle.sat_search.proofs.Moves.{not_propagated, EntriesAre-push}
use Rattle.sat_search.proofs.Keeping.{Holds-same}
use Rattle.sat_search.proofs.Retaking.{set_cases, AreWatched-put}

slice_get-append_right : {X : Type 0} (xs ys : List X) (i : ℕ) → length xs ≤ i → slice_get (xs ++ ys) i ≡ slice_get ys (i - length xs)
slice_get-append_right [] ys i le = ap (λ (n : ℕ). slice_get ys n) (omega arith)
slice_get-append_right (x ∷ xs) ys zero le = absurd (omega (arith, le))
slice_get-append_right (x ∷ xs) ys (suc i) le = slice_get-append_right xs ys i (omega (arith, le)) ∙ ap (λ (n : ℕ). slice_get ys n) (omega arith)

-- the clause of an entry is known
pub known_entry :
    (clauses : List Clause) (entries : List Entry) (number : ℕ) (entry : Entry) → length clauses ≤ number → slice_get entries (number - length clauses) ≡ Some entry
    → slice_get (known_before clauses entries) number ≡ Some entry.clause
known_entry clauses entries number entry above at =
    let f : Entry → Clause = λ e. e.clause in
    slice_get-append_right clauses (map f entries) number above ∙ slice_get-map f entries (number - length clauses) entry at

-- ---- one is set aside

AllGuarded-aside :
    (known : List Clause) (pairs : List Pair) (index : ℕ) (pair : Pair) (falses before : List Lit) → pair.aside ≡ true → AllGuarded known pairs falses before → AllGuarded known (set pairs index pair) falses before
AllGuarded-aside known pairs index pair falses before cold all k c p named at hot =
    elim (set_cases pairs index pair k p at) [
      | inl it ↦ absurd (false≢true (sym hot ∙ subst (λ (q : Pair). q.aside ≡ true) it.1 cold))
      | inr other ↦ all k c p named other.1 hot
    ]

AreCarded-aside :
    (known : List Clause) (clause : Clause) (pairs : List Pair) (index : ℕ) (pair : Pair) (old new : Shelf) → slice_get known index ≡ Some clause → AreCarded known pairs old
    → ((other : ℕ) (others : List Lit) → IsCarded old other others → IsCarded new other others) → IsCarded new index clause.lits → AreCarded known (set pairs index pair) new
AreCarded-aside known clause pairs index pair old new named carded kept own k c named' (p, at, aside) =
    elim (set_cases pairs index pair k p at) [
      | inl it ↦
          let e : clause ≡ c = same_Some clause c (sym named ∙ subst (λ (n : ℕ). slice_get known n ≡ Some c) it.0 named') in
          subst (λ (n : ℕ). IsCarded new n c.lits) (sym it.0) (subst (λ (d : Clause). IsCarded new index d.lits) e own)
      | inr other ↦ kept k c.lits (carded k c named' (p, other.1, aside))
    ]

pub SetAside :
    (clauses : List Clause) (old new : Solver) (number : ℕ) (clause : Clause) (pair : Pair) → Holds clauses old → length clauses ≤ number → slice_get (known_before clauses old.entries) number ≡ Some clause
    → pair.first ≡ pair.second → pair.aside ≡ true → IsPut old.watches new.watches number pair → IsShelf (length old.shelf.positive.items) new.shelf
    → ((other : ℕ) (others : List Lit) → IsCarded old.shelf other others → IsCarded new.shelf other others) → IsCarded new.shelf number clause.lits
    → new.placed ≡ old.placed → new.levels ≡ old.levels → new.entries ≡ old.entries → new.analysis ≡ old.analysis → IsReduced clauses old new
SetAside clauses old new number clause pair holds above named same cold put shelf kept carded placed levels entries analysis =
    let known = known_before clauses old.entries in
    let state = holds.state in
    let n = length old.placed.trail.slots.items in
    let watched : AreWatched n known new.watches = AreWatched-put n known clause old.watches new.watches number pair state.watched named (λ apart. absurd (apart same)) put in
    let guards : (falses before : List Lit) → AllGuarded known old.watches.pairs.items falses before → AllGuarded known new.watches.pairs.items falses before =
    λ falses before all. rw put.pairs (AllGuarded-aside known old.watches.pairs.items number pair falses before cold all) in
    record {
      holds =
          record {
            state =
                record {
                  trail = rw (placed, entries) state.trail;
                  levels_are = rw (placed, levels) state.levels_are;
                  watched = rw (placed, entries) watched;
                  guarded = rw (placed, levels, entries)
                      (λ (i a : ℕ) (e : slice_get old.levels.items i ≡ Some a). guards (falses_of (take a old.placed.trail.steps.items)) (falses_of (take a old.placed.trail.steps.items)) (state.guarded i a e));
                  firm = rw put.pairs (IsFirm-set clauses old.watches.pairs.items number pair above state.firm);
                  entries_are = rw (placed, entries) state.entries_are;
                };
            ready = rw (placed, analysis) holds.ready;
            shelf = rw placed (subst (λ (m : ℕ). IsShelf m new.shelf) holds.shelf.positive_len shelf);
            carded = rw (entries, put.pairs) (AreCarded-aside known clause old.watches.pairs.items number pair old.shelf new.shelf named holds.carded kept carded);
          };
      placed = placed;
      entries = entries;
      guarded = guards;
    }

-- ---- several are

pub Reduced-same :
    (clauses : List Clause) (a b : Solver) → b.placed ≡ a.placed → b.levels ≡ a.levels → b.watches ≡ a.watches → b.entries ≡ a.entries → b.shelf ≡ a.shelf → b.analysis ≡ a.analysis → Holds clauses a → IsReduced clauses a b
Reduced-same clauses a b placed levels watches entries shelf analysis holds =
    record {
      holds = Holds-same clauses a b placed levels watches entries shelf analysis holds;
      placed = placed;
      entries = entries;
      guarded = λ falses before all. rw watches all;
    }

pub Reduced-both : (clauses : List Clause) (a b c : Solver) → IsReduced clauses a b → IsReduced clauses b c → IsReduced clauses a c
Reduced-both clauses a b c first second =
    record {
      holds = second.holds;
      placed = second.placed ∙ first.placed;
      entries = second.entries ∙ first.entries;
      guarded = λ falses before all.
          let then : AllGuarded (known_before clauses a.entries) b.watches.pairs.items falses before → AllGuarded (known_before clauses a.entries) c.watches.pairs.items falses before =
          subst (λ (es : List Entry). AllGuarded (known_before clauses es) b.watches.pairs.items falses before → AllGuarded (known_before clauses es) c.watches.pairs.items falses before) first.entries (second.guarded falses before) in
          then (first.guarded falses before all);
    }

-- ---- an entry is kept as one that was set aside

AreCarded-kept :
    (known : List Clause) (clause : Clause) (pairs : List Pair) (pair : Pair) (number : ℕ) (old new : Shelf) → length pairs ≡ length known → number ≡ length known → AreCarded known pairs old
    → ((other : ℕ) (others : List Lit) → IsCarded old other others → IsCarded new other others) → IsCarded new number clause.lits → AreCarded (known ++ clause ∷ []) (pairs ++ pair ∷ []) new
AreCarded-kept known clause pairs pair number old new len is carded kept own k c named (p, at, aside) =
    elim (slice_get-push_cases known clause k c named) [
      | inl sooner ↦
          elim (slice_get-push_cases pairs pair k p at) [
            | inl before ↦ kept k c.lits (carded k c sooner (p, before, aside))
            | inr last ↦ absurd (omega (arith, slice_get_within known k c sooner, last.0, len))
          ]
      | inr last ↦ subst (λ (n : ℕ). IsCarded new n c.lits) (is ∙ sym last.0) (subst (λ (d : Clause). IsCarded new number d.lits) last.1 own)
    ]

pub KeptAside :
    (clauses : List Clause) (old new : Solver) (entry : Entry) (base number : ℕ) (pair : Pair) → Holds clauses old → slice_get old.levels.items 0 ≡ Some base → AreBelow (length old.placed.trail.slots.items) entry.clause.lits
    → Follows (known_before clauses old.entries) entry → IsNew (known_before clauses old.entries) entry → pair.first ≡ pair.second → pair.aside ≡ true → number ≡ length clauses + length old.entries
    → WatchesMore old.watches new.watches number pair → new.entries ≡ old.entries ++ entry ∷ [] → IsShelf (length old.shelf.positive.items) new.shelf
    → ((other : ℕ) (others : List Lit) → IsCarded old.shelf other others → IsCarded new.shelf other others) → IsCarded new.shelf number entry.clause.lits
    → new.placed ≡ old.placed → new.levels ≡ old.levels → new.analysis ≡ old.analysis → IsKeptAside clauses old new number
KeptAside clauses old new entry base number pair holds base_at below follows is_new same cold is_number more entries shelf kept carded placed levels analysis =
    let known = known_before clauses old.entries in
    let clause = entry.clause in
    let state = holds.state in
    let steps = old.placed.trail.steps.items in
    let pairs = old.watches.pairs.items in
    let n = length old.placed.trail.slots.items in
    let number_is : number ≡ length known = is_number ∙ sym (length-known clauses old.entries) in
    let known' : known_before clauses new.entries ≡ known ++ clause ∷ [] = ap (λ (es : List Entry). known_before clauses es) entries ∙ known_push clauses old.entries entry in
    let watched : AreWatched n (known ++ clause ∷ []) new.watches = AreWatched-push n known clause old.watches new.watches number pair state.watched number_is (λ apart. absurd (apart same)) more in
    let guarded_at : (i a : ℕ) → slice_get old.levels.items i ≡ Some a → AllGuarded (known ++ clause ∷ []) new.watches.pairs.items (falses_of (take a steps)) (falses_of (take a steps)) =
    λ i a e.
    AllGuarded-push known clause pairs new.watches.pairs.items pair (falses_of (take a steps)) (falses_of (take a steps)) state.watched.pairs_len more.pairs (state.guarded i a e) (λ hot. absurd (false≢true (sym hot ∙ cold))) in
    record {
      holds =
          record {
            state =
                record {
                  trail = rw (placed, known') (IsTrail-known known (clause ∷ []) old.placed state.trail);
                  levels_are = rw (placed, levels) state.levels_are;
                  watched = rw (placed, known') watched;
                  guarded = rw (placed, levels, known') guarded_at;
                  firm = rw more.pairs (IsFirm-push clauses pairs pair (omega (arith, state.watched.pairs_len, length-known clauses old.entries)) state.firm);
                  entries_are =
                      rw (placed, entries)
                      (EntriesAre-push n clauses old.entries entry state.entries_are below follows is_new (not_propagated clauses (falses_of (take base steps)) (state.levels_are.stuck 0 base base_at)));
                };
            ready = rw (placed, analysis) holds.ready;
            shelf = rw placed (subst (λ (m : ℕ). IsShelf m new.shelf) holds.shelf.positive_len shelf);
            carded = rw (known', more.pairs) (AreCarded-kept known clause pairs pair number old.shelf new.shelf state.watched.pairs_len number_is holds.carded kept carded);
          };
      placed = placed;
      levels = levels;
      more = ap (λ (es : List Entry). length es) entries ∙ length-append old.entries (entry ∷ []);
      aside =
          rw more.pairs
          (pair, subst (λ (m : ℕ). slice_get (pairs ++ pair ∷ []) m ≡ Some pair) (state.watched.pairs_len ∙ sym number_is) (slice_get-push pairs pair), cold);
    }
