-- What becomes of what was learned.
use Rattle.std.proofs.Common.{◌≡◌, ◌≢◌, ◌⊎◌, ◌∙◌, ℕ, ◌+◌, ◌-◌, ◌<◌, List, [], Option, Some, None, length, take, if◌then◌else◌, arith, refl, sym, ap, subst, inl, inr}
use Rattle.std.specs.Option.{IsSome}
use Rattle.std.specs.List.{All, slice_get, Contains}
use Rattle.std.specs.declared.vec.Vec.{Vec}
use Rattle.std.specs.declared.alloc.Global.{Global}
use Rattle.std.proofs.lemmas.Option.{none-some}
use Rattle.sat_check.specs.declared.clause.Lit.{Lit}
use Rattle.sat_check.specs.declared.clause.Clause.{Clause}
use Rattle.sat_check.specs.declared.log.Entry.{Entry}
use Rattle.sat_check.specs.Logs.{known_before, IsNew}
use Rattle.sat_check.specs.Literals.{Contains-nil}
use Rattle.search_base.specs.declared.trail.Step.{Step}
use Rattle.search_state.specs.declared.placed.PlacedTrail.{PlacedTrail}
use Rattle.search_state.specs.declared.watches.Watches.{Watches}
use Rattle.search_state.specs.declared.shelf.Card.{Card}
use Rattle.sat_search.specs.declared.solver.Solver.{Solver}
use Rattle.sat_search.specs.declared.solver.Learning.{Learning}
use Rattle.sat_search.specs.declared.solver.Learning.TheVariants.{Refuted, Asserted, Cleared, Conflict}
use Rattle.search_base.specs.Trails.{falses_of}
use Rattle.search_state.specs.Watches.{AllGuarded, flags_of, count_true}
use Rattle.sat_search.specs.Learning.{Learns}
use Rattle.search_state.specs.Shelves.{IsAside, IsShelf, IsCarded, list_at}
use Rattle.search_base.specs.Levels.{IsStart}
use Rattle.search_state.specs.States.{IsAhead}
use Rattle.sat_search.specs.Turns.{Holds, asides_of, IsLearned, LearnedIs, IsTaken, TakenIs, IsReduced}
use Rattle.search_base.specs.Entries.{some_lit}
use Rattle.search_state.specs.Guarding.{IsStuck-guarded}
use Rattle.sat_search.proofs.Moves.{learned_new}

-- where what was learned isn't empty, there is a level
pub has_level :
    (known : List Clause) (steps : List Step) (levels : List ℕ) (start base : ℕ) (lits : List Lit) (hints : List ℕ) (asserting : Option Lit) (keep : ℕ) → Learns known steps start lits hints asserting keep → lits ≢ []
    → IsStart levels start → ((levels ≡ []) × (base ≡ length steps)) ⊎ (slice_get levels 0 ≡ Some base) → (IsSome asserting → base < length steps)
    → (slice_get levels 0 ≡ Some base) × (slice_get levels (length levels - 1) ≡ Some start)
has_level known steps levels start base lits hints asserting keep learns ne is_start (inr at) leveled =
    elim is_start [
      | inl none ↦ absurd (none-some base (subst (λ (l : List ℕ). slice_get l 0 ≡ Some base) none.0 at))
      | inr last ↦ (at, last)
    ]
has_level known steps levels start base lits hints (Some lit) keep learns ne is_start (inl none) leveled = absurd (omega (arith, none.1, leveled refl))
has_level known steps levels start base lits hints None keep learns ne is_start (inl none) leveled =
    let (lit, stands) = some_lit lits ne in
    absurd (elim (learns.others lit stands) [
      | inl e ↦ none-some lit e
      | inr before ↦
          elim is_start [
            | inl empty ↦
                let nothing : keep ≡ 0 = omega (arith, learns.keep_le, empty.1) in
                Contains-nil lit (subst (λ (n : ℕ). Contains (falses_of (take n steps)) lit) nothing before)
            | inr last ↦ none-some start (subst (λ (l : List ℕ). slice_get l (length l - 1) ≡ Some start) none.0 last)
          ]
    ])

-- a shelf with the same cards serves as well
pub Holds-shelf :
    (clauses : List Clause) (a b : Solver) → b.placed ≡ a.placed → b.levels ≡ a.levels → b.watches ≡ a.watches → b.entries ≡ a.entries → b.analysis ≡ a.analysis
    → b.shelf.positive ≡ a.shelf.positive → b.shelf.negative ≡ a.shelf.negative → IsShelf (length a.shelf.positive.items) b.shelf → Holds clauses a → Holds clauses b
Holds-shelf clauses a b placed levels watches entries analysis positive negative shelf holds =
    record {
      state = rw (placed, levels, watches, entries) holds.state;
      ready = rw (placed, analysis) holds.ready;
      shelf = rw placed (subst (λ (n : ℕ). IsShelf n b.shelf) holds.shelf.positive_len shelf);
      carded = λ index clause named aside.
          let it =
          holds.carded index clause (subst (λ (es : List Entry). slice_get (known_before clauses es) index ≡ Some clause) entries named)
          (subst (λ (w : Watches). IsAside w.pairs.items index) watches aside) in
          let P : Vec (Vec Card Global) Global → Vec (Vec Card Global) Global → Type 0 =
          λ p n. Contains (list_at (if it.lit.positive then p.items else n.items) it.lit.variable) it.card in
          record {
            lit = it.lit;
            stands = it.stands;
            card = it.card;
            listed = subst (λ p. P p b.shelf.negative) (sym positive) (subst (λ n. P a.shelf.positive n) (sym negative) it.listed);
            same = it.same;
            signature = it.signature;
          };
    }

-- what was learned is new where nothing on the shelf lies within it
pub settled_new :
    (clauses : List Clause) (s : Solver) (start : ℕ) (entry : Entry) (asserting : Option Lit) (keep : ℕ) → Holds clauses s → slice_get s.levels.items (length s.levels.items - 1) ≡ Some start
    → Learns (known_before clauses s.entries) s.placed.trail.steps.items start entry.clause.lits entry.hints asserting keep → entry.clause.lits ≢ []
    → ((index : ℕ) (clause : Clause) → slice_get (known_before clauses s.entries) index ≡ Some clause → IsAside s.watches.pairs.items index → IsCarded s.shelf index clause.lits → ¬ All (Contains entry.clause.lits) clause.lits)
    → IsNew (known_before clauses s.entries) entry
settled_new clauses s start entry asserting keep holds last learns ne apart =
    let known = known_before clauses s.entries in
    let slots = s.placed.trail.slots.items in
    let steps = s.placed.trail.steps.items in
    let state = holds.state in
    learned_new known s.watches.pairs.items slots steps start entry asserting keep state.trail.keeps learns state.watched.pairs_len ne
    (IsStuck-guarded (length slots) known s.watches slots steps start state.trail.keeps state.watched (state.guarded (length s.levels.items - 1) start last))
    (λ index clause named aside. apart index clause named aside (holds.carded index clause named aside))

IsLearned-same : (clauses : List Clause) (old mid new : Solver) → mid.entries ≡ old.entries → mid.placed ≡ old.placed → mid.watches ≡ old.watches → IsLearned clauses mid new → IsLearned clauses old new
IsLearned-same clauses old mid new entries placed watches it =
    record {
      holds = it.holds;
      len = it.len ∙ ap (λ (p : PlacedTrail). length p.trail.slots.items) placed;
      nearer = subst (λ (w : Watches). (length new.entries ≡ length old.entries + 1) ⊎ ((length new.entries ≡ length old.entries) × (asides_of new + 1 ≡ count_true (flags_of w.pairs.items)))) watches
          (subst (λ (es : List Entry). (length new.entries ≡ length es + 1) ⊎ ((length new.entries ≡ length es) × (asides_of new + 1 ≡ asides_of mid))) entries it.nearer);
    }

IsLearned-taken : (clauses : List Clause) (old mid new : Solver) → mid.entries ≡ old.entries → mid.placed ≡ old.placed → mid.watches ≡ old.watches → IsTaken clauses mid new → IsLearned clauses old new
IsLearned-taken clauses old mid new entries placed watches it =
    record {
      holds = it.holds;
      len = it.len ∙ ap (λ (p : PlacedTrail). length p.trail.slots.items) placed;
      nearer = inr (ap (λ (es : List Entry). length es) (it.entries ∙ entries), it.fewer ∙ ap (λ (w : Watches). count_true (flags_of w.pairs.items)) watches);
    }

-- it doesn't matter for what is learned with which shelf it was
pub LearnedIs-same :
    (clauses : List Clause) (old mid new : Solver) (learning : Learning) → mid.entries ≡ old.entries → mid.placed ≡ old.placed → mid.watches ≡ old.watches → LearnedIs clauses mid new learning → LearnedIs clauses old new learning
LearnedIs-same clauses old mid new Refuted entries placed watches it =
    (it.0, it.1, it.2 ∙ ap (λ (es : List Entry). length es + 1) entries, it.3 ∙ ap (λ (p : PlacedTrail). length p.trail.slots.items) placed)
LearnedIs-same clauses old mid new Asserted entries placed watches it = (IsLearned-same clauses old mid new entries placed watches it.0, it.1)
LearnedIs-same clauses old mid new Cleared entries placed watches it = (IsLearned-same clauses old mid new entries placed watches it.0, it.1)
LearnedIs-same clauses old mid new (Conflict index) entries placed watches it = (IsLearned-same clauses old mid new entries placed watches it.0, it.1)

-- an entry that watches again brings the end nearer
pub LearnedIs-taken :
    (clauses : List Clause) (old mid new : Solver) (learning : Learning) → mid.entries ≡ old.entries → mid.placed ≡ old.placed → mid.watches ≡ old.watches → TakenIs clauses mid new learning → LearnedIs clauses old new learning
LearnedIs-taken clauses old mid new Refuted entries placed watches it = absurd it
LearnedIs-taken clauses old mid new Asserted entries placed watches it = (IsLearned-taken clauses old mid new entries placed watches it.0, it.1)
LearnedIs-taken clauses old mid new Cleared entries placed watches it = (IsLearned-taken clauses old mid new entries placed watches it.0, it.1)
LearnedIs-taken clauses old mid new (Conflict index) entries placed watches it = (IsLearned-taken clauses old mid new entries placed watches it.0, it.1)

-- entries may be set aside after one more was kept
pub IsLearned-reduced : (clauses : List Clause) (old mid new : Solver) → IsLearned clauses old mid → length mid.entries ≡ length old.entries + 1 → IsReduced clauses mid new → IsLearned clauses old new
IsLearned-reduced clauses old mid new learned more reduced =
    record {
      holds = reduced.holds;
      len = ap (λ (p : PlacedTrail). length p.trail.slots.items) reduced.placed ∙ learned.len;
      nearer = inl (ap (λ (es : List Entry). length es) reduced.entries ∙ more);
    }

pub IsAhead-reduced :
    (clauses : List Clause) (mid new : Solver) → IsReduced clauses mid new → IsAhead (known_before clauses mid.entries) mid.placed.trail.steps.items mid.watches → IsAhead (known_before clauses new.entries) new.placed.trail.steps.items new.watches
IsAhead-reduced clauses mid new reduced ahead =
    let steps = mid.placed.trail.steps.items in
    rw (reduced.entries, reduced.placed) (record { some = ahead.some; guarded = reduced.guarded (falses_of steps) (falses_of (take (length steps - 1) steps)) ahead.guarded })

pub AllGuarded-reduced :
    (clauses : List Clause) (mid new : Solver) → IsReduced clauses mid new
    → AllGuarded (known_before clauses mid.entries) mid.watches.pairs.items (falses_of mid.placed.trail.steps.items) (falses_of mid.placed.trail.steps.items)
    → AllGuarded (known_before clauses new.entries) new.watches.pairs.items (falses_of new.placed.trail.steps.items) (falses_of new.placed.trail.steps.items)
AllGuarded-reduced clauses mid new reduced guarded =
    let steps = mid.placed.trail.steps.items in
    rw (reduced.entries, reduced.placed) (reduced.guarded (falses_of steps) (falses_of steps) guarded)
