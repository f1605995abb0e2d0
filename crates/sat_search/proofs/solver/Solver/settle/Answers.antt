use Rattle.std.proofs.Common.{◌≡◌, ◌≢◌, ◌∙◌, ℕ, ◌-◌, List, [], ◌∷◌, ◌++◌, Some, length, refl, sym, ap, subst}
use Rattle.std.specs.List.{All, slice_get, Contains}
use Rattle.std.proofs.lemmas.Bool.{false≢true}
use Rattle.std.proofs.lemmas.List.{length-append}
use Rattle.sat_check.specs.declared.clause.Lit.{Lit}
use Rattle.sat_check.specs.declared.log.Entry.{Entry}
use Rattle.sat_check.specs.Clauses.{AreBelow}
use Rattle.sat_check.specs.Logs.{known_before, IsNew, IsRefutation, EntriesAreBelow}
use Rattle.search_state.specs.declared.watches.Pair.{Pair}
use Rattle.sat_search.specs.declared.solver.Solver.{Solver}
use Rattle.search_state.specs.Shelves.{IsAside}
use Rattle.sat_search.specs.Turns.{Holds, IsLearned}
use Rattle.sat_search.proofs.Moves.{learned_below, learned_follows, refuted_push}
use Rattle.sat_search.proofs.Turning.{has_level, Holds-shelf, settled_new, IsLearned-reduced, IsAhead-reduced, AllGuarded-reduced}
use Rattle.sat_search.proofs.solver.Solver.settle.Goals as goal
use Rattle.sat_search.proofs.solver.Solver.settle.Goals.{Else-is_empty, After-within-found, In_default}

some_lits : (c : Else-is_empty) → c.args.learned.entry.clause.lits ≢ []
some_lits c = λ e. false≢true (sym c.if-is_empty.false ∙ c.is_empty.ensures.1 e)

levels_at :
    (c : Else-is_empty) → (slice_get c.args.self.now.levels.items 0 ≡ Some c.args.levels.base) × (slice_get c.args.self.now.levels.items (length c.args.self.now.levels.items - 1) ≡ Some c.args.levels.start)
levels_at c =
    let own = c.args.self.now in
    let it = c.args.learned in
    has_level (known_before c.args.clauses.now own.entries) own.placed.trail.steps.items own.levels.items c.args.levels.start c.args.levels.base it.entry.clause.lits it.entry.hints it.asserting it.keep c.requires.learns (some_lits c)
    c.requires.start c.requires.base c.requires.leveled

below : (c : Else-is_empty) → AreBelow (length c.args.self.now.placed.trail.slots.items) c.args.learned.entry.clause.lits
below c =
    let own = c.args.self.now in
    let it = c.args.learned in
    learned_below (known_before c.args.clauses.now own.entries) own.placed.trail.slots.items own.placed.trail.steps.items c.args.levels.start it.entry it.asserting it.keep c.requires.state.state.trail.keeps c.requires.learns

-- the search with the shelf as the test leaves it
abbrev tested : (c : After-within-found) → Solver
tested c =
    let own = c.args.self.now in
    record { placed = own.placed; levels = own.levels; watches = own.watches; entries = own.entries; shelf = c.within-found.new.self; analysis = own.analysis; order = own.order; restarts = own.restarts; stock = own.stock }

held : (c : After-within-found) → Holds c.args.clauses.now (tested c)
held c =
    let it = c.within-found.ensures in
    Holds-shelf c.args.clauses.now c.args.self.now (tested c) refl refl refl refl refl it.positive it.negative it.shelf c.requires.state

is_new :
    (c : In_default) → c.args.learned.entry.clause.lits ≢ [] → slice_get c.args.self.now.levels.items (length c.args.self.now.levels.items - 1) ≡ Some c.args.levels.start
    → IsNew (known_before c.args.clauses.now c.args.self.now.entries) c.args.learned.entry
is_new c ne last =
    let clauses = c.args.clauses.now in
    let own = c.args.self.now in
    let it = c.args.learned in
    settled_new clauses own c.args.levels.start it.entry it.asserting it.keep c.requires.state last c.requires.learns ne
    (λ index clause named aside carded all.
    c.in_default.ensures.none index clause (subst (λ (es : List Entry). slice_get (known_before clauses es) index ≡ Some clause) (sym c.as_slice-2.ensures) named)
    (subst (λ (ps : List Pair). IsAside ps index) (sym c.as_slice.ensures.value) aside) carded (subst (λ (ls : List Lit). All (Contains ls) clause.lits) (sym c.as_slice-3.ensures) all))

pub returns-then-is_empty : goal.returns-then-is_empty
returns-then-is_empty c =
    let own = c.args.self.now in
    let n = length own.placed.trail.slots.items in
    let entry = c.args.learned.entry in
    let both = refuted_push n c.args.clauses.now own.entries entry c.requires.state.state.entries_are c.requires.learns.refutes (c.is_empty.ensures.0 c.if-is_empty.true) in
    let entries : c.push.new.self ≡ own.entries ++ entry ∷ [] = c.in_ok-push.ensures.ok in (
      subst (λ (es : List Entry). IsRefutation c.args.clauses.now es) (sym entries) both.0,
      subst (λ (es : List Entry). EntriesAreBelow n es) (sym entries) both.1,
      ap (λ (es : List Entry). length es) entries ∙ length-append own.entries (entry ∷ []),
      refl,
    )

pub within-found-requires-clause-below : goal.within-found-requires-clause-below
within-found-requires-clause-below c =
    let it = below (goal.at.within-found-requires-clause-below c).Else-is_empty in
    subst (λ (ls : List Lit). AreBelow (length c.args.self.now.shelf.positive.items) ls) (sym c.as_slice-3.ensures)
    (subst (λ (n : ℕ). AreBelow n c.args.learned.entry.clause.lits) (sym c.requires.state.shelf.positive_len) it)

pub take_up-requires-clause-state : goal.take_up-requires-clause-state
take_up-requires-clause-state c = held (goal.at.take_up-requires-clause-state c).After-within-found

pub take_up-requires-clause-base : goal.take_up-requires-clause-base
take_up-requires-clause-base c = (levels_at (goal.at.take_up-requires-clause-base c).Else-is_empty).0

pub keep_early-requires-clause-state : goal.keep_early-requires-clause-state
keep_early-requires-clause-state c = held (goal.at.keep_early-requires-clause-state c).After-within-found

pub keep_early-requires-clause-base : goal.keep_early-requires-clause-base
keep_early-requires-clause-base c = (levels_at (goal.at.keep_early-requires-clause-base c).Else-is_empty).0

pub keep_early-requires-clause-entry_below : goal.keep_early-requires-clause-entry_below
keep_early-requires-clause-entry_below c = below (goal.at.keep_early-requires-clause-entry_below c).Else-is_empty

pub keep_early-requires-clause-follows : goal.keep_early-requires-clause-follows
keep_early-requires-clause-follows c =
    let own = c.args.self.now in
    let it = c.args.learned in
    learned_follows (known_before c.args.clauses.now own.entries) own.placed.trail.slots.items own.placed.trail.steps.items c.args.levels.start it.entry it.asserting it.keep c.requires.state.state.trail.keeps c.requires.learns

pub keep_early-requires-clause-new : goal.keep_early-requires-clause-new
keep_early-requires-clause-new c = let e = (goal.at.keep_early-requires-clause-new c).Else-is_empty in is_new (goal.at.keep_early-requires-clause-new c).In_default (some_lits e) (levels_at e).1

pub restart-requires-clause-state : goal.restart-requires-clause-state
restart-requires-clause-state c = held (goal.at.restart-requires-clause-state c).After-within-found

pub restart-requires-clause-new : goal.restart-requires-clause-new
restart-requires-clause-new c = let e = (goal.at.restart-requires-clause-new c).Else-is_empty in is_new (goal.at.restart-requires-clause-new c).In_default (some_lits e) (levels_at e).1

pub returns-then-levels-keep : goal.returns-then-levels-keep
returns-then-levels-keep c =
    let clauses = c.args.clauses.now in
    let mid = c.restart.new.self in
    let new = c.reduce.new.self in
    let it = c.in_ok-restart.ensures in
    let learned : IsLearned clauses c.args.self.now mid = record { holds = it.learned.0.holds; len = it.learned.0.len; nearer = it.learned.0.nearer } in
    (IsLearned-reduced clauses c.args.self.now mid new learned it.more c.in_ok-reduce.ensures, AllGuarded-reduced clauses mid new c.in_ok-reduce.ensures it.learned.1)

pub jump-requires-clause-state : goal.jump-requires-clause-state
jump-requires-clause-state c = held (goal.at.jump-requires-clause-state c).After-within-found

pub jump-requires-clause-new : goal.jump-requires-clause-new
jump-requires-clause-new c = let e = (goal.at.jump-requires-clause-new c).Else-is_empty in is_new (goal.at.jump-requires-clause-new c).In_default (some_lits e) (levels_at e).1

pub returns : goal.returns
returns c =
    let clauses = c.args.clauses.now in
    let mid = c.jump.new.self in
    let new = c.reduce-2.new.self in
    let it = c.in_ok-jump.ensures in
    let learned : IsLearned clauses c.args.self.now mid = record { holds = it.learned.0.holds; len = it.learned.0.len; nearer = it.learned.0.nearer } in
    (IsLearned-reduced clauses c.args.self.now mid new learned it.more c.in_ok-reduce-2.ensures, IsAhead-reduced clauses mid new c.in_ok-reduce-2.ensures it.learned.1)
