use Rattle.std.proofs.Common.{◌≡◌, ◌∙◌, ℕ, ◌+◌, List, [], ◌∷◌, Some, None, length, arith, refl, sym, ap, subst}
use Rattle.std.specs.List.{slice_get}
use Rattle.std.proofs.lemmas.List.{length-append}
use Rattle.sat_check.specs.Logs.{known_before}
use Rattle.search_base.specs.declared.trail.Step.{Step}
use Rattle.search_state.specs.declared.placed.PlacedTrail.{PlacedTrail}
use Rattle.search_base.specs.Trails.{falses_of}
use Rattle.search_state.specs.Watches.{AllGuarded}
use Rattle.search_state.specs.States.{IsState, IsAhead}
use Rattle.sat_search.specs.Marks.{IsReady}
use Rattle.search_state.specs.Shelves.{IsShelf}
use Rattle.sat_search.specs.Turns.{Holds}
use Rattle.sat_search.proofs.Keeping.{Holds-same, State-decide}
use Rattle.sat_search.proofs.solver.Solver.decide.Goals as goal
use Rattle.sat_search.proofs.solver.Solver.decide.Goals.{In_ok-push}

decided :
    (c : In_ok-push)
    → IsState c.args.clauses.now c.assign.new.self c.push.new.self.items c.next_variable.new.self.watches c.next_variable.new.self.entries × IsAhead (known_before c.args.clauses.now c.next_variable.new.self.entries) c.assign.new.self.trail.steps.items c.next_variable.new.self.watches
    × (length c.assign.new.self.trail.slots.items ≡ length c.next_variable.new.self.placed.trail.slots.items)
decided c =
    let old = c.args.self.now in
    let own = c.next_variable.new.self in
    let it = c.in-Some.ensures in
    let variable = c.in-Some.variable in
    let (slot, at, is_open) = it.found in
    let holds : Holds c.args.clauses.now own = Holds-same c.args.clauses.now old own it.placed it.levels it.watches it.entries it.shelf it.analysis c.requires.state in
    let guarded : AllGuarded (known_before c.args.clauses.now own.entries) own.watches.pairs.items (falses_of own.placed.trail.steps.items) (falses_of own.placed.trail.steps.items) =
    rw (it.placed, it.watches, it.entries) c.requires.guarded in
    let made = c.in_ok-assign.ensures in
    let step : Step = record { falsified = record { variable = variable; positive = c.index.result.now.positive }; reason = None } in
    State-decide c.args.clauses.now own.placed c.assign.new.self own.levels.items c.push.new.self.items own.watches own.entries step slot c.len-place.result holds.state guarded
    (subst (λ (p : PlacedTrail). slice_get p.trail.slots.items variable ≡ Some slot) (sym it.placed) at) is_open refl (omega (arith, c.len-place.ensures, own.placed.trail.steps.ok.0)) made.slots made.steps made.places c.in_ok-push.ensures.items

pub returns-clause-state : goal.returns-clause-state
returns-clause-state c =
    let it = c.in-Some.ensures in
    let both = decided (goal.at.returns-clause-state c).In_ok-push in
    let holds : Holds c.args.clauses.now c.next_variable.new.self =
    Holds-same c.args.clauses.now c.args.self.now c.next_variable.new.self it.placed it.levels it.watches it.entries it.shelf it.analysis c.requires.state in
    record {
      state = both.0;
      ready = subst (λ (n : ℕ). IsReady n c.next_variable.new.self.analysis) (sym both.2) holds.ready;
      shelf = subst (λ (n : ℕ). IsShelf n c.next_variable.new.self.shelf) (sym both.2) holds.shelf;
      carded = holds.carded;
    }

pub returns-clause-decided : goal.returns-clause-decided
returns-clause-decided c _ =
    let both = decided (goal.at.returns-clause-decided c).In_ok-push in
    let own = c.next_variable.new.self in
    let step : Step = record { falsified = record { variable = c.in-Some.variable; positive = c.index.result.now.positive }; reason = None } in (
      both.1,
      ap (λ (s : List Step). length s) c.in_ok-assign.ensures.steps ∙ length-append own.placed.trail.steps.items (step ∷ []) ∙ ap (λ (p : PlacedTrail). length p.trail.steps.items + 1) c.in-Some.ensures.placed,
    )
