use Rattle.std.proofs.Common.{◌≡◌, ◌∙◌, ◌<◌, List, [], ◌∷◌, Some, None, length, arith, sym, ap, subst}
use Rattle.std.specs.List.{slice_get}
use Rattle.std.proofs.lemmas.Option.{slice_get-get_or}
use Rattle.std.proofs.lemmas.List.{length-append}
use Rattle.sat_check.specs.Logs.{known_before}
use Rattle.search_base.specs.declared.trail.Slot.{Slot}
use Rattle.search_base.specs.declared.trail.Step.{Step}
use Rattle.plain_search.specs.States.{IsAhead}
use Rattle.plain_search.proofs.States.{State-decide, IsAhead-decide}
use Rattle.plain_search.proofs.solver.Solver.decide.Goals as goal

pub returns-clause-state : goal.returns-clause-state
returns-clause-state c =
    let own = c.args.self.now in
    let slots = own.trail.slots.items in
    let steps = own.trail.steps.items in
    let variable = c.in-Some.variable in
    let slot = c.index.result.now in
    let (inside, is_open) = c.in-Some.ensures.found in
    let within : variable < length slots = rw c.as_slice.ensures.value at inside in
    let here : slice_get slots variable ≡ Some slot = slice_get-get_or slots variable slot within ∙ ap (λ (s : Slot). Some s) (sym c.index.ensures) in
    let open' = is_open slot (subst (λ (s : List Slot). slice_get s variable ≡ Some slot) (sym c.as_slice.ensures.value) here) in
    State-decide c.args.clauses.now slots c.assign.new.self.slots.items steps c.assign.new.self.steps.items own.levels.items c.push.new.self.items
    own.occurrences.positive.items own.occurrences.negative.items own.entries variable c.len-place.result slot.positive slot
    c.requires.state c.requires.stuck here open' (omega (arith, c.len-place.ensures, own.trail.steps.ok.0)) c.in_ok-assign.ensures.slots c.in_ok-assign.ensures.steps c.in_ok-push.ensures.items

pub returns-clause-decided : goal.returns-clause-decided
returns-clause-decided c _ =
    let own = c.args.self.now in
    let known = known_before c.args.clauses.now own.entries in
    let steps = own.trail.steps.items in
    let step : Step = record { falsified = record { variable = c.in-Some.variable; positive = c.index.result.now.positive }; reason = None } in
    let is = c.in_ok-assign.ensures.steps in (
      subst (λ (s : List Step). IsAhead known s) (sym is) (IsAhead-decide known steps step c.requires.stuck),
      ap length is ∙ length-append steps (step ∷ []),
    )
