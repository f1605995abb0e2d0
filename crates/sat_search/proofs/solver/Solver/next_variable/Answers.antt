use Rattle.std.proofs.Common.{◌≡◌, ◌∙◌, ◌<◌, List, Some, length, sym, ap, subst}
use Rattle.std.specs.List.{slice_get}
use Rattle.sat_check.specs.Literals.{at_within}
use Rattle.search_base.specs.declared.trail.Slot.{Slot}
use Rattle.search_state.specs.declared.placed.PlacedTrail.{PlacedTrail}
use Rattle.sat_search.proofs.solver.Solver.next_variable.Goals as goal

pub returns-clause-found : goal.returns-clause-found
returns-clause-found c =
    let slots = c.args.self.now.placed.trail.slots.items in
    let v = c.in_ok-variable.variable in
    let same = c.as_slice.ensures.value ∙ ap (λ (p : PlacedTrail). p.trail.slots.items) c.loop-variable.invariant.placed in
    let (inside, is_open) = c.in_ok-variable.ensures.found in
    let within : v < length slots = rw same at inside in
    let (slot, at) = at_within slots v within in
    (slot, at, is_open slot (subst (λ (s : List Slot). slice_get s v ≡ Some slot) (sym same) at))
