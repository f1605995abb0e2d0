use Rattle.std.proofs.Common.{◌≡◌, ◌∙◌, List, [], ◌∷◌, ◌++◌, Some, length, sym, ap, subst}
use Rattle.sat_check.specs.declared.clause.Lit.{Lit}
use Rattle.sat_check.specs.declared.clause.Clause.{Clause}
use Rattle.sat_check.specs.Clauses.{opposite_of}
use Rattle.sat_check.specs.Logs.{known_before, Refutes}
use Rattle.sat_check.specs.Laws.{known_below, below_at}
use Rattle.search_base.specs.declared.trail.Slot.{Slot}
use Rattle.search_base.specs.declared.trail.Step.{Step}
use Rattle.search_base.specs.Trails.{Shows, falses_of}
use Rattle.search_base.specs.Steps.{falses-push}
use Rattle.search_base.specs.Settling.{Keeps-single}
use Rattle.search_base.proofs.Walking.{leads_on}
use Rattle.search_base.proofs.trail.Trail.follow.Goals as goal

pub read-requires : goal.read-requires
read-requires c =
    let known = known_before c.args.clauses.now c.args.entries.now in
    let n = length c.args.self.now.slots.items in
    let all = known_below n c.args.clauses.now c.args.entries.now c.requires.clauses_below c.requires.entries_below in
    rw c.as_slice.ensures.value (below_at n known c.args.hint (record { lits = c.in-Some.lits.now }) all c.in-Some.ensures)

pub returns-in-AllFalse-clause-follow : goal.returns-in-AllFalse-clause-follow
returns-in-AllFalse-clause-follow c =
    let steps = c.args.self.now.steps.items in
    let clause : Clause = record { lits = c.in-Some.lits.now } in
    let shows = subst (λ (s : List Slot). Shows s (falses_of steps)) (sym c.as_slice.ensures.value) c.requires.keeps.shows in
    (clause, c.in-Some.ensures, c.in-AllFalse.ensures.reading (falses_of steps) shows)

pub returns-in_ok-assign-in-Single-clause-keeps : goal.returns-in_ok-assign-in-Single-clause-keeps
returns-in_ok-assign-in-Single-clause-keeps c =
    let known = known_before c.args.clauses.now c.args.entries.now in
    let slots = c.args.self.now.slots.items in
    let steps = c.args.self.now.steps.items in
    let clause : Clause = record { lits = c.in-Some.lits.now } in
    let shows = subst (λ (s : List Slot). Shows s (falses_of steps)) (sym c.as_slice.ensures.value) c.requires.keeps.shows in
    let unit = c.in-Single.ensures.reading (falses_of steps) shows in
    let below = rw c.as_slice.ensures.value at c.in-Single.ensures.below in
    let made = c.in_ok-assign-in-Single.ensures in
    Keeps-single known slots c.assign.new.self.slots.items steps c.assign.new.self.steps.items clause c.in-Single.lit c.opposite.result c.args.hint
    c.requires.keeps below c.in-Some.ensures unit c.opposite.ensures made.steps made.slots

pub returns-in_ok-assign-in-Single-clause-follow : goal.returns-in_ok-assign-in-Single-clause-follow
returns-in_ok-assign-in-Single-clause-follow c rest r =
    let known = known_before c.args.clauses.now c.args.entries.now in
    let steps = c.args.self.now.steps.items in
    let clause : Clause = record { lits = c.in-Some.lits.now } in
    let shows = subst (λ (s : List Slot). Shows s (falses_of steps)) (sym c.as_slice.ensures.value) c.requires.keeps.shows in
    let unit = c.in-Single.ensures.reading (falses_of steps) shows in
    let step : Step = record { falsified = c.opposite.result; reason = Some c.args.hint } in
    let falses : falses_of c.assign.new.self.steps.items ≡ falses_of steps ++ opposite_of c.in-Single.lit ∷ [] =
    ap falses_of c.in_ok-assign-in-Single.ensures.steps ∙ falses-push steps step ∙ ap (λ (l : Lit). falses_of steps ++ l ∷ []) c.opposite.ensures in
    leads_on known (falses_of steps) c.args.hint clause c.in-Single.lit c.in-Some.ensures unit rest (subst (λ (l : List Lit). Refutes known l rest) falses r)
