use Rattle.std.proofs.Common.{List, length, sym, subst}
use Rattle.sat_check.specs.declared.clause.Clause.{Clause}
use Rattle.sat_check.specs.Logs.{known_before}
use Rattle.sat_check.specs.Laws.{known_below, below_at}
use Rattle.search_base.specs.declared.trail.Slot.{Slot}
use Rattle.search_base.specs.Trails.{Shows, falses_of}
use Rattle.plain_search.proofs.Settling.{Visits-single, Visits-stuck}
use Rattle.plain_search.proofs.propagation.visit.Goals as goal

pub read-requires : goal.read-requires
read-requires c =
    let known = known_before c.args.clauses.now c.args.entries.now in
    let n = length c.args.trail.now.slots.items in
    let all = known_below n c.args.clauses.now c.args.entries.now c.requires.clauses_below c.requires.entries_below in
    rw c.as_slice.ensures.value (below_at n known c.args.index (record { lits = c.in-Some.lits.now }) all c.in-Some.ensures)

pub returns-in_ok-assign-in-Single-clause-visits : goal.returns-in_ok-assign-in-Single-clause-visits
returns-in_ok-assign-in-Single-clause-visits c =
    let known = known_before c.args.clauses.now c.args.entries.now in
    let slots = c.args.trail.now.slots.items in
    let steps = c.args.trail.now.steps.items in
    let clause : Clause = record { lits = c.in-Some.lits.now } in
    let shows = subst (λ (s : List Slot). Shows s (falses_of steps)) (sym c.as_slice.ensures.value) c.requires.keeps.shows in
    let unit = c.in-Single.ensures.reading (falses_of steps) shows in
    let below = rw c.as_slice.ensures.value at c.in-Single.ensures.below in
    let made = c.in_ok-assign-in-Single.ensures in
    Visits-single known slots c.assign.new.self.slots.items steps c.assign.new.self.steps.items clause c.in-Single.lit c.opposite.result c.args.index
    c.requires.keeps below c.in-Some.ensures unit c.opposite.ensures made.steps made.slots

pub returns-in-Neither-clause-visits : goal.returns-in-Neither-clause-visits
returns-in-Neither-clause-visits c =
    let known = known_before c.args.clauses.now c.args.entries.now in
    let slots = c.args.trail.now.slots.items in
    let steps = c.args.trail.now.steps.items in
    let shows = subst (λ (s : List Slot). Shows s (falses_of steps)) (sym c.as_slice.ensures.value) c.requires.keeps.shows in
    Visits-stuck known slots steps (record { lits = c.in-Some.lits.now }) c.args.index c.requires.keeps c.in-Some.ensures (c.in-Neither.ensures.reading (falses_of steps) shows)
