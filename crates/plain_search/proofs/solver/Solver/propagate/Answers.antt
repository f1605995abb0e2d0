use Rattle.std.proofs.Common.{List, sym, subst}
use Rattle.sat_check.specs.declared.log.Entry.{Entry}
use Rattle.sat_check.specs.Logs.{known_before}
use Rattle.plain_search.specs.Occurrences.{IsComplete}
use Rattle.plain_search.specs.Looks.{Propagates}
use Rattle.plain_search.proofs.States.{State-propagate}
use Rattle.plain_search.proofs.solver.Solver.propagate.Goals as goal

pub propagate-requires-clause-complete : goal.propagate-requires-clause-complete
propagate-requires-clause-complete c =
    let own = c.args.self.now in
    subst (λ (es : List Entry). IsComplete (known_before c.args.clauses.now es) own.occurrences.positive.items own.occurrences.negative.items) (sym c.as_slice.ensures) c.requires.state.complete

pub returns-clause-state : goal.returns-clause-state
returns-clause-state c =
    let own = c.args.self.now in
    let new = c.propagate.new.trail in
    let it =
    subst (λ (es : List Entry). Propagates (known_before c.args.clauses.now es) own.trail.steps.items new.slots.items new.steps.items c.in_ok-conflict.conflict) c.as_slice.ensures
    c.in_ok-conflict.ensures.propagates in
    State-propagate c.args.clauses.now own.trail.slots.items new.slots.items own.trail.steps.items new.steps.items own.levels.items own.occurrences.positive.items own.occurrences.negative.items own.entries
    c.in_ok-conflict.conflict c.requires.state c.propagate.ensures.len it

pub returns-clause-answers : goal.returns-clause-answers
returns-clause-answers c =
    let own = c.args.self.now in
    let new = c.propagate.new.trail in
    let it =
    subst (λ (es : List Entry). Propagates (known_before c.args.clauses.now es) own.trail.steps.items new.slots.items new.steps.items c.in_ok-conflict.conflict) c.as_slice.ensures
    c.in_ok-conflict.ensures.propagates in
    record { found = it.found; stuck = it.stuck }
