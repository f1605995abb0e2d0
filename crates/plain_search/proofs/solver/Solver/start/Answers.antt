use Rattle.std.proofs.Common.{◌∙◌, List, [], sym, subst}
use Rattle.sat_check.specs.declared.log.Entry.{Entry}
use Rattle.sat_check.specs.Logs.{known_before}
use Rattle.search_base.specs.declared.trail.Step.{Step}
use Rattle.plain_search.specs.Looks.{Propagates}
use Rattle.plain_search.specs.States.{Answers}
use Rattle.plain_search.proofs.States.{State-start}
use Rattle.plain_search.proofs.solver.Solver.start.Goals as goal

pub first_conflict-requires-clause-keeps : goal.first_conflict-requires-clause-keeps
first_conflict-requires-clause-keeps c = c.in_ok-trail.ensures.keeps (known_before c.args.clauses.now [])

pub returns-clause-state : goal.returns-clause-state
returns-clause-state c =
    let clauses = c.args.clauses.now in
    let slots = c.first_conflict.new.trail.slots.items in
    let steps = c.first_conflict.new.trail.steps.items in
    let all = c.in_ok-occurrences.occurrences in
    let conflict = c.in_ok-conflict.conflict in
    let it = subst (λ (s : List Step). Propagates (known_before clauses []) s slots steps conflict) c.in_ok-trail.ensures.steps c.in_ok-conflict.ensures.propagates in
    State-start c.args.variables clauses slots steps c.new-2.result.items all.positive.items all.negative.items c.new-3.result conflict
    (c.in_ok-conflict.ensures.len ∙ c.in_ok-trail.ensures.len) it c.new-2.ensures.items c.new-3.ensures
    c.in_ok-occurrences.ensures.complete c.in_ok-occurrences.ensures.positive c.in_ok-occurrences.ensures.negative

pub returns-clause-answers : goal.returns-clause-answers
returns-clause-answers c =
    let it = c.in_ok-conflict.ensures.propagates in
    subst (λ (es : List Entry). Answers (known_before c.args.clauses.now es) c.first_conflict.new.trail.steps.items c.in_ok-conflict.conflict) (sym c.new-3.ensures)
    (record { found = it.found; stuck = it.stuck })
