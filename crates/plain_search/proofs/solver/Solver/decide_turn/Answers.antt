use Rattle.plain_search.proofs.solver.Solver.decide_turn.Goals as goal

pub returns-then-not-branch-clause-turn : goal.returns-then-not-branch-clause-turn
returns-then-not-branch-clause-turn c =
    let (assigned, stuck) = c.in_ok-decide.ensures.whole c.if-not-branch.true in
    record { assigned = assigned; keeps = c.in_ok-decide.ensures.state.keeps; stuck = stuck }
