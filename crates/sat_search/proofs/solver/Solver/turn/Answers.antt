use Rattle.sat_search.proofs.solver.Solver.turn.Goals as goal

pub decide_turn-requires-clause-guarded : goal.decide_turn-requires-clause-guarded
decide_turn-requires-clause-guarded c = c.requires.answers.guarded c.in-None.is
