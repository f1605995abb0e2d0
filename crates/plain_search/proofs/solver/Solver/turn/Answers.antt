use Rattle.plain_search.proofs.solver.Solver.turn.Goals as goal

pub decide_turn-requires-clause-stuck : goal.decide_turn-requires-clause-stuck
decide_turn-requires-clause-stuck c = c.requires.answers.stuck c.in-None.is
