use Rattle.sat_search.specs.Turns.{IsReduced}
use Rattle.sat_search.proofs.solver.Solver.reduce.Given as goal

-- what was set aside so far
abbrev pub invariant-loop-number : goal.invariant-loop-number
invariant-loop-number l = IsReduced l.clauses l.fn.self l.self
