use Rattle.sat_top.proofs.Right.{right, complete}
use Rattle.sat_top.proofs.top.solve.Goals as goal

pub returns-clause-right : goal.returns-clause-right
returns-clause-right g c = right c.one_formula.ensures _ _ c.serve.ensures.answer

pub returns-clause-complete : goal.returns-clause-complete
returns-clause-complete g c = complete _ _ c.serve.ensures.answer
