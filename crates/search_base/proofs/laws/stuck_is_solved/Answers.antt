use Rattle.search_base.proofs.Solutions.{solution}
use Rattle.search_base.proofs.laws.stuck_is_solved.Goals as goal

pub returns : goal.returns
returns c = solution
