use Rattle.walk_laws.proofs.Stacked.{stacked}
use Rattle.walk_laws.proofs.stack_walks.Goals as goal

pub returns : goal.returns
returns c = stacked
