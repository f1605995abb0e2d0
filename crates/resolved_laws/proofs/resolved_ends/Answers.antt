use Rattle.resolved_laws.proofs.EndItems.{read_ends}
use Rattle.resolved_laws.proofs.resolved_ends.Goals as goal

pub returns : goal.returns
returns c = read_ends
