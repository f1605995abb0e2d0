use Rattle.resolved_laws.proofs.KeptItems.{all_keep}
use Rattle.resolved_laws.proofs.resolved_keeps.Goals as goal

pub returns : goal.returns
returns c = all_keep
