use Rattle.lowering_laws.proofs.Calls.{means, decides}
use Rattle.lowering_laws.proofs.lowering_means.Goals as goal

pub returns-clause-meaning : goal.returns-clause-meaning
returns-clause-meaning c = means

pub returns-clause-sites : goal.returns-clause-sites
returns-clause-sites c = decides
