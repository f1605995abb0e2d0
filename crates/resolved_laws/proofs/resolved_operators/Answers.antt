use Rattle.resolved_laws.proofs.Given.{all_given}
use Rattle.resolved_laws.proofs.resolved_operators.Goals as goal

pub returns : goal.returns
returns c = all_given
