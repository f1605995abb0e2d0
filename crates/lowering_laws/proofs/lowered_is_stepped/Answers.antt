use Rattle.lowering_laws.proofs.Whole.{stepped}
use Rattle.lowering_laws.proofs.lowered_is_stepped.Goals as goal

pub returns : goal.returns
returns c = stepped
