use Rattle.code_laws.proofs.Programs.{code_does}
use Rattle.code_laws.proofs.code_follows.Goals as goal

pub returns : goal.returns
returns c = code_does
