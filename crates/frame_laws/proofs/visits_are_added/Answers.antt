use Rattle.frame_laws.proofs.Keeping.{code_keeping, call_keeping}
use Rattle.frame_laws.proofs.visits_are_added.Goals as goal

pub returns-clause-code : goal.returns-clause-code
returns-clause-code c = code_keeping c.footprints_are_owned.ensures

pub returns-clause-call : goal.returns-clause-call
returns-clause-call c = call_keeping c.footprints_are_owned.ensures
