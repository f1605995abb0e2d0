use Rattle.frame_laws.proofs.Moving.{code_in_heap, call_in_heap}
use Rattle.frame_laws.proofs.owned_cells_stay.Goals as goal

pub returns-clause-code : goal.returns-clause-code
returns-clause-code c = code_in_heap c.footprints_are_owned.ensures

pub returns-clause-call : goal.returns-clause-call
returns-clause-call c = call_in_heap c.footprints_are_owned.ensures
