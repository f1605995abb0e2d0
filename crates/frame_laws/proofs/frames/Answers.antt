use Rattle.frame_laws.proofs.Moving.{code_frames, call_frames, inner_frames}
use Rattle.frame_laws.proofs.frames.Goals as goal

pub returns-clause-code : goal.returns-clause-code
returns-clause-code c = code_frames c.footprints_are_owned.ensures

pub returns-clause-call : goal.returns-clause-call
returns-clause-call c = call_frames c.footprints_are_owned.ensures

pub returns-clause-inner : goal.returns-clause-inner
returns-clause-inner c = inner_frames c.footprints_are_owned.ensures
