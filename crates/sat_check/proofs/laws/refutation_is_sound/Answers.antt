use Rattle.sat_check.proofs.Soundness.{sound}
use Rattle.sat_check.proofs.laws.refutation_is_sound.Goals as goal

pub returns : goal.returns
returns c = sound
