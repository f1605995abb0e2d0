use Rattle.footprint_laws.proofs.Unrolled.{unrolled}
use Rattle.footprint_laws.proofs.instance_is_body.Goals as goal

pub returns : goal.returns
returns c = unrolled
