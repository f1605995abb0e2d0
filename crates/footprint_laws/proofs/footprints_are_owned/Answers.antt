use Rattle.footprint_laws.proofs.Owned.{footprint_owned}
use Rattle.footprint_laws.proofs.footprints_are_owned.Goals as goal

pub returns : goal.returns
returns c = footprint_owned
