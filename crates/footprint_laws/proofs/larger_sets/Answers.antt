use Rattle.footprint_laws.proofs.Larger.{larger}
use Rattle.footprint_laws.proofs.larger_sets.Goals as goal

pub returns : goal.returns
returns c = larger
