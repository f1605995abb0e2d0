-- The law is proved in `Entries`.
use Rattle.kept_laws.proofs.Entries.{all_right}
use Rattle.kept_laws.proofs.all_kept.Goals as goal

pub returns : goal.returns
returns c = all_right
