use Rattle.watched_core.proofs.Watched.{is_bare}
use Rattle.watched_core.proofs.untracked_functions_are_bare.Goals as goal

pub returns : goal.returns
returns c = is_bare
