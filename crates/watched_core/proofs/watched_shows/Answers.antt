use Rattle.watched_core.proofs.Watched.{watched_does}
use Rattle.watched_core.proofs.watched_shows.Goals as goal

pub returns : goal.returns
returns c = watched_does c.larger_sets.ensures c.footprints_are_owned.ensures c.frames.ensures.call
