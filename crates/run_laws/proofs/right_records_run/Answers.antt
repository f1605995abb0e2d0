use Rattle.run_laws.proofs.Runs.{right_runs}
use Rattle.run_laws.proofs.right_records_run.Goals as goal

pub returns : goal.returns
returns c = right_runs c.code_follows.ensures c.watched_shows.ensures
