use Rattle.run_laws.proofs.Runs.{kept_runs}
use Rattle.run_laws.proofs.kept_records_run.Goals as goal

pub returns : goal.returns
returns c = kept_runs c.all_kept.ensures c.right_records_run.ensures
