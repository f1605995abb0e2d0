-- What holds in the loop of `all_known`.
use Rattle.std.proofs.Common.{◌≡◌, drop}
use Rattle.assumption_log.specs.Records.{all_known}
use Rattle.assumption_log.proofs.all_known.Given as goal

abbrev pub invariant-loop-decision : goal.invariant-loop-decision
invariant-loop-decision l = all_known l.known (drop l.decision-index l.decisions) ≡ all_known l.known l.decisions
