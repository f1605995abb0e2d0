-- What holds in the loop of `is_known`.
use Rattle.std.proofs.Common.{◌≡◌, drop}
use Rattle.assumption_log.specs.Records.{is_known}
use Rattle.assumption_log.proofs.is_known.Given as goal

abbrev pub invariant-loop-one : goal.invariant-loop-one
invariant-loop-one l = is_known l.wanted (drop l.one-index l.known) ≡ is_known l.wanted l.known
