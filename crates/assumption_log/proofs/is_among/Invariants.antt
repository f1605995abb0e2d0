-- What holds in the loop of `is_among`.
use Rattle.std.proofs.Common.{◌≡◌, drop}
use Rattle.assumption_log.specs.Records.{is_among}
use Rattle.assumption_log.proofs.is_among.Given as goal

abbrev pub invariant-loop-one : goal.invariant-loop-one
invariant-loop-one l = is_among l.part (drop l.one-index l.parts) ≡ is_among l.part l.parts
