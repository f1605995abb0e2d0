use Rattle.std.proofs.Common.{◌≡◌, ◌-◌, ◌≤◌, length, take}
use Rattle.sat_top.specs.Told.{with_bytes}
use Rattle.sat_top.proofs.target.add_all.Given as goal

abbrev pub invariant-loop-at : goal.invariant-loop-at
invariant-loop-at g l = record {
  within : l.at ≤ length l.piece;
  bytes : g.P.Target.file l.proof ≡ with_bytes (g.P.Target.file l.fn.proof) (take l.at l.piece);
  later : g.P.Target.faults l.fn.proof ≤ g.P.Target.faults l.proof;
}

abbrev pub decreases-loop-at : goal.decreases-loop-at
decreases-loop-at g l = length l.piece - l.at
