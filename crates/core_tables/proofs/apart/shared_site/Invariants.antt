-- What holds in the loop of `shared_site`.
use Rattle.std.proofs.Common.{◌≡◌, ◌≤◌, true, length, drop}
use Rattle.core_tables.specs.Apart.{are_apart}
use Rattle.core_tables.proofs.Seen.{Finds}
use Rattle.core_tables.proofs.apart.shared_site.Given as goal

abbrev pub invariant-loop-left : goal.invariant-loop-left
invariant-loop-left l = record {
  within : l.left ≤ length l.placed;
  finds : Finds l.seen.keys (drop l.left l.placed);
  apart : are_apart (drop l.left l.placed) ≡ true;
}

abbrev pub decreases-loop-left : goal.decreases-loop-left
decreases-loop-left l = l.left
