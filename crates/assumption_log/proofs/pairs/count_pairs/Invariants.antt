-- What holds in the loop of `count_pairs`.
use Rattle.std.proofs.Common.{◌≡◌, ◌≤◌, length, drop, map}
use Rattle.assumption_log.specs.Records.{kept_view, count_pairs}
use Rattle.assumption_log.proofs.SeenPairs.{Finds}
use Rattle.assumption_log.proofs.pairs.count_pairs.Given as goal

abbrev pub invariant-loop-left : goal.invariant-loop-left
invariant-loop-left l = record {
  within : l.left ≤ length l.entries;
  finds : Finds l.seen.keys (map kept_view (drop l.left l.entries));
  count : length l.seen.keys ≡ count_pairs (map kept_view (drop l.left l.entries));
}

abbrev pub decreases-loop-left : goal.decreases-loop-left
decreases-loop-left l = l.left
