-- What holds in the loop of `tracked_functions`.
use Rattle.std.proofs.Common.{◌≡◌, ◌+◌, ◌*◌, false, map, length}
use Rattle.std.specs.Prelude.{if◌then◌else◌}
use Rattle.core_tree.specs.CoreViews.{core_view}
use Rattle.assumption_log.specs.Records.{kept_view}
use Rattle.check_placement.specs.Tracked.{AreClosed, unmarked}
use Rattle.check_placement.proofs.Marks.{Far}
use Rattle.check_placement.proofs.tracking.tracked_functions.Given as goal

abbrev pub invariant-loop-more : goal.invariant-loop-more
invariant-loop-more l = record {
  far : Far (core_view l.core) (map kept_view l.entries) l.marks;
  closed : l.more ≡ false → AreClosed (core_view l.core) (length (core_view l.core).functions) l.marks;
}

abbrev pub decreases-loop-more : goal.decreases-loop-more
decreases-loop-more l = 2 * unmarked l.marks + (if l.more then 1 else 0)
