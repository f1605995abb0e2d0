-- What the search leaves of the proof of `tracked_functions`.
use Rattle.std.proofs.Common.{sym, map}
use Rattle.std.proofs.lemmas.Bool.{false≢true}
use Rattle.core_tree.specs.CoreViews.{core_view}
use Rattle.assumption_log.specs.Records.{kept_view}
use Rattle.check_placement.proofs.Marks.{far_first, far_end}
use Rattle.check_placement.proofs.tracking.tracked_functions.Goals as goal

pub loop-more-init : goal.loop-more-init
loop-more-init c = record {
  far = far_first (core_view c.args.core.now) (map kept_view c.args.entries.now) c.in_ok-marks.marks c.in_ok-marks.ensures;
  closed = λ e. absurd (false≢true (sym e));
}

pub returns : goal.returns
returns c =
    far_end (core_view c.args.core.now) (map kept_view c.args.entries.now) c.loop-more.marks c.loop-more.invariant.far
    (c.loop-more.invariant.closed c.loop-more-test.false)
