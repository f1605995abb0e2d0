-- What holds in the loop of `free_pairs`.
use Rattle.std.proofs.Common.{◌≡◌, ◌≤◌, length, drop, map}
use Rattle.gc0_base.specs.declared.site.Site.{Site}
use Rattle.gc0_base.specs.declared.site.Part.{Part}
use Rattle.core_checks.specs.Placements.{is_kept_free}
use Rattle.assumption_log.specs.Records.{kept_view}
use Rattle.check_placement.specs.FoundBy.{has_pair_key}
use Rattle.check_placement.proofs.placing.free_pairs.Given as goal

abbrev pub invariant-loop-left : goal.invariant-loop-left
invariant-loop-left l = record {
  within : l.left ≤ length l.entries;
  finds : (site : Site) (part : Part) → has_pair_key site part l.free.keys ≡ is_kept_free (map kept_view (drop l.left l.entries)) site part;
}

abbrev pub decreases-loop-left : goal.decreases-loop-left
decreases-loop-left l = l.left
