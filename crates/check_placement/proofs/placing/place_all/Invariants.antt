-- What holds in the loop of `place_all`.
use Rattle.std.proofs.Common.{◌≡◌, ◌++◌, drop, map}
use Rattle.gc0_base.specs.declared.site.Site.{Site}
use Rattle.core_checks.specs.Placements.{kept_in, placed_of}
use Rattle.assumption_log.specs.Records.{kept_view}
use Rattle.check_placement.specs.Viewed.{placed_view}
use Rattle.check_placement.specs.Putting.{Fits}
use Rattle.check_placement.proofs.placing.place_all.Given as goal

abbrev pub invariant-loop-entry : goal.invariant-loop-entry
invariant-loop-entry l = record {
  fits : Fits l.placed;
  kept : (site : Site) → kept_in (map placed_view l.placed.sites.items) site ++ placed_of (map kept_view l.entries) (map kept_view (drop l.entry-index l.entries)) site
      ≡ placed_of (map kept_view l.entries) (map kept_view l.entries) site;
}
