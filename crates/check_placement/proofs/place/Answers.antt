-- What the search leaves of the proof of `place`.
use Rattle.std.proofs.Common.{List, map, sym, subst}
use Rattle.core_tree.specs.CoreViews.{core_view}
use Rattle.core_checks.specs.Placements.{IsPlacement}
use Rattle.assumption_log.specs.declared.Kept.{Kept}
use Rattle.assumption_log.specs.Records.{kept_view, record_view}
use Rattle.check_placement.specs.Tracked.{AreTracked}
use Rattle.check_placement.specs.Viewed.{placed_view}
use Rattle.check_placement.specs.Putting.{IsPlaced}
use Rattle.check_placement.proofs.Placed.{placement_right}
use Rattle.check_placement.proofs.place.Goals as goal

pub returns : goal.returns
returns c = λ stepped.
    let p = core_view c.args.core.now in
    let es = record_view c.args.kept.now in
    let placed : IsPlaced es c.in_ok-placed.placed = subst (λ (l : List Kept). IsPlaced (map kept_view l) c.in_ok-placed.placed) c.as_slice-entries.ensures c.in_ok-placed.ensures in
    let tracked : AreTracked p es c.in_ok-tracked.tracked = subst (λ (l : List Kept). AreTracked p (map kept_view l) c.in_ok-tracked.tracked) c.as_slice-entries.ensures c.in_ok-tracked.ensures in
    subst (IsPlacement p es) (sym c.placement_of.ensures)
    (placement_right p stepped es (record { sites = map placed_view c.in_ok-placed.placed.sites.items; tracked = c.in_ok-tracked.tracked }) placed.kept tracked)
