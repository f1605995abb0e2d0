-- The placements that values of the code stand for.
pub use Rattle.check_placement.specs.Viewed.{guarded_view, placed_view}
use Rattle.std.specs.Prelude.{map}
use Rattle.core_checks.specs.Placements as checks
use Rattle.check_placement.specs.declared.types.Placement.{Placement}

abbrev pub placement_view : Placement → checks.Placement
placement_view p = record { sites = map placed_view p.sites; tracked = p.tracked }
