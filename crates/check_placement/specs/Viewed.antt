-- Placements as plain data, and what finds their sites and decisions.
use Rattle.std.specs.Prelude.{◌≡◌, List, [], map, Option, Some, None}
use Rattle.gc0_base.specs.declared.site.Decision.{Decision}
use Rattle.core_checks.specs.Placements as checks
use Rattle.core_checks.specs.Placements.{sites_test}
use Rattle.check_placement.specs.declared.types.Guarded.{Guarded}
use Rattle.check_placement.specs.declared.types.PlacedAt.{PlacedAt}
use Rattle.check_placement.specs.declared.keys.SiteKey.{SiteKey}
use Rattle.check_placement.specs.declared.keys.DecisionKey.{DecisionKey}
use Rattle.check_placement.specs.FoundBy.{site_key, has_decision}

abbrev pub guarded_view : Guarded → checks.Guarded
guarded_view g = record { decisions = g.decisions; part = g.part }

abbrev pub placed_view : PlacedAt → checks.PlacedAt
placed_view x = record { site = x.site; parts = map guarded_view x.parts }

abbrev pub parts_in : Option PlacedAt → List Guarded
parts_in None = []
parts_in (Some x) = x.parts

-- the keys of sites, in their order
abbrev pub keys_of : List PlacedAt → List SiteKey
keys_of xs = map (λ x. site_key x.site) xs

-- the keys are those of the sites, and those of the decisions that some guard tests
pub record Finds (sites : List PlacedAt) (keys : List SiteKey) (tested : List DecisionKey) : Type 0 where
  pub keys_right : keys ≡ keys_of sites
  pub tests : (d : Decision) → has_decision d tested ≡ sites_test d (map placed_view sites)
