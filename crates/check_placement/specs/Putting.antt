-- The parts of a record put to their sites, one after the other.
use Rattle.std.specs.Prelude.{◌≡◌, List, [], ◌∷◌, ◌++◌, map, if◌then◌else◌}
use Rattle.gc0_base.specs.declared.site.Site.{Site}
use Rattle.core_meaning.specs.CoreSited.{same_site}
use Rattle.core_checks.specs.Entries.{Entry}
use Rattle.core_checks.specs.Placements.{kept_in, placed_of}
use Rattle.assumption_log.specs.declared.Kept.{Kept}
use Rattle.check_placement.specs.declared.types.Guarded.{Guarded}
use Rattle.check_placement.specs.declared.types.PlacedAt.{PlacedAt}
use Rattle.check_placement.specs.declared.placing.Placed.{Placed}
use Rattle.check_placement.specs.Viewed.{placed_view, Finds}

-- a part behind those of its site, and a site of its own where there is none
abbrev pub put_in : List PlacedAt → Site → Guarded → List PlacedAt
put_in [] site g = record { site = site; parts = g ∷ [] } ∷ []
put_in (x ∷ xs) site g = if same_site site x.site then record { site = x.site; parts = x.parts ++ g ∷ [] } ∷ xs else x ∷ put_in xs site g

abbrev pub guard_of : Kept → Guarded
guard_of e = record { decisions = e.decisions; part = e.part }

-- what finds the sites and the decisions is right
abbrev pub Fits : Placed → Type 0
Fits p = Finds p.sites.items p.keys.keys p.tested.keys

-- the part of an entry was put to its site
pub record Puts (old : Placed) (e : Kept) (new : Placed) : Type 0 where
  pub sites : new.sites.items ≡ put_in old.sites.items e.site (guard_of e)
  pub fits : Fits new

-- each site has its parts
pub record IsPlaced (es : List Entry) (p : Placed) : Type 0 where
  pub kept : (site : Site) → kept_in (map placed_view p.sites.items) site ≡ placed_of es es site
  pub fits : Fits p
