-- That no two sites of the code are the same one. This project's own.
use Rattle.std.specs.Prelude.{Bool, true, not, ◌&&◌, List, [], ◌∷◌}
use Rattle.std.specs.List.{list_all}
use Rattle.core_meaning.specs.CoreSited.{same_site}
use Rattle.core_tables.specs.declared.PlacedSite.{PlacedSite}

-- no two of the sites are the same
abbrev pub are_apart : List PlacedSite → Bool
are_apart [] = true
are_apart (x ∷ xs) = list_all (λ y. not (same_site x.site y.site)) xs && are_apart xs
