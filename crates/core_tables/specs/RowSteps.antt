-- What a row is while the sites of the code and the decisions are walked from the last to the first: what is behind decides.
use Rattle.std.specs.Prelude.{ℕ, ◌+◌, List, count_by}
use Rattle.std.specs.List.{find}
use Rattle.gc0_base.specs.declared.place.Place.{Place}
use Rattle.gc0_base.specs.declared.site.Site.{Site}
use Rattle.gc0_base.specs.declared.site.Kind.{Kind}
use Rattle.core_tree.specs.declared.Phase.{Phase}
use Rattle.core_tree.specs.declared.Phase.TheVariants.{Produce, Consume}
use Rattle.core_tree.specs.declared.DecisionAt.{DecisionAt}
use Rattle.core_tree.specs.declared.SiteAt.{SiteAt}
use Rattle.core_meaning.specs.CoreSited.{same_kind, same_site}
use Rattle.core_tables.specs.declared.PlacedSite.{PlacedSite}
use Rattle.core_tables.specs.SiteTables.{first_choice, place_of, about_of, rows_from}

-- the first of these decisions has this number
abbrev pub row_behind : (start : Place) → List PlacedSite → (number : ℕ) → List DecisionAt → Site → SiteAt
row_behind start placed number decisions site = record {
  place = place_of start (find (λ x. same_site site x.site) placed);
  about = about_of (find (λ x. same_site site x.site) placed);
  consumed = number + first_choice site Consume decisions;
  produced = number + first_choice site Produce decisions;
}

-- so many rows of a kind
abbrev pub rows_behind : (function : ℕ) → Kind → (start : Place) → List PlacedSite → (number : ℕ) → List DecisionAt → (count : ℕ) → List SiteAt
rows_behind g k start placed number decisions count =
    rows_from (λ n. row_behind start placed number decisions record { function = g; kind = k; ordinal = n }) 0 count

-- how many of these sites are of a kind
abbrev pub count_of : Kind → List PlacedSite → ℕ
count_of k placed = count_by (λ x. same_kind x.site.kind k) placed

-- a row with this number of the first choice that is produced or consumed
abbrev pub numbered : SiteAt → Phase → ℕ → SiteAt
numbered row Produce number = record row { produced = number }
numbered row Consume number = record row { consumed = number }
