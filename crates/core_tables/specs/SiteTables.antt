-- The table of a function's sites, from the sites of its code and its decisions. Both are this project's own.
use Rattle.std.specs.Prelude.{ℕ, zero, suc, Bool, true, false, ◌&&◌, eqb, List, [], ◌∷◌, Option, Some, None, if◌then◌else◌, count_by}
use Rattle.std.specs.List.{find}
use Rattle.gc0_base.specs.declared.place.Place.{Place}
use Rattle.gc0_base.specs.declared.site.Site.{Site}
use Rattle.gc0_base.specs.declared.site.Kind.{Kind}
use Rattle.gc0_base.specs.declared.site.Kind.TheVariants as kind
use Rattle.core_tree.specs.declared.Phase.{Phase}
use Rattle.core_tree.specs.declared.Phase.TheVariants.{Produce, Consume}
use Rattle.core_tree.specs.declared.Origin.{Origin}
use Rattle.core_tree.specs.declared.Origin.TheVariants.{Branch, Choice}
use Rattle.core_tree.specs.declared.DecisionAt.{DecisionAt}
use Rattle.core_tree.specs.declared.SiteAt.{SiteAt}
use Rattle.core_tree.specs.declared.SiteTable.{SiteTable}
use Rattle.core_meaning.specs.CoreRunning.{start_at}
use Rattle.core_meaning.specs.CoreSited.{same_kind, same_site}
use Rattle.core_tables.specs.declared.PlacedSite.{PlacedSite}

-- ---- the decisions of the choices that are produced or consumed at one point, from a number on
abbrev pub choices_at : Site → Phase → ℕ → List Place → List DecisionAt
choices_at site phase k [] = []
choices_at site phase k (place ∷ places) = record { place = place; origin = Choice site phase k } ∷ choices_at site phase (suc k) places

-- ---- the first of them
abbrev pub same_phase : Phase → Phase → Bool
same_phase Produce Produce = true
same_phase Consume Consume = true
same_phase a b = false

abbrev pub is_first : Site → Phase → Origin → Bool
is_first site phase Branch = false
is_first site phase (Choice other q k) = same_site site other && (same_phase phase q && eqb k 0)

-- its number, and that of none where there is none
abbrev pub first_choice : Site → Phase → List DecisionAt → ℕ
first_choice site phase [] = 0
first_choice site phase (d ∷ ds) = if is_first site phase d.origin then 0 else suc (first_choice site phase ds)

-- ---- rows
abbrev pub place_of : Place → Option PlacedSite → Place
place_of otherwise None = otherwise
place_of otherwise (Some x) = x.place

abbrev pub about_of : Option PlacedSite → Option ℕ
about_of None = None
about_of (Some x) = x.about

-- what is kept of a site: where its token stands, what the code is about there, and the first of its choices
abbrev pub row : (start : Place) → List PlacedSite → List DecisionAt → Site → SiteAt
row start placed decisions site = record {
  place = place_of start (find (λ x. same_site site x.site) placed);
  about = about_of (find (λ x. same_site site x.site) placed);
  consumed = first_choice site Consume decisions;
  produced = first_choice site Produce decisions;
}

-- rows from an ordinal on, so many
abbrev pub rows_from : (ℕ → SiteAt) → ℕ → (count : ℕ) → List SiteAt
rows_from row n zero = []
rows_from row n (suc k) = row n ∷ rows_from row (suc n) k

-- as many rows of a kind as sites of it
abbrev pub rows : (function : ℕ) → (start : Place) → List PlacedSite → List DecisionAt → Kind → List SiteAt
rows g start placed decisions k =
    rows_from (λ n. row start placed decisions record { function = g; kind = k; ordinal = n }) 0 (count_by (λ x. same_kind x.site.kind k) placed)

abbrev pub start_row : (function : ℕ) → (start : Place) → List DecisionAt → SiteAt
start_row g start decisions =
    record { place = start; about = None; consumed = first_choice (start_at g) Consume decisions; produced = first_choice (start_at g) Produce decisions }

-- the table of a function whose name stands at `start`
abbrev pub table_of : (function : ℕ) → (start : Place) → List PlacedSite → List DecisionAt → SiteTable
table_of g start placed decisions =
    let all : Kind → List SiteAt = rows g start placed decisions in
    record {
      start = start_row g start decisions;
      calls = all kind.Requires;
      returns = all kind.Ensures;
      entry = all kind.Entry;
      again = all kind.Again;
      asserts = all kind.Assert;
      folds = all kind.Fold;
      unfolds = all kind.Unfold;
      accesses = all kind.Access;
      traps = all kind.Trap;
    }
