-- What a core keeps of its sites, and the decisions of the choices of formulas.
use Rattle.std.specs.Prelude.{◌≡◌, ℕ, ◌+◌, ◌<◌, ◌^◌, not, ◌&&◌, eqb, Option, Some, None, if◌then◌else◌, slice_get}
use Rattle.std.specs.Option.{option_map}
use Rattle.gc0_base.specs.declared.site.Site.{Site}
use Rattle.gc0_base.specs.declared.site.Kind.{Kind}
use Rattle.gc0_base.specs.declared.site.Kind.TheVariants as kind
use Rattle.gc0_base.specs.declared.site.Decision.{Decision}
use Rattle.gc0_tree.specs.Sites.{is_start}
use Rattle.core_tree.specs.declared.Phase.{Phase}
use Rattle.core_tree.specs.declared.Phase.TheVariants.{Produce, Consume}
use Rattle.core_tree.specs.declared.Origin.{Origin}
use Rattle.core_tree.specs.declared.Origin.TheVariants.{Choice}
use Rattle.core_tree.specs.declared.SiteAt.{SiteAt}
use Rattle.core_tree.specs.declared.SiteTable.{SiteTable}
use Rattle.core_tree.specs.CoreTree.{CoreFunction, Core}

-- the row of a kind and an ordinal in a function's table; each function has its start
abbrev pub row_in : SiteTable → Kind → ℕ → Option SiteAt
row_in t kind.Start n = if eqb n 0 then Some t.start else None
row_in t kind.Requires n = slice_get t.calls n
row_in t kind.Ensures n = slice_get t.returns n
row_in t kind.Entry n = slice_get t.entry n
row_in t kind.Again n = slice_get t.again n
row_in t kind.Assert n = slice_get t.asserts n
row_in t kind.Fold n = slice_get t.folds n
row_in t kind.Unfold n = slice_get t.unfolds n
row_in t kind.Access n = slice_get t.accesses n
row_in t kind.Trap n = slice_get t.traps n

abbrev pub row_of : Option CoreFunction → Kind → ℕ → Option SiteAt
row_of None k n = None
row_of (Some f) k n = row_in f.sites k n

-- what is kept of a site, or of the start of any function
abbrev pub row_at : Core → Site → Option SiteAt
row_at c site = row_of (slice_get c.functions site.function) site.kind site.ordinal

-- the same of a site; a start is one in `main` alone
abbrev pub site_row : Core → Site → Option SiteAt
site_row c site = if is_start site.kind && not (eqb site.function c.main) then None else row_at c site

abbrev pub first_of : SiteAt → Phase → ℕ
first_of row Produce = row.produced
first_of row Consume = row.consumed

abbrev pub first_in : Option SiteAt → Phase → ℕ
first_in None phase = 0
first_in (Some row) phase = first_of row phase

-- the number of the first decision of the choices that are produced or consumed there
abbrev pub first_number : Core → Site → Phase → ℕ
first_number c site phase = first_in (row_at c site) phase

-- the decision of a choice: those of one formula at one point follow each other
abbrev pub choice_decision : Core → Site → Phase → (choice : ℕ) → Decision
choice_decision c site phase k = record { function = site.function; number = first_number c site phase + k }

abbrev pub origin_in : Option CoreFunction → ℕ → Option Origin
origin_in None n = None
origin_in (Some f) n = option_map (λ d. d.origin) (slice_get f.decisions n)

-- what a decision decides, where there is such a decision
abbrev pub origin_of : Core → Decision → Option Origin
origin_of c d = origin_in (slice_get c.functions d.function) d.number

-- a decision is that of a choice
abbrev pub IsOrigin : Core → Decision → Site → Phase → (choice : ℕ) → Type 0
IsOrigin c d site phase k = origin_of c d ≡ Some (Choice site phase k)

-- there is such a choice, and its decision has a number
abbrev pub HasChoice : Core → Site → Phase → (choice : ℕ) → Type 0
HasChoice c site phase k = (first_number c site phase + k < 2 ^ 32) × IsOrigin c (choice_decision c site phase k) site phase k
