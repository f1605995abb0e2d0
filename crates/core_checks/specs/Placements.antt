-- Where parts are checked, behind which guards, and which functions keep track of what they own. This project's own.
use Rattle.std.specs.Prelude.{◌≡◌, ◌↔◌, ◌⊎◌, ℕ, Bool, true, false, not, ◌&&◌, ◌||◌, eqb, IsTrue, IsFalse, List, [], ◌∷◌, Option, Some, None, if◌then◌else◌, slice_get}
use Rattle.gc0_base.specs.declared.site.Site.{Site}
use Rattle.gc0_base.specs.declared.site.Decision.{Decision}
use Rattle.gc0_base.specs.declared.site.Part.{Part}
use Rattle.gc0_base.specs.declared.site.Part.TheVariants.{Value, Reach, Access, Whole, Separate}
use Rattle.core_tree.specs.CoreTree.{CoreFunction, Core}
use Rattle.core_meaning.specs.CorePrecision.{Reaches}
use Rattle.core_meaning.specs.CoreSited.{same_site}
use Rattle.core_checks.specs.Entries.{Known, Entry}

-- a part behind one guard for each decision
pub record Guarded : Type 0 where
  pub decisions : List Known
  pub part : Part

pub record PlacedAt : Type 0 where
  pub site : Site
  pub parts : List Guarded

pub record Placement : Type 0 where
  -- the sites where parts are checked
  pub sites : List PlacedAt
  -- the functions that keep track of what they own, by number
  pub tracked : List Bool

abbrev pub kept_in : List PlacedAt → Site → List Guarded
kept_in [] site = []
kept_in (x ∷ xs) site = if same_site x.site site then x.parts else kept_in xs site

-- the parts that are checked at a site, in their order
abbrev pub kept_at : Placement → Site → List Guarded
kept_at p site = kept_in p.sites site

abbrev pub is_so_marked : Option Bool → Bool
is_so_marked None = false
is_so_marked (Some b) = b

abbrev pub is_tracked : Placement → (function : ℕ) → Bool
is_tracked p g = is_so_marked (slice_get p.tracked g)

-- ---- decisions that are tested
abbrev pub same_decision : Decision → Decision → Bool
same_decision a b = eqb a.function b.function && eqb a.number b.number

abbrev pub known_tests : Decision → List Known → Bool
known_tests d [] = false
known_tests d (e ∷ es) = same_decision d e.0 || known_tests d es

abbrev pub guards_test : Decision → List Guarded → Bool
guards_test d [] = false
guards_test d (g ∷ gs) = known_tests d g.decisions || guards_test d gs

abbrev pub sites_test : Decision → List PlacedAt → Bool
sites_test d [] = false
sites_test d (x ∷ xs) = guards_test d x.parts || sites_test d xs

-- some guard tests the decision
abbrev pub is_tested : Placement → Decision → Bool
is_tested p d = sites_test d p.sites

-- ---- the placement of a record
abbrev pub same_part : Part → Part → Bool
same_part (Value j) (Value k) = eqb j k
same_part (Reach j) (Reach k) = eqb j k
same_part Access Access = true
same_part Whole Whole = true
same_part Separate Separate = true
same_part a b = false

abbrev pub is_free : List Known → Bool
is_free [] = true
is_free (d ∷ ds) = false

-- some entry without decisions keeps the part at the site
abbrev pub is_kept_free : List Entry → Site → Part → Bool
is_kept_free [] site part = false
is_kept_free (e ∷ es) site part = (same_site e.site site && (is_free e.decisions && same_part e.part part)) || is_kept_free es site part

-- The entries of a site as guarded parts, in their order. A guarded part is left out where an entry without decisions keeps
-- it, and no other is.
abbrev pub placed_of : (all entries : List Entry) → Site → List Guarded
placed_of all [] site = []
placed_of all (e ∷ es) site =
    if same_site e.site site && (is_free e.decisions || not (is_kept_free all site e.part))
    then record { decisions = e.decisions; part = e.part } ∷ placed_of all es site else placed_of all es site

-- a function with a kept part
abbrev pub Keeps : Placement → (function : ℕ) → Type 0
Keeps p g = (site : Site) × (site.function ≡ g) × (kept_at p site ≡ [] → ⊥)

-- Where a record's parts stand. A function is tracked exactly where it isn't plain or reaches one with a kept part.
pub record IsPlacement (c : Core) (es : List Entry) (p : Placement) : Type 0 where
  pub kept : (site : Site) → kept_at p site ≡ placed_of es es site
  pub tracked : (g : ℕ) (f : CoreFunction) → slice_get c.functions g ≡ Some f →
      IsTrue (is_tracked p g) ↔ (IsFalse f.plain ⊎ ((h : ℕ) × Reaches c g h × Keeps p h))
