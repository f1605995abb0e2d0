-- That a core with the checks of a right record does what the core does.
use Rattle.std.specs.Prelude.{◌≡◌, ℕ, ◌<◌, ◌^◌, IsTrue, IsFalse, List, [], ◌∷◌, All, Option, Some, None, slice_get}
use Rattle.std.specs.List.{AllByRecursion}
use Rattle.gc0_base.specs.declared.site.Site.{Site}
use Rattle.gc0_base.specs.declared.site.Ending.{Ending}
use Rattle.gc0_base.specs.declared.site.Ending.TheVariants.{Returned, Stop}
use Rattle.core_tree.specs.CoreTree.{CoreFunction, Core}
use Rattle.c0_meaning.specs.Heaps.{Cell, Cells, owns}
use Rattle.core_meaning.specs.CoreRuns as core
use Rattle.core_meaning.specs.CoreRuns.{Visit, CoreState}
use Rattle.core_meaning.specs.CoreRunning as running
use Rattle.core_meaning.specs.CorePrecision.{code_calls}
use Rattle.core_meaning.specs.Stepped.{IsStepped}
use Rattle.core_checks.specs.Subjects.{SubjectAt, code_subjects}
use Rattle.core_checks.specs.Entries.{Entry, IsEntry, IsRight, AreWords}
use Rattle.core_checks.specs.Placements.{Placement, kept_at, is_tracked, IsPlacement}
use Rattle.watched_core.specs.WatchRuns.{View}
use Rattle.watched_core.specs.Watching.{Shown, watched}

-- the same cells, in any order and however often
abbrev pub Same : Cells → Cells → Type 0
Same o p = (c : Cell) → owns o c ≡ owns p c

-- the last visit of a list with others before it
abbrev pub last_of : Visit → List Visit → Visit
last_of v [] = v
last_of v (w ∷ ws) = last_of w ws

-- a view shows what was there at a visit
pub record Views (v : Visit) (view : View) (site : Site) : Type 0 where
  pub decided : v.site ≡ site
  pub at : view.site ≡ site
  pub words : view.words ≡ v.words
  pub heap : view.heap ≡ v.heap
  pub owned : Same view.owned v.owned

-- where a run stops, the view shows its last visit, and else there is none
abbrev pub IsViewed : Ending → List Visit → Option View → Type 0
IsViewed (Stop site) [] view = ⊥
IsViewed (Stop site) (v ∷ vs) None = ⊥
IsViewed (Stop site) (v ∷ vs) (Some view) = Views (last_of v vs) view site
IsViewed e vs view = view ≡ None

-- a run of a core as it is to be shown
pub record ShowsAs (wrote : List ℕ) (e : Ending) (vs : List Visit) (s : Shown) : Type 0 where
  pub output : s.output ≡ wrote
  pub ending : s.ending ≡ e
  pub view : IsViewed e vs s.view

abbrev pub Shows : core.Out ℕ → Shown → Type 0
Shows (core.Next x s) w = ShowsAs s.output (Returned record { 0 = x }) s.visits w
Shows (core.Ends e s) w = ShowsAs s.output e s.visits w

-- With the placement of any right record a stepped core shows what its run shows, for every input and number of steps.
abbrev pub watch_law : Type 0
watch_law = (c : Core) (es : List Entry) (p : Placement) → IsStepped c → IsRight c es → IsPlacement c es p →
    (input : List ℕ) (n : ℕ) → AreWords input → n < 2 ^ 32 → Shows (running.run c n (running.started c input n)) (watched c p input n)

-- ---- functions that aren't tracked
-- no part is kept at a site
abbrev pub IsBareSite : Placement → SubjectAt → Type 0
IsBareSite p x = kept_at p x.site ≡ []

-- No part is kept at the sites of a function, and what it calls isn't tracked.
pub record IsBare (c : Core) (p : Placement) (f : CoreFunction) : Type 0 where
  pub sites : AllByRecursion (IsBareSite p) (code_subjects c f f.body)
  pub callees : (h : ℕ) → IsTrue (code_calls h f.body) → IsFalse (is_tracked p h)

-- With the placement of a record of a stepped core a function that isn't tracked is so.
abbrev pub bare_law : Type 0
bare_law = (c : Core) (es : List Entry) (p : Placement) → IsStepped c → All (IsEntry c) es → IsPlacement c es p →
    (g : ℕ) (f : CoreFunction) → slice_get c.functions g ≡ Some f → IsFalse (is_tracked p g) → IsBare c p f
