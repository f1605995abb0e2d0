-- The state of a core that runs with the checks of a placement, and how one part of a run follows another.
use Rattle.std.specs.Prelude.{ℕ, zero, suc, List, [], ◌∷◌, ◌++◌, drop, Option, None}
use Rattle.gc0_base.specs.declared.site.Site.{Site}
use Rattle.gc0_base.specs.declared.site.Ending.{Ending}
use Rattle.gc0_base.specs.declared.site.Ending.TheVariants.{StepsUsed}
use Rattle.c0_meaning.specs.Heaps.{Heap, Cells}
use Rattle.core_meaning.specs.CoreRuns.{Outcomes}
use Rattle.core_checks.specs.Parts.{cells_from}

-- what is there where a run stops
pub record View : Type 0 where
  pub site : Site
  -- what the site's formula speaks of; at an access the object and the field
  pub words : List ℕ
  pub heap : Heap
  -- what the running level owns
  pub owned : Cells

pub record WatchState : Type 0 where
  -- the words of the running call's locals and then of its temporaries, by number
  pub words : List ℕ
  pub heap : Heap
  -- what each level owns, the running one first; a function that isn't tracked leaves them as they are
  pub levels : List Cells
  pub input : List ℕ
  pub output : List ℕ
  pub steps : ℕ
  pub turns : ℕ
  -- the last outcome of each decision that some guard tests
  pub marks : Outcomes

-- A part of a run goes on with a value, or ends the run, with a view where it stops.
pub data Out (A : Type 0) : Type 0 where
  Next : A → WatchState → Out A
  Ends : Ending → Option View → WatchState → Out A

abbrev pub Run : Type 0 → Type 0
Run A = WatchState → Out A

abbrev pub go_on : {A B : Type 0} → Out A → (A → Run B) → Out B
go_on (Next x s) f = f x s
go_on (Ends e v s) f = Ends e v s

-- one after the other
unfoldable pub chain : {A B : Type 0} → Run A → (A → Run B) → Run B
chain m f s = go_on (m s) f

infixl 10 ◌>>=◌
abbrev pub ◌>>=◌ : {A B : Type 0} → Run A → (A → Run B) → Run B
m >>= f = chain m f

infixl 10 ◌>>◌
abbrev pub ◌>>◌ : {A B : Type 0} → Run A → Run B → Run B
m >> n = chain m (λ _. n)

unfoldable pub give : {A : Type 0} → A → Run A
give x s = Next x s

unfoldable pub end : {A : Type 0} → Ending → Run A
end e s = Ends e None s

unfoldable pub get : {A : Type 0} → (WatchState → A) → Run A
get f s = Next (f s) s

unfoldable pub change : (WatchState → WatchState) → Run (Unit {0})
change f s = Next tt (f s)

abbrev pub take_step : ℕ → WatchState → Out (Unit {0})
take_step zero s = Ends StepsUsed None s
take_step (suc n) s = Next tt record s { steps = n }

abbrev pub step : Run (Unit {0})
step s = take_step s.steps s

abbrev pub take_turn : ℕ → WatchState → Out (Unit {0})
take_turn zero s = Ends StepsUsed None s
take_turn (suc n) s = Next tt record s { turns = n }

abbrev pub turn : Run (Unit {0})
turn s = take_turn s.turns s

abbrev pub write : List ℕ → Run (Unit {0})
write bytes = change (λ s. record s { output = s.output ++ bytes })

-- ---- levels
-- what the running level owns
abbrev pub top_of : List Cells → Cells
top_of [] = []
top_of (o ∷ os) = o

-- the level that ends is joined into the one round it
abbrev pub closed : List Cells → List Cells
closed [] = []
closed (o ∷ []) = o ∷ []
closed (o ∷ p ∷ os) = (p ++ o) ∷ os

-- the running level owns further cells
abbrev pub added : Cells → List Cells → List Cells
added cells [] = []
added cells (o ∷ os) = (o ++ cells) ∷ os

-- the cells of the objects that were made since there were so many
abbrev pub cells_since : (before : ℕ) → Heap → Cells
cells_since before heap = cells_from (suc before) (drop before heap)

-- as many levels end
abbrev pub closed_by : ℕ → List Cells → List Cells
closed_by zero levels = levels
closed_by (suc n) levels = closed_by n (closed levels)
