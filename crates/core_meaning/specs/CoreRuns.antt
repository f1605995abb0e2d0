-- The state of a run of a core, and how one part of a run follows another.
use Rattle.std.specs.Prelude.{ℕ, zero, suc, Bool, List, [], ◌∷◌, ◌++◌, Option}
use Rattle.gc0_base.specs.declared.site.Site.{Site}
use Rattle.gc0_base.specs.declared.site.Ending.{Ending}
use Rattle.gc0_base.specs.declared.site.Ending.TheVariants.{StepsUsed}
use Rattle.c0_meaning.specs.Heaps.{Heap, Cells}

-- The last outcome of each decision of the running call, by number; none until it is decided. A choice is true where its
-- condition is, and false where the condition has no value.
abbrev pub Outcomes : Type 0
Outcomes = List (Option Bool)

-- what was decided, and what was there then
pub record Visit : Type 0 where
  pub site : Site
  pub outcomes : Outcomes
  -- what the formula of the site speaks of; at an access the object and the field
  pub words : List ℕ
  pub heap : Heap
  pub owned : Cells

pub record CoreState : Type 0 where
  -- the words of the running call's locals and then of its temporaries, by number
  pub words : List ℕ
  pub heap : Heap
  -- what the running level owns
  pub owned : Cells
  -- the numbers of the input that are left
  pub input : List ℕ
  pub output : List ℕ
  -- the steps that are left
  pub steps : ℕ
  -- the calls and the tests of loops that are left; where each has a step of its own, the steps run out first
  pub turns : ℕ
  pub outcomes : Outcomes
  -- what was decided, the earliest first
  pub visits : List Visit

-- A part of a run goes on with a value, or ends the run.
pub data Out (A : Type 0) : Type 0 where
  Next : A → CoreState → Out A
  Ends : Ending → CoreState → Out A

abbrev pub Run : Type 0 → Type 0
Run A = CoreState → Out A

abbrev pub go_on : {A B : Type 0} → Out A → (A → Run B) → Out B
go_on (Next x s) f = f x s
go_on (Ends e s) f = Ends e s

-- one after the other
unfoldable pub chain : {A B : Type 0} → Run A → (A → Run B) → Run B
chain m f s = go_on (m s) f

infixl 10 ◌>>=◌
abbrev pub ◌>>=◌ : {A B : Type 0} → Run A → (A → Run B) → Run B
m >>= f = chain m f

infixl 10 ◌>>◌
abbrev pub ◌>>◌ : {A B : Type 0} → Run A → Run B → Run B
m >> n = chain m (λ _. n)

unfoldable pub give : {A : Type 0} → A → Run A
give x s = Next x s

unfoldable pub end : {A : Type 0} → Ending → Run A
end e s = Ends e s

unfoldable pub get : {A : Type 0} → (CoreState → A) → Run A
get f s = Next (f s) s

unfoldable pub change : (CoreState → CoreState) → Run (Unit {0})
change f s = Next tt (f s)

abbrev pub take_step : ℕ → CoreState → Out (Unit {0})
take_step zero s = Ends StepsUsed s
take_step (suc n) s = Next tt record s { steps = n }

-- a step is due
abbrev pub step : Run (Unit {0})
step s = take_step s.steps s

abbrev pub take_turn : ℕ → CoreState → Out (Unit {0})
take_turn zero s = Ends StepsUsed s
take_turn (suc n) s = Next tt record s { turns = n }

-- a call or the test of a loop
abbrev pub turn : Run (Unit {0})
turn s = take_turn s.turns s

-- a site where something is decided
abbrev pub visit : Site → List ℕ → Run (Unit {0})
visit site words = change (λ s. record s { visits = s.visits ++ record { site = site; outcomes = s.outcomes; words = words; heap = s.heap; owned = s.owned } ∷ [] })

abbrev pub write : List ℕ → Run (Unit {0})
write bytes = change (λ s. record s { output = s.output ++ bytes })

abbrev pub ending : {A : Type 0} → (A → Ending) → Out A → Ending
ending returned (Next x s) = returned x
ending returned (Ends e s) = e

abbrev pub state_of : {A : Type 0} → Out A → CoreState
state_of (Next x s) = s
state_of (Ends e s) = s
