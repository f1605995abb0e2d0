-- The state of a run, and how one part of a run follows another.
use Rattle.std.specs.Prelude.{ℕ, zero, suc, List, [], ◌∷◌, ◌++◌}
use Rattle.gc0_base.specs.declared.site.Site.{Site}
use Rattle.gc0_base.specs.declared.site.Ending.{Ending}
use Rattle.gc0_base.specs.declared.site.Ending.TheVariants.{StepsUsed}
use Rattle.c0_meaning.specs.Heaps.{Heap, Cells}

pub record State : Type 0 where
  -- the words of the running call's locals, by number
  pub locals : List ℕ
  pub heap : Heap
  -- what the running level owns
  pub owned : Cells
  -- the numbers of the input that are left
  pub input : List ℕ
  pub output : List ℕ
  -- the steps that are left
  pub steps : ℕ
  -- what was decided, the earliest first
  pub sites : List Site

-- A part of a run goes on with a value, or ends the run.
pub data Out (A : Type 0) : Type 0 where
  Next : A → State → Out A
  Ends : Ending → State → Out A

abbrev pub Run : Type 0 → Type 0
Run A = State → Out A

abbrev pub go_on : {A B : Type 0} → Out A → (A → Run B) → Out B
go_on (Next x s) f = f x s
go_on (Ends e s) f = Ends e s

-- one after the other
unfoldable pub chain : {A B : Type 0} → Run A → (A → Run B) → Run B
chain m f s = go_on (m s) f

infixl 10 ◌>>=◌
abbrev pub ◌>>=◌ : {A B : Type 0} → Run A → (A → Run B) → Run B
m >>= f = chain m f

infixl 10 ◌>>◌
abbrev pub ◌>>◌ : {A B : Type 0} → Run A → Run B → Run B
m >> n = chain m (λ _. n)

unfoldable pub give : {A : Type 0} → A → Run A
give x s = Next x s

unfoldable pub end : {A : Type 0} → Ending → Run A
end e s = Ends e s

unfoldable pub get : {A : Type 0} → (State → A) → Run A
get f s = Next (f s) s

unfoldable pub change : (State → State) → Run (Unit {0})
change f s = Next tt (f s)

abbrev pub take_step : ℕ → State → Out (Unit {0})
take_step zero s = Ends StepsUsed s
take_step (suc n) s = Next tt record s { steps = n }

-- a step is due
abbrev pub step : Run (Unit {0})
step s = take_step s.steps s

-- a site where something is decided
abbrev pub visit : Site → Run (Unit {0})
visit site = change (λ s. record s { sites = s.sites ++ site ∷ [] })

abbrev pub write : List ℕ → Run (Unit {0})
write bytes = change (λ s. record s { output = s.output ++ bytes })

abbrev pub ending : {A : Type 0} → (A → Ending) → Out A → Ending
ending returned (Next x s) = returned x
ending returned (Ends e s) = e

abbrev pub state_of : {A : Type 0} → Out A → State
state_of (Next x s) = s
state_of (Ends e s) = s
