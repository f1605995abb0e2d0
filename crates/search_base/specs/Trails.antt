-- The trail of a search: the literals that are false, oldest first, with the clauses that made them so.
use Rattle.std.specs.Prelude.{◌≡◌, ℕ, ◌+◌, ◌<◌, ◌↔◌, Bool, true, if◌then◌else◌, not, List, length, map, take, slice_get, sum_by, Some}
use Rattle.std.specs.Option.{ForSome}
use Rattle.std.specs.List.{All, Contains}
use Rattle.sat_check.specs.declared.clause.Lit.{Lit}
use Rattle.sat_check.specs.declared.clause.Clause.{Clause}
use Rattle.sat_check.specs.Clauses.{opposite_of}
use Rattle.sat_check.specs.Logs.{HasNoValue, IsUnit}
use Rattle.search_base.specs.declared.trail.Slot.{Slot}
use Rattle.search_base.specs.declared.trail.Step.{Step}
use Rattle.search_base.specs.declared.trail.Reading.{Reading}
use Rattle.search_base.specs.declared.trail.Reading.TheVariants.{AllFalse, Single, Neither}

abbrev pub falses_of : List Step → List Lit
falses_of steps = map (λ step. step.falsified) steps

-- the slots say of each literal whether it is among these, which are false
abbrev pub Shows : List Slot → List Lit → Type 0
Shows slots falses = (lit : Lit) → lit.variable < length slots → Contains falses lit ↔ (slice_get slots lit.variable ≡ Some (record { assigned = true; positive = lit.positive }))

-- the clause of that number made the literal false: its opposite was the one literal left
abbrev pub IsReason : List Clause → List Lit → Lit → ℕ → Type 0
IsReason known before falsified reason = (clause : Clause) × (slice_get known reason ≡ Some clause) × IsUnit before clause.lits (opposite_of falsified)

-- a step from the literals that are false before it
pub record IsStep (variables : ℕ) (known : List Clause) (before : List Lit) (step : Step) : Type 0 where
  pub below : step.falsified.variable < variables
  pub without_value : HasNoValue before step.falsified
  pub reason : ForSome step.reason (IsReason known before step.falsified)

abbrev pub weight_of : Slot → ℕ
weight_of slot = if slot.assigned then 0 else 1

-- slots and steps say the same, and each step is one from those before it
pub record Keeps (known : List Clause) (slots : List Slot) (steps : List Step) : Type 0 where
  pub shows : Shows slots (falses_of steps)
  pub each : (index : ℕ) (step : Step) → slice_get steps index ≡ Some step → IsStep (length slots) known (falses_of (take index steps)) step
  pub counted : length steps + sum_by weight_of slots ≡ length slots

-- no literal of the clause follows, and it isn't false
pub record IsStuck (falses lits : List Lit) : Type 0 where
  pub not_false : ¬ All (Contains falses) lits
  pub not_unit : (lit : Lit) → ¬ IsUnit falses lits lit

abbrev pub AllStuck : List Clause → List Lit → Type 0
AllStuck known falses = (index : ℕ) (clause : Clause) → slice_get known index ≡ Some clause → IsStuck falses clause.lits

-- what the values make of a clause
abbrev pub ReadingIs : List Lit → List Lit → Reading → Type 0
ReadingIs falses lits AllFalse = All (Contains falses) lits
ReadingIs falses lits (Single lit) = IsUnit falses lits lit
ReadingIs falses lits Neither = IsStuck falses lits

abbrev pub SingleIsBelow : ℕ → Reading → Type 0
SingleIsBelow variables AllFalse = Unit {0}
SingleIsBelow variables (Single lit) = lit.variable < variables
SingleIsBelow variables Neither = Unit {0}

-- a variable is true where its negative literal is the one that is false
abbrev pub values_of : List Slot → List Bool
values_of slots = map (λ slot. not slot.positive) slots
