-- Propagation: each clause is looked at again once a literal of it has become false.
use Rattle.std.specs.Prelude.{◌≡◌, ℕ, ◌≤◌, ◌⊎◌, Bool, true, false, List, length, slice_get, Option, Some, None}
use Rattle.std.specs.List.{Contains}
use Rattle.sat_check.specs.declared.clause.Lit.{Lit}
use Rattle.sat_check.specs.declared.clause.Clause.{Clause}
use Rattle.search_base.specs.declared.trail.Slot.{Slot}
use Rattle.search_base.specs.declared.trail.Step.{Step}
use Rattle.search_base.specs.Trails.{falses_of, Keeps, IsStuck, AllStuck}
use Rattle.search_base.specs.Propagation.{Extends, IsConflict}

-- a literal of the clause became false at this step or at a later one
pub record IsPending (steps : List Step) (head : ℕ) (lits : List Lit) : Type 0 where
  pub place : ℕ
  pub step : Step
  pub late : head ≤ place
  pub at : slice_get steps place ≡ Some step
  pub stands : Contains lits step.falsified

abbrev pub IsSettled : List Step → ℕ → List Lit → Type 0
IsSettled steps head lits = IsStuck (falses_of steps) lits ⊎ IsPending steps head lits

abbrev pub AllSettled : List Clause → List Step → ℕ → Type 0
AllSettled known steps head = (index : ℕ) (clause : Clause) → slice_get known index ≡ Some clause → IsSettled steps head clause.lits

-- what a look at one clause does to the trail, and whether it found a conflict
pub record Visits (known : List Clause) (old : List Step) (slots : List Slot) (new : List Step) (index : ℕ) (conflict : Bool) : Type 0 where
  pub keeps : Keeps known slots new
  pub extends : Extends old new
  pub found : conflict ≡ true → IsConflict known (falses_of new) index
  pub stuck : conflict ≡ false → (clause : Clause) → slice_get known index ≡ Some clause → IsStuck (falses_of new) clause.lits

-- what a look at each of these clauses does to the trail, and at which it found a conflict
pub record VisitsAll (known : List Clause) (old : List Step) (slots : List Slot) (new : List Step) (indices : List ℕ) (conflict : Option ℕ) : Type 0 where
  pub keeps : Keeps known slots new
  pub extends : Extends old new
  pub found : (index : ℕ) → conflict ≡ Some index → IsConflict known (falses_of new) index
  pub settled : conflict ≡ None → (index : ℕ) (clause : Clause) → Contains indices index → slice_get known index ≡ Some clause → IsSettled new (length old) clause.lits

-- what propagation to the end does to the trail, and at which clause it found a conflict
pub record Propagates (known : List Clause) (old : List Step) (slots : List Slot) (new : List Step) (conflict : Option ℕ) : Type 0 where
  pub keeps : Keeps known slots new
  pub extends : Extends old new
  pub found : (index : ℕ) → conflict ≡ Some index → IsConflict known (falses_of new) index
  pub stuck : conflict ≡ None → AllStuck known (falses_of new)

-- what a look at each clause does to the trail
pub record Begins (known : List Clause) (old : List Step) (slots : List Slot) (steps : List Step) (conflict : Option ℕ) : Type 0 where
  pub keeps : Keeps known slots steps
  pub extends : Extends old steps
  pub found : (index : ℕ) → conflict ≡ Some index → IsConflict known (falses_of steps) index
  pub settled : conflict ≡ None → AllSettled known steps 0
