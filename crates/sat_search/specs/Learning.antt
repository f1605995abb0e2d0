-- What a conflict teaches: a clause that follows, and the hints by which it does.
use Rattle.std.specs.Prelude.{◌≡◌, ℕ, ◌-◌, ◌<◌, ◌≤◌, ◌⊎◌, List, take, slice_get, Option, Some, IsSome}
use Rattle.std.specs.List.{Contains}
use Rattle.sat_check.specs.declared.clause.Lit.{Lit}
use Rattle.sat_check.specs.declared.clause.Clause.{Clause}
use Rattle.sat_check.specs.Logs.{Refutes}
use Rattle.search_base.specs.declared.trail.Step.{Step}
use Rattle.search_base.specs.Trails.{falses_of}

-- the literal became false on the last level, which begins at this place
pub record IsLate (steps : List Step) (start : ℕ) (lit : Lit) : Type 0 where
  pub place : ℕ
  pub step : Step
  pub late : start ≤ place
  pub at : slice_get steps place ≡ Some step
  pub same : step.falsified ≡ lit

-- The clause follows. All its literals but the asserting one, which is of the last level, were false at a place
-- before that level. The place is the first such.
pub record Learns (known : List Clause) (steps : List Step) (start : ℕ) (lits : List Lit) (hints : List ℕ) (asserting : Option Lit) (keep : ℕ) : Type 0 where
  pub refutes : Refutes known lits hints
  pub among : (lit : Lit) → Contains lits lit → Contains (falses_of steps) lit
  pub others : (lit : Lit) → Contains lits lit → (asserting ≡ Some lit) ⊎ Contains (falses_of (take keep steps)) lit
  pub late : (lit : Lit) → asserting ≡ Some lit → IsLate steps start lit
  pub stands : (lit : Lit) → asserting ≡ Some lit → Contains lits lit
  pub keep_le : keep ≤ start
  pub last : 0 < keep → (step : Step) × (slice_get steps (keep - 1) ≡ Some step) × Contains lits step.falsified

-- all steps before this place have reasons
abbrev pub IsBase : List Step → ℕ → Type 0
IsBase steps base = (place : ℕ) (step : Step) → place < base → slice_get steps place ≡ Some step → IsSome step.reason

-- the literal became false at this place
abbrev pub IsFalseAt : List Step → Lit → ℕ → Type 0
IsFalseAt steps lit place = (step : Step) × (slice_get steps place ≡ Some step) × (step.falsified ≡ lit)

-- the literals became false before this place, which is the first such and isn't past that start
pub record KeepIs (steps : List Step) (lits : List Lit) (start keep : ℕ) : Type 0 where
  pub before : (lit : Lit) → Contains lits lit → Contains (falses_of (take keep steps)) lit
  pub keep_le : keep ≤ start
  pub last : 0 < keep → (step : Step) × (slice_get steps (keep - 1) ≡ Some step) × Contains lits step.falsified
