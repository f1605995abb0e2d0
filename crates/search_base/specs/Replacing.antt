-- What a conflict teaches: a clause that follows, and the hints by which it does.
use Rattle.std.specs.Prelude.{◌≡◌, ℕ, ◌-◌, ◌<◌, ◌≤◌, ◌⊎◌, Bool, true, List, reverse, take, slice_get, Some, None}
use Rattle.std.specs.List.{Contains}
use Rattle.sat_check.specs.declared.clause.Lit.{Lit}
use Rattle.sat_check.specs.declared.clause.Clause.{Clause}
use Rattle.sat_check.specs.Logs.{Refutes}
use Rattle.search_base.specs.declared.trail.Step.{Step}
use Rattle.search_base.specs.Trails.{falses_of}

-- the decision that opened the level became this literal
abbrev pub IsDecision : List Step → ℕ → Lit → Type 0
IsDecision steps start lit = (step : Step) × (slice_get steps start ≡ Some step) × (step.reason ≡ None) × (step.falsified ≡ lit)

-- The trail is gone over from its end, and has been down to `at`. These literals, if false, and what else is
-- marked below lead by the hints, last hint first, to a clause that is false.
pub record FitsWalk (steps : List Step) (at : ℕ) (marks : List Bool) (lits falses : List Lit) : Type 0 where
  pub among : (lit : Lit) → Contains falses lit → Contains (falses_of steps) lit
  pub kept : (lit : Lit) → Contains lits lit → Contains falses lit
  pub marked : (place : ℕ) (step : Step) → place < at → slice_get steps place ≡ Some step → slice_get marks step.falsified.variable ≡ Some true → Contains falses step.falsified
  pub late : (place : ℕ) (step : Step) → at ≤ place → slice_get steps place ≡ Some step → Contains falses step.falsified → Contains lits step.falsified

pub record Walked (known : List Clause) (steps : List Step) (start at : ℕ) (marks : List Bool) (lits : List Lit) (hints : List ℕ) (keep : ℕ) : Type 0 where
  pub refutes : (falses : List Lit) → FitsWalk steps at marks lits falses → Refutes known falses (reverse hints)
  pub from : (lit : Lit) → Contains lits lit → (place : ℕ) × (step : Step) × (at ≤ place) × (slice_get steps place ≡ Some step) × (step.falsified ≡ lit)
  pub decided : (lit : Lit) → Contains lits lit → IsDecision steps start lit ⊎ Contains (falses_of (take keep steps)) lit
  pub low : 0 < keep → at < keep
  pub keep_le : keep ≤ start
  pub last : 0 < keep → (step : Step) × (slice_get steps (keep - 1) ≡ Some step) × Contains lits step.falsified

-- The clause follows, and all its literals but the decision of the last level were false at a place before
-- that level. The place is the first such.
pub record Learns (known : List Clause) (steps : List Step) (start : ℕ) (lits : List Lit) (hints : List ℕ) (keep : ℕ) : Type 0 where
  pub refutes : Refutes known lits hints
  pub among : (lit : Lit) → Contains lits lit → Contains (falses_of steps) lit
  pub decided : (lit : Lit) → Contains lits lit → IsDecision steps start lit ⊎ Contains (falses_of (take keep steps)) lit
  pub keep_le : keep ≤ start
  pub last : 0 < keep → (step : Step) × (slice_get steps (keep - 1) ≡ Some step) × Contains lits step.falsified
