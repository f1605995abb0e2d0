-- The levels of a trail, and the entries learned so far.
use Rattle.std.specs.Prelude.{◌≡◌, ℕ, ◌-◌, ◌<◌, ◌⊎◌, List, [], length, take, slice_get, Some, None}
use Rattle.std.specs.List.{Contains}
use Rattle.sat_check.specs.declared.clause.Clause.{Clause}
use Rattle.sat_check.specs.declared.log.Entry.{Entry}
use Rattle.sat_check.specs.Logs.{AllFollow, AllNew, EntriesAreBelow}
use Rattle.search_base.specs.declared.trail.Step.{Step}
use Rattle.search_base.specs.Trails.{falses_of, AllStuck}
use Rattle.search_base.specs.Searches.{IsRefutedByPropagation}

-- Each level begins at a decision, and before it each of the clauses was stuck.
pub record LevelsAre (known : List Clause) (steps : List Step) (levels : List ℕ) : Type 0 where
  pub within : (level place : ℕ) → slice_get levels level ≡ Some place → place < length steps
  pub stuck : (level place : ℕ) → slice_get levels level ≡ Some place → AllStuck known (falses_of (take place steps))
  pub rising : (i k a b : ℕ) → i < k → slice_get levels i ≡ Some a → slice_get levels k ≡ Some b → a < b
  pub decisions : (place : ℕ) (step : Step) → slice_get steps place ≡ Some step → step.reason ≡ None → Contains levels place

-- The entries follow and are new. Where there are some, propagation alone doesn't refute the clauses.
pub record EntriesAre (variables : ℕ) (clauses : List Clause) (entries : List Entry) : Type 0 where
  pub below : EntriesAreBelow variables entries
  pub follow : AllFollow clauses entries (length entries)
  pub new : AllNew clauses entries
  pub not_propagated : 0 < length entries → ¬ IsRefutedByPropagation clauses

-- where the last level begins, or 0 where there is none
abbrev pub IsStart : List ℕ → ℕ → Type 0
IsStart levels start = ((levels ≡ []) × (start ≡ 0)) ⊎ (slice_get levels (length levels - 1) ≡ Some start)
