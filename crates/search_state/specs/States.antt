-- The state of a search.
use Rattle.std.specs.Prelude.{◌≡◌, ℕ, ◌-◌, ◌<◌, ◌≤◌, true, List, length, take, slice_get, Option, Some, None}
use Rattle.sat_check.specs.declared.clause.Clause.{Clause}
use Rattle.sat_check.specs.declared.log.Entry.{Entry}
use Rattle.sat_check.specs.Logs.{known_before}
use Rattle.search_base.specs.declared.trail.Step.{Step}
use Rattle.search_base.specs.Trails.{falses_of}
use Rattle.search_base.specs.Levels.{LevelsAre, EntriesAre}
use Rattle.search_state.specs.declared.placed.PlacedTrail.{PlacedTrail}
use Rattle.search_state.specs.declared.watches.Pair.{Pair}
use Rattle.search_state.specs.declared.watches.Watches.{Watches}
use Rattle.search_state.specs.Watches.{IsTrail, AreWatched, AllGuarded}
use Rattle.search_base.specs.Propagation.{IsConflict}

-- each clause was guarded where a level begins
abbrev pub AllLevelsGuarded : List Clause → List Step → List ℕ → Watches → Type 0
AllLevelsGuarded known steps levels watches =
    (level place : ℕ) → slice_get levels level ≡ Some place → AllGuarded known watches.pairs.items (falses_of (take place steps)) (falses_of (take place steps))

-- none of the clauses was set aside, but entries may have been
abbrev pub IsFirm : List Clause → List Pair → Type 0
IsFirm clauses pairs = (index : ℕ) (pair : Pair) → slice_get pairs index ≡ Some pair → pair.aside ≡ true → length clauses ≤ index

pub record IsState (clauses : List Clause) (placed : PlacedTrail) (levels : List ℕ) (watches : Watches) (entries : List Entry) : Type 0 where
  pub trail : IsTrail (known_before clauses entries) placed
  pub levels_are : LevelsAre clauses placed.trail.steps.items levels
  pub watched : AreWatched (length placed.trail.slots.items) (known_before clauses entries) watches
  pub guarded : AllLevelsGuarded (known_before clauses entries) placed.trail.steps.items levels watches
  pub firm : IsFirm clauses watches.pairs.items
  pub entries_are : EntriesAre (length placed.trail.slots.items) clauses entries

-- propagation found this clause to be false, or no clause, and then all are guarded
pub record Answers (known : List Clause) (steps : List Step) (watches : Watches) (conflict : Option ℕ) : Type 0 where
  pub found : (index : ℕ) → conflict ≡ Some index → IsConflict known (falses_of steps) index
  pub guarded : conflict ≡ None → AllGuarded known watches.pairs.items (falses_of steps) (falses_of steps)

-- the last step alone is still to be propagated
pub record IsAhead (known : List Clause) (steps : List Step) (watches : Watches) : Type 0 where
  pub some : 0 < length steps
  pub guarded : AllGuarded known watches.pairs.items (falses_of steps) (falses_of (take (length steps - 1) steps))
