-- The state of a search.
use Rattle.std.specs.Prelude.{◌≡◌, ℕ, ◌-◌, ◌<◌, List, length, Option, Some, None}
use Rattle.std.specs.declared.vec.Vec.{Vec}
use Rattle.std.specs.declared.alloc.Global.{Global}
use Rattle.sat_check.specs.declared.clause.Clause.{Clause}
use Rattle.sat_check.specs.declared.log.Entry.{Entry}
use Rattle.sat_check.specs.Logs.{known_before}
use Rattle.search_base.specs.declared.trail.Slot.{Slot}
use Rattle.search_base.specs.declared.trail.Step.{Step}
use Rattle.search_base.specs.Trails.{falses_of, Keeps, AllStuck}
use Rattle.plain_search.specs.Occurrences.{IsComplete}
use Rattle.plain_search.specs.Looks.{AllSettled}
use Rattle.search_base.specs.Propagation.{IsConflict}
use Rattle.search_base.specs.Levels.{LevelsAre, EntriesAre}

pub record IsState (variables : ℕ) (clauses : List Clause) (slots : List Slot) (steps : List Step) (levels : List ℕ) (positive negative : List (Vec ℕ Global)) (entries : List Entry) : Type 0 where
  pub all : length slots ≡ variables
  pub keeps : Keeps (known_before clauses entries) slots steps
  pub levels_are : LevelsAre (known_before clauses entries) steps levels
  pub complete : IsComplete (known_before clauses entries) positive negative
  pub positive_len : length positive ≡ length slots
  pub negative_len : length negative ≡ length slots
  pub entries_are : EntriesAre variables clauses entries

-- propagation found this clause to be false, or no clause, and then all are stuck
pub record Answers (known : List Clause) (steps : List Step) (conflict : Option ℕ) : Type 0 where
  pub found : (index : ℕ) → conflict ≡ Some index → IsConflict known (falses_of steps) index
  pub stuck : conflict ≡ None → AllStuck known (falses_of steps)

-- the last step alone is still to be propagated
pub record IsAhead (known : List Clause) (steps : List Step) : Type 0 where
  pub some : 0 < length steps
  pub settled : AllSettled known steps (length steps - 1)
