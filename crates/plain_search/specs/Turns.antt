-- The turns of a search, and how it ends.
use Rattle.std.specs.Prelude.{◌≡◌, ℕ, ◌+◌, ◌-◌, ◌*◌, ◌<◌, ◌≤◌, true, List, length, Option}
use Rattle.std.specs.List.{All}
use Rattle.sat_check.specs.declared.clause.Clause.{Clause}
use Rattle.sat_check.specs.Logs.{known_before, IsRefutation, EntriesAreBelow}
use Rattle.plain_search.specs.declared.solver.Solver.{Solver}
use Rattle.plain_search.specs.declared.running.Ending.{Ending}
use Rattle.plain_search.specs.declared.running.Ending.TheVariants.{Satisfied, Refuted, Spent}
use Rattle.plain_search.specs.declared.running.Turn.{Turn}
use Rattle.plain_search.specs.declared.running.Turn.TheVariants.{Ends, Goes}
use Rattle.search_base.specs.Trails.{falses_of, Keeps, AllStuck}
use Rattle.plain_search.specs.States.{IsState, Answers}
use Rattle.search_base.specs.Levels.{EntriesAre}

abbrev pub Holds : List Clause → Solver → Type 0
Holds clauses s =
    IsState (length s.trail.slots.items) clauses s.trail.slots.items s.trail.steps.items s.levels.items s.occurrences.positive.items s.occurrences.negative.items s.entries

-- each variable has a value, and each clause is stuck
pub record IsWhole (clauses : List Clause) (s : Solver) : Type 0 where
  pub assigned : All (λ slot. slot.assigned ≡ true) s.trail.slots.items
  pub keeps : Keeps (known_before clauses s.entries) s.trail.slots.items s.trail.steps.items
  pub stuck : AllStuck (known_before clauses s.entries) (falses_of s.trail.steps.items)

pub record IsRefuted (clauses : List Clause) (conflicts : ℕ) (s : Solver) : Type 0 where
  pub refutation : IsRefutation clauses s.entries
  pub below : EntriesAreBelow (length s.trail.slots.items) s.entries
  pub within : length s.entries ≤ conflicts

pub record IsAtEnd (clauses : List Clause) (conflicts : ℕ) (s : Solver) : Type 0 where
  pub entries_are : EntriesAre (length s.trail.slots.items) clauses s.entries
  pub all : length s.entries ≡ conflicts

abbrev pub EndingIs : List Clause → ℕ → Solver → Ending → Type 0
EndingIs clauses conflicts s Satisfied = IsWhole clauses s
EndingIs clauses conflicts s Refuted = IsRefuted clauses conflicts s
EndingIs clauses conflicts s Spent = IsAtEnd clauses conflicts s

-- what is left to do: entries to learn, and then variables to give a value
abbrev pub left_of : ℕ → Solver → ℕ
left_of conflicts s = (conflicts - length s.entries) * (length s.trail.slots.items + 1) + (length s.trail.slots.items - length s.trail.steps.items)

pub record GoesOn (clauses : List Clause) (conflicts left : ℕ) (s : Solver) (conflict : Option ℕ) : Type 0 where
  pub state : Holds clauses s
  pub answers : Answers (known_before clauses s.entries) s.trail.steps.items conflict
  pub within : length s.entries ≤ conflicts
  pub less : left_of conflicts s < left

abbrev pub TurnIs : List Clause → ℕ → ℕ → Solver → Turn → Type 0
TurnIs clauses conflicts left s (Ends ending) = EndingIs clauses conflicts s ending
TurnIs clauses conflicts left s (Goes conflict) = GoesOn clauses conflicts left s conflict
