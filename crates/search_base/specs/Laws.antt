-- The laws on which what a search finds rests.
use Rattle.std.specs.Prelude.{◌≡◌, ℕ, ◌<◌, ◌^◌, true, List, length}
use Rattle.std.specs.List.{All}
use Rattle.sat_check.specs.declared.clause.Clause.{Clause}
use Rattle.sat_check.specs.declared.log.Entry.{Entry}
use Rattle.sat_check.specs.Clauses.{ClausesAreBelow}
use Rattle.sat_check.specs.Logs.{known_before, AllNew, EntriesAreBelow}
use Rattle.search_base.specs.declared.trail.Slot.{Slot}
use Rattle.search_base.specs.declared.trail.Step.{Step}
use Rattle.search_base.specs.Trails.{falses_of, Keeps, AllStuck, values_of}
use Rattle.search_base.specs.Searches.{IsSolution}

-- where each entry is new, there are fewer than 3^v over v variables
abbrev pub NewEntriesAreFew : Type 0
NewEntriesAreFew =
    (v : ℕ) (clauses : List Clause) (entries : List Entry) → EntriesAreBelow v entries → AllNew clauses entries → length entries < 3 ^ v

-- where every variable has a value and every clause is stuck, the values satisfy the clauses
abbrev pub StuckIsSolved : Type 0
StuckIsSolved =
    (variables : ℕ) (clauses : List Clause) (entries : List Entry) (slots : List Slot) (steps : List Step) → length slots ≡ variables → ClausesAreBelow variables clauses
    → Keeps (known_before clauses entries) slots steps → All (λ slot. slot.assigned ≡ true) slots → AllStuck clauses (falses_of steps)
    → IsSolution variables clauses (values_of slots)
