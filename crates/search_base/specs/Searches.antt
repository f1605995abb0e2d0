-- What a search may find: this project's own, over the definitions of logs.
use Rattle.std.specs.Prelude.{◌≡◌, ℕ, ◌≤◌, Bool, false, List, [], length, slice_index_or}
use Rattle.sat_check.specs.declared.clause.Clause.{Clause}
use Rattle.sat_check.specs.declared.log.Entry.{Entry}
use Rattle.sat_check.specs.Clauses.{Satisfies}
use Rattle.sat_check.specs.Logs.{Follows, AllFollow, AllNew, IsRefutation, EntriesAreBelow}
use Rattle.search_base.specs.declared.found.Found.{Found}
use Rattle.search_base.specs.declared.found.Found.TheVariants.{Assignment, Refuted, Spent}

-- the assignment that a list of values gives; a variable past its end is false
abbrev pub assignment_of : List Bool → (ℕ → Bool)
assignment_of values variable = slice_index_or values variable false

-- a value for each variable, under which each clause is true
pub record IsSolution (variables : ℕ) (clauses : List Clause) (values : List Bool) : Type 0 where
  pub all : length values ≡ variables
  pub satisfies : Satisfies (assignment_of values) clauses

-- a refutation of at most so many entries
pub record IsRefutationWithin (variables : ℕ) (clauses : List Clause) (conflicts : ℕ) (entries : List Entry) : Type 0 where
  pub refutation : IsRefutation clauses entries
  pub within : length entries ≤ conflicts
  pub below : EntriesAreBelow variables entries

-- so many entries, each of which follows and is new
pub record IsSpent (variables : ℕ) (clauses : List Clause) (conflicts : ℕ) (entries : List Entry) : Type 0 where
  pub all : length entries ≡ conflicts
  pub follow : AllFollow clauses entries (length entries)
  pub new : AllNew clauses entries
  pub below : EntriesAreBelow variables entries

-- by some hints the empty entry follows from the clauses alone
abbrev pub IsRefutedByPropagation : List Clause → Type 0
IsRefutedByPropagation clauses = (hints : List ℕ) × Follows clauses (record { clause = record { lits = [] }; hints = hints })

-- a fact for one kind of find
abbrev pub IfAssignment : Found → (List Bool → Type 0) → Type 0
IfAssignment (Assignment values) P = P values
IfAssignment (Refuted log) P = Unit {0}
IfAssignment (Spent log) P = Unit {0}

abbrev pub IfRefuted : Found → (List Entry → Type 0) → Type 0
IfRefuted (Assignment values) P = Unit {0}
IfRefuted (Refuted log) P = P log.entries
IfRefuted (Spent log) P = Unit {0}

abbrev pub IfSpent : Found → (List Entry → Type 0) → Type 0
IfSpent (Assignment values) P = Unit {0}
IfSpent (Refuted log) P = Unit {0}
IfSpent (Spent log) P = P log.entries
