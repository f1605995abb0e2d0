-- The turns of a search, and how it ends.
use Rattle.std.specs.Prelude.{◌≡◌, ℕ, ◌+◌, ◌-◌, ◌*◌, ◌<◌, ◌≤◌, ◌⊎◌, ◌++◌, ◌∷◌, [], true, List, length, take, slice_get, Option, Some}
use Rattle.std.specs.List.{All}
use Rattle.sat_check.specs.declared.clause.Lit.{Lit}
use Rattle.sat_check.specs.declared.clause.Clause.{Clause}
use Rattle.sat_check.specs.Logs.{known_before, IsUnit, IsRefutation, EntriesAreBelow}
use Rattle.search_state.specs.declared.watches.Pair.{Pair}
use Rattle.search_state.specs.declared.shelf.Shelf.{Shelf}
use Rattle.sat_search.specs.declared.solver.Solver.{Solver}
use Rattle.sat_search.specs.declared.solver.Learning.{Learning}
use Rattle.sat_search.specs.declared.solver.Learning.TheVariants.{Refuted, Asserted, Cleared, Conflict}
use Rattle.sat_search.specs.declared.running.Ending.{Ending}
use Rattle.sat_search.specs.declared.running.Ending.TheVariants as ending
use Rattle.sat_search.specs.declared.running.Turn.{Turn}
use Rattle.sat_search.specs.declared.running.Turn.TheVariants.{Ends, Goes}
use Rattle.search_base.specs.Trails.{falses_of, AllStuck, Keeps}
use Rattle.search_base.specs.Propagation.{IsConflict}
use Rattle.search_state.specs.Watches.{AllGuarded, IsFree, flags_of, count_true}
use Rattle.search_state.specs.Shelves.{IsAside, IsShelf, IsCarded}
use Rattle.search_base.specs.Levels.{EntriesAre}
use Rattle.search_state.specs.States.{IsState, Answers, IsAhead}
use Rattle.sat_search.specs.Marks.{IsReady}

-- each clause that was set aside stands on the shelf
abbrev pub AreCarded : List Clause → List Pair → Shelf → Type 0
AreCarded known pairs shelf = (index : ℕ) (clause : Clause) → slice_get known index ≡ Some clause → IsAside pairs index → IsCarded shelf index clause.lits

pub record Holds (clauses : List Clause) (s : Solver) : Type 0 where
  pub state : IsState clauses s.placed s.levels.items s.watches s.entries
  pub ready : IsReady (length s.placed.trail.slots.items) s.analysis
  pub shelf : IsShelf (length s.placed.trail.slots.items) s.shelf
  pub carded : AreCarded (known_before clauses s.entries) s.watches.pairs.items s.shelf

-- The steps from this place on were taken back, and an entry was kept. Where it is long enough, two of its
-- literals have no value there, and else one.
pub record IsKept (clauses : List Clause) (old new : Solver) (asserting : Lit) (keep place index : ℕ) : Type 0 where
  pub holds : Holds clauses new
  pub len : length new.placed.trail.slots.items ≡ length old.placed.trail.slots.items
  pub more : length new.entries ≡ length old.entries + 1
  pub steps : new.placed.trail.steps.items ≡ take place old.placed.trail.steps.items
  pub clause : Clause
  pub last : known_before clauses new.entries ≡ known_before clauses old.entries ++ clause ∷ []
  pub index_is : index ≡ length (known_before clauses old.entries)
  pub guarded : AllGuarded (known_before clauses old.entries) new.watches.pairs.items (falses_of (take place old.placed.trail.steps.items)) (falses_of (take place old.placed.trail.steps.items))
  pub unit : keep ≤ place → IsUnit (falses_of (take place old.placed.trail.steps.items)) clause.lits asserting
  pub free : place < keep → (pair : Pair) → slice_get new.watches.pairs.items index ≡ Some pair → IsFree (falses_of (take place old.placed.trail.steps.items)) pair
  pub below : asserting.variable < length old.placed.trail.slots.items

-- how many clauses were set aside
abbrev pub asides_of : Solver → ℕ
asides_of s = count_true (flags_of s.watches.pairs.items)

-- one entry more was kept, or one that was set aside watches again
abbrev pub IsNearer : Solver → Solver → Type 0
IsNearer old new = (length new.entries ≡ length old.entries + 1) ⊎ ((length new.entries ≡ length old.entries) × (asides_of new + 1 ≡ asides_of old))

pub record IsLearned (clauses : List Clause) (old new : Solver) : Type 0 where
  pub holds : Holds clauses new
  pub len : length new.placed.trail.slots.items ≡ length old.placed.trail.slots.items
  pub nearer : IsNearer old new

-- what learning comes to
abbrev pub LearnedIs : List Clause → Solver → Solver → Learning → Type 0
LearnedIs clauses old new Refuted =
    IsRefutation clauses new.entries × EntriesAreBelow (length new.placed.trail.slots.items) new.entries × (length new.entries ≡ length old.entries + 1) × (length new.placed.trail.slots.items ≡ length old.placed.trail.slots.items)
LearnedIs clauses old new Asserted =
    IsLearned clauses old new × IsAhead (known_before clauses new.entries) new.placed.trail.steps.items new.watches
LearnedIs clauses old new Cleared =
    IsLearned clauses old new × AllGuarded (known_before clauses new.entries) new.watches.pairs.items (falses_of new.placed.trail.steps.items) (falses_of new.placed.trail.steps.items)
LearnedIs clauses old new (Conflict index) =
    IsLearned clauses old new × IsConflict (known_before clauses new.entries) (falses_of new.placed.trail.steps.items) index

-- no entry more, and one that was set aside watches again
pub record IsTaken (clauses : List Clause) (old new : Solver) : Type 0 where
  pub holds : Holds clauses new
  pub len : length new.placed.trail.slots.items ≡ length old.placed.trail.slots.items
  pub entries : new.entries ≡ old.entries
  pub fewer : asides_of new + 1 ≡ asides_of old

-- what it comes to that an entry watches again
abbrev pub TakenIs : List Clause → Solver → Solver → Learning → Type 0
TakenIs clauses old new Refuted = ⊥
TakenIs clauses old new Asserted =
    IsTaken clauses old new × IsAhead (known_before clauses new.entries) new.placed.trail.steps.items new.watches
TakenIs clauses old new Cleared =
    IsTaken clauses old new × AllGuarded (known_before clauses new.entries) new.watches.pairs.items (falses_of new.placed.trail.steps.items) (falses_of new.placed.trail.steps.items)
TakenIs clauses old new (Conflict index) =
    IsTaken clauses old new × IsConflict (known_before clauses new.entries) (falses_of new.placed.trail.steps.items) index

-- one entry more was kept, as one that was set aside
pub record IsKeptAside (clauses : List Clause) (old new : Solver) (number : ℕ) : Type 0 where
  pub holds : Holds clauses new
  pub placed : new.placed ≡ old.placed
  pub levels : new.levels ≡ old.levels
  pub more : length new.entries ≡ length old.entries + 1
  pub aside : IsAside new.watches.pairs.items number

-- some entries were set aside, and nothing else happened
pub record IsReduced (clauses : List Clause) (old new : Solver) : Type 0 where
  pub holds : Holds clauses new
  pub placed : new.placed ≡ old.placed
  pub entries : new.entries ≡ old.entries
  pub guarded : (falses before : List Lit) → AllGuarded (known_before clauses old.entries) old.watches.pairs.items falses before → AllGuarded (known_before clauses old.entries) new.watches.pairs.items falses before

-- each variable has a value, and each of the clauses is stuck
pub record IsWhole (clauses : List Clause) (s : Solver) : Type 0 where
  pub assigned : All (λ slot. slot.assigned ≡ true) s.placed.trail.slots.items
  pub keeps : Keeps (known_before clauses s.entries) s.placed.trail.slots.items s.placed.trail.steps.items
  pub stuck : AllStuck clauses (falses_of s.placed.trail.steps.items)

pub record IsRefuted (clauses : List Clause) (conflicts : ℕ) (s : Solver) : Type 0 where
  pub refutation : IsRefutation clauses s.entries
  pub below : EntriesAreBelow (length s.placed.trail.slots.items) s.entries
  pub within : length s.entries ≤ conflicts

pub record IsAtEnd (clauses : List Clause) (conflicts : ℕ) (s : Solver) : Type 0 where
  pub entries_are : EntriesAre (length s.placed.trail.slots.items) clauses s.entries
  pub all : length s.entries ≡ conflicts

abbrev pub EndingIs : List Clause → ℕ → Solver → Ending → Type 0
EndingIs clauses conflicts s ending.Satisfied = IsWhole clauses s
EndingIs clauses conflicts s ending.Refuted = IsRefuted clauses conflicts s
EndingIs clauses conflicts s ending.Spent = IsAtEnd clauses conflicts s

-- what is left to do: entries to learn, then such to take up that were set aside, and then variables to give a value
abbrev pub left_of : List Clause → ℕ → Solver → ℕ
left_of clauses conflicts s =
    ((conflicts - length s.entries) * (length clauses + conflicts + 1) + asides_of s) * (length s.placed.trail.slots.items + 1) + (length s.placed.trail.slots.items - length s.placed.trail.steps.items)

pub record GoesOn (clauses : List Clause) (conflicts left : ℕ) (s : Solver) (conflict : Option ℕ) : Type 0 where
  pub state : Holds clauses s
  pub answers : Answers (known_before clauses s.entries) s.placed.trail.steps.items s.watches conflict
  pub within : length s.entries ≤ conflicts
  pub less : left_of clauses conflicts s < left

abbrev pub TurnIs : List Clause → ℕ → ℕ → Solver → Turn → Type 0
TurnIs clauses conflicts left s (Ends ending) = EndingIs clauses conflicts s ending
TurnIs clauses conflicts left s (Goes conflict) = GoesOn clauses conflicts left s conflict
