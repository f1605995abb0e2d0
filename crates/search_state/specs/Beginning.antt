-- What the first look at each clause comes to.
use Rattle.std.specs.Prelude.{◌≡◌, ℕ, ◌+◌, ◌<◌, ◌≢◌, Bool, true, false, List, [], length, take, Option, Some, None}
use Rattle.std.specs.List.{All, Contains}
use Rattle.sat_check.specs.declared.clause.Lit.{Lit}
use Rattle.sat_check.specs.declared.clause.Clause.{Clause}
use Rattle.sat_check.specs.Clauses.{opposite_of}
use Rattle.sat_check.specs.Logs.{IsUnit, known_before}
use Rattle.search_state.specs.declared.placed.PlacedTrail.{PlacedTrail}
use Rattle.search_state.specs.declared.watches.Pair.{Pair}
use Rattle.search_state.specs.declared.watches.Watches.{Watches}
use Rattle.search_state.specs.declared.beginning.Standing.{Standing}
use Rattle.search_state.specs.declared.beginning.Standing.TheVariants.{AllFalse, Single, True, Open}
use Rattle.search_base.specs.Trails.{falses_of}
use Rattle.search_base.specs.Propagation.{Extends, IsConflict}
use Rattle.search_state.specs.Watches.{IsTrail, AreWatched, AllGuarded}

pub record AreOpen (falses lits : List Lit) (first second : Lit) : Type 0 where
  pub first_stands : Contains lits first
  pub second_stands : Contains lits second
  pub first_free : ¬ Contains falses first
  pub second_free : ¬ Contains falses second
  pub apart : first ≢ second

abbrev pub StandingIs : List Lit → List Lit → Standing → Type 0
StandingIs falses lits AllFalse = All (Contains falses) lits
StandingIs falses lits (Single lit) = IsUnit falses lits lit
StandingIs falses lits (True lit) = Contains lits lit × Contains falses (opposite_of lit)
StandingIs falses lits (Open first second) = AreOpen falses lits first second

abbrev pub StandingIsBelow : ℕ → Standing → Type 0
StandingIsBelow variables AllFalse = Unit {0}
StandingIsBelow variables (Single lit) = lit.variable < variables
StandingIsBelow variables (True lit) = lit.variable < variables
StandingIsBelow variables (Open first second) = (first.variable < variables) × (second.variable < variables)

-- no clause was set aside
abbrev pub NoneIsAside : List Pair → Type 0
NoneIsAside pairs = All (λ pair. pair.aside ≡ false) pairs

-- what a look at the next clause does
pub record IsAdded (clauses : List Clause) (old_trail new_trail : PlacedTrail) (old new : Watches) (index : ℕ) (conflict : Bool) : Type 0 where
  pub len : length new_trail.trail.slots.items ≡ length old_trail.trail.slots.items
  pub trail : IsTrail (known_before clauses []) new_trail
  pub extends : Extends old_trail.trail.steps.items new_trail.trail.steps.items
  pub watched : AreWatched (length new_trail.trail.slots.items) (take (index + 1) clauses) new
  pub none_aside : NoneIsAside old.pairs.items → NoneIsAside new.pairs.items
  pub found : conflict ≡ true → IsConflict (known_before clauses []) (falses_of new_trail.trail.steps.items) index
  pub guarded : conflict ≡ false → AllGuarded (take index clauses) old.pairs.items (falses_of old_trail.trail.steps.items) [] → AllGuarded (take (index + 1) clauses) new.pairs.items (falses_of new_trail.trail.steps.items) []

-- what a look at each clause does
pub record AreAdded (clauses : List Clause) (old_trail new_trail : PlacedTrail) (new : Watches) (conflict : Option ℕ) : Type 0 where
  pub len : length new_trail.trail.slots.items ≡ length old_trail.trail.slots.items
  pub trail : IsTrail (known_before clauses []) new_trail
  pub extends : Extends old_trail.trail.steps.items new_trail.trail.steps.items
  pub watched : AreWatched (length new_trail.trail.slots.items) (known_before clauses []) new
  pub none_aside : NoneIsAside new.pairs.items
  pub found : (index : ℕ) → conflict ≡ Some index → IsConflict (known_before clauses []) (falses_of new_trail.trail.steps.items) index
  pub guarded : conflict ≡ None → AllGuarded (known_before clauses []) new.pairs.items (falses_of new_trail.trail.steps.items) []

-- and the propagation after it
pub record HasBegun (clauses : List Clause) (old_trail new_trail : PlacedTrail) (new : Watches) (conflict : Option ℕ) : Type 0 where
  pub len : length new_trail.trail.slots.items ≡ length old_trail.trail.slots.items
  pub trail : IsTrail (known_before clauses []) new_trail
  pub extends : Extends [] new_trail.trail.steps.items
  pub watched : AreWatched (length new_trail.trail.slots.items) (known_before clauses []) new
  pub none_aside : NoneIsAside new.pairs.items
  pub found : (index : ℕ) → conflict ≡ Some index → IsConflict (known_before clauses []) (falses_of new_trail.trail.steps.items) index
  pub guarded : conflict ≡ None → AllGuarded (known_before clauses []) new.pairs.items (falses_of new_trail.trail.steps.items) (falses_of new_trail.trail.steps.items)
