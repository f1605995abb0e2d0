-- Two watched literals: a clause is looked at again only where one of the two that it watches becomes false.
use Rattle.std.specs.Prelude.{◌≡◌, ℕ, zero, suc, ◌≤◌, ◌⊎◌, ◌≢◌, Bool, false, List, [], ◌∷◌, ◌++◌, length, map, slice_get, slice_set, sum_by, Some, if◌then◌else◌}
use Rattle.std.specs.declared.vec.Vec.{Vec}
use Rattle.std.specs.declared.alloc.Global.{Global}
use Rattle.std.specs.List.{Contains}
use Rattle.sat_check.specs.declared.clause.Lit.{Lit}
use Rattle.sat_check.specs.declared.clause.Clause.{Clause}
use Rattle.sat_check.specs.Clauses.{opposite_of}
use Rattle.search_base.specs.declared.trail.Step.{Step}
use Rattle.search_state.specs.declared.placed.PlacedTrail.{PlacedTrail}
use Rattle.search_state.specs.declared.watches.Watcher.{Watcher}
use Rattle.search_state.specs.declared.watches.Pair.{Pair}
use Rattle.search_state.specs.declared.watches.Watches.{Watches}
use Rattle.search_base.specs.Trails.{falses_of, Keeps}
use Rattle.search_base.specs.Propagation.{Extends}

-- each variable of a step is kept with the step's place
abbrev pub IsLocated : List Step → List ℕ → Type 0
IsLocated steps places = (place : ℕ) (step : Step) → slice_get steps place ≡ Some step → slice_get places step.falsified.variable ≡ Some place

pub record IsTrail (known : List Clause) (placed : PlacedTrail) : Type 0 where
  pub keeps : Keeps known placed.trail.slots.items placed.trail.steps.items
  pub located : IsLocated placed.trail.steps.items placed.places.items
  pub places_len : length placed.places.items ≡ length placed.trail.slots.items

-- the list of that place, or nothing past the end
abbrev pub list_at : List (Vec Watcher Global) → ℕ → List Watcher
list_at [] place = []
list_at (list ∷ lists) zero = list.items
list_at (list ∷ lists) (suc place) = list_at lists place

abbrev pub watchers_of : Watches → Lit → List Watcher
watchers_of watches lit = list_at (if lit.positive then watches.positive.items else watches.negative.items) lit.variable

-- this list is now at that place, and all others are as they were
pub record IsWrittenAt (old new : List (Vec Watcher Global)) (place : ℕ) (list : List Watcher) : Type 0 where
  pub at : list_at new place ≡ list
  pub others : (other : ℕ) → other ≢ place → list_at new other ≡ list_at old other
  pub len : length new ≡ length old

-- this is now the list of the literal, and all others are as they were
pub record IsWritten (old new : Watches) (lit : Lit) (list : List Watcher) : Type 0 where
  pub at : watchers_of new lit ≡ list
  pub others : (other : Lit) → other ≢ lit → watchers_of new other ≡ watchers_of old other
  pub positive_len : length new.positive.items ≡ length old.positive.items
  pub negative_len : length new.negative.items ≡ length old.negative.items
  pub pairs : new.pairs.items ≡ old.pairs.items

-- some watcher from this place on is of the clause of that number
pub record IsListed (list : List Watcher) (from index : ℕ) : Type 0 where
  pub place : ℕ
  pub watcher : Watcher
  pub late : from ≤ place
  pub at : slice_get list place ≡ Some watcher
  pub same : watcher.index ≡ index

-- both literals stand in the clause, and it is among their watchers
pub record IsPairOf (watches : Watches) (index : ℕ) (lits : List Lit) (pair : Pair) : Type 0 where
  pub first_stands : Contains lits pair.first
  pub second_stands : Contains lits pair.second
  pub first_listed : IsListed (watchers_of watches pair.first) 0 index
  pub second_listed : IsListed (watchers_of watches pair.second) 0 index

-- a watcher is of a clause, in which its blocker stands
pub record IsWatcher (known : List Clause) (watcher : Watcher) : Type 0 where
  pub clause : Clause
  pub named : slice_get known watcher.index ≡ Some clause
  pub stands : Contains clause.lits watcher.blocker

pub record AreWatched (variables : ℕ) (known : List Clause) (watches : Watches) : Type 0 where
  pub positive_len : length watches.positive.items ≡ variables
  pub negative_len : length watches.negative.items ≡ variables
  pub pairs_len : length watches.pairs.items ≡ length known
  pub pairs : (index : ℕ) (clause : Clause) (pair : Pair) → slice_get known index ≡ Some clause → slice_get watches.pairs.items index ≡ Some pair → pair.first ≢ pair.second → IsPairOf watches index clause.lits pair
  pub watchers : (lit : Lit) (watcher : Watcher) → Contains (watchers_of watches lit) watcher → IsWatcher known watcher

abbrev pub HasTrue : List Lit → List Lit → Type 0
HasTrue falses lits = (lit : Lit) × Contains lits lit × Contains falses (opposite_of lit)

-- two literals, and neither is false
pub record IsFree (falses : List Lit) (pair : Pair) : Type 0 where
  pub first : ¬ Contains falses pair.first
  pub second : ¬ Contains falses pair.second
  pub apart : pair.first ≢ pair.second

-- a literal of the clause is true, or neither that it watches was false before
abbrev pub Guards : List Lit → List Lit → Pair → List Lit → Type 0
Guards falses before pair lits = HasTrue falses lits ⊎ IsFree before pair

-- so is each clause that wasn't set aside
abbrev pub AllGuarded : List Clause → List Pair → List Lit → List Lit → Type 0
AllGuarded known pairs falses before =
    (index : ℕ) (clause : Clause) (pair : Pair) → slice_get known index ≡ Some clause → slice_get pairs index ≡ Some pair → pair.aside ≡ false → Guards falses before pair clause.lits

-- where neither is so once this literal is taken as false, a look is still due
abbrev pub AllDue : List Clause → Watches → List Lit → List Lit → Lit → ℕ → Type 0
AllDue known watches falses before falsified from =
    (index : ℕ) (clause : Clause) (pair : Pair) → slice_get known index ≡ Some clause → slice_get watches.pairs.items index ≡ Some pair → pair.aside ≡ false
    → Guards falses (before ++ falsified ∷ []) pair clause.lits ⊎ (Guards falses before pair clause.lits × IsListed (watchers_of watches falsified) from index)

abbrev pub Within : List Lit → List Lit → Type 0
Within few many = (lit : Lit) → Contains few lit → Contains many lit

-- which clauses were set aside
abbrev pub flags_of : List Pair → List Bool
flags_of pairs = map (λ pair. pair.aside) pairs

abbrev pub count_true : List Bool → ℕ
count_true flags = sum_by (λ flag. if flag then 1 else 0) flags

-- what propagation keeps: also that clauses were guarded at an earlier place of the trail
pub record Advances (known : List Clause) (old_trail new_trail : PlacedTrail) (old new : Watches) : Type 0 where
  pub len : length new_trail.trail.slots.items ≡ length old_trail.trail.slots.items
  pub trail : IsTrail known new_trail
  pub extends : Extends old_trail.trail.steps.items new_trail.trail.steps.items
  pub watched : AreWatched (length new_trail.trail.slots.items) known new
  pub flags : flags_of new.pairs.items ≡ flags_of old.pairs.items
  pub cuts : (falses : List Lit) → Within falses (falses_of old_trail.trail.steps.items) → AllGuarded known old.pairs.items falses falses → AllGuarded known new.pairs.items falses falses

-- the clause of that number is also listed under both literals of the pair, unless they are one
pub record ListsMore (old new : Watches) (index : ℕ) (pair : Pair) : Type 0 where
  pub kept : (lit : Lit) (number : ℕ) → IsListed (watchers_of old lit) 0 number → IsListed (watchers_of new lit) 0 number
  pub first_listed : pair.first ≢ pair.second → IsListed (watchers_of new pair.first) 0 index
  pub second_listed : pair.first ≢ pair.second → IsListed (watchers_of new pair.second) 0 index
  pub among : (lit : Lit) (watcher : Watcher) → Contains (watchers_of new lit) watcher → Contains (watchers_of old lit) watcher ⊎ ((pair.first ≢ pair.second) × (watcher.index ≡ index) × ((watcher.blocker ≡ pair.first) ⊎ (watcher.blocker ≡ pair.second)))
  pub positive_len : length new.positive.items ≡ length old.positive.items
  pub negative_len : length new.negative.items ≡ length old.negative.items

-- the clause of that number is one more, and watches the pair
pub record WatchesMore (old new : Watches) (index : ℕ) (pair : Pair) : Type 0 where
  pub pairs : new.pairs.items ≡ old.pairs.items ++ pair ∷ []
  pub lists : ListsMore old new index pair

-- the clause of that number watches the pair from now on
pub record IsPut (old new : Watches) (index : ℕ) (pair : Pair) : Type 0 where
  pub pairs : new.pairs.items ≡ slice_set old.pairs.items index pair
  pub lists : ListsMore old new index pair
