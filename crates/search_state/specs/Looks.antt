-- What looks at watchers come to.
use Rattle.std.specs.Prelude.{◌≡◌, ℕ, ◌+◌, ◌⊎◌, ◌≢◌, List, [], ◌∷◌, ◌++◌, length, slice_get, slice_set, Option, Some, None}
use Rattle.std.specs.List.{swap_remove}
use Rattle.sat_check.specs.declared.clause.Lit.{Lit}
use Rattle.sat_check.specs.declared.clause.Clause.{Clause}
use Rattle.search_state.specs.declared.placed.PlacedTrail.{PlacedTrail}
use Rattle.search_state.specs.declared.watches.Watcher.{Watcher}
use Rattle.search_state.specs.declared.watches.Pair.{Pair}
use Rattle.search_state.specs.declared.watches.Watches.{Watches}
use Rattle.search_state.specs.declared.propagation.Look.{Look}
use Rattle.search_state.specs.declared.propagation.Look.TheVariants.{Stays, Leaves, Conflict}
use Rattle.search_base.specs.Trails.{falses_of}
use Rattle.search_base.specs.Propagation.{IsConflict}
use Rattle.search_state.specs.Watches.{watchers_of, AllGuarded, AllDue, Within, Advances}

-- the literal of a pair beside this one
abbrev pub OtherIs : Pair → Lit → Option Lit → Type 0
OtherIs pair lit None = (pair.first ≡ pair.second) ⊎ ((pair.first ≢ lit) × (pair.second ≢ lit))
OtherIs pair lit (Some other) = (pair.first ≢ pair.second) × (((pair.first ≡ lit) × (pair.second ≡ other)) ⊎ ((pair.second ≡ lit) × (pair.first ≡ other)))

-- at that place of the literal's list stands a watcher of the clause of that number, which watches the other literal too
pub record IsLookedAt (watches : Watches) (falsified : Lit) (place index : ℕ) (other : Lit) : Type 0 where
  pub watcher : Watcher
  pub at : slice_get (watchers_of watches falsified) place ≡ Some watcher
  pub same : watcher.index ≡ index
  pub pair : Pair
  pub paired : slice_get watches.pairs.items index ≡ Some pair
  pub is : OtherIs pair falsified (Some other)

-- the clause of that number now watches this literal in place of the one that became false
pub record IsRewatched (old new : Watches) (falsified : Lit) (place index : ℕ) (other lit : Lit) : Type 0 where
  pub pair : Pair
  pub paired : slice_get old.pairs.items index ≡ Some pair
  pub pairs : new.pairs.items ≡ slice_set old.pairs.items index (record { first = other; second = lit; aside = pair.aside })
  pub more : watchers_of new lit ≡ watchers_of old lit ++ (record { index = index; blocker = other }) ∷ []
  pub last : Watcher
  pub fewer : watchers_of new falsified ≡ swap_remove (watchers_of old falsified) place last
  pub others : (it : Lit) → it ≢ lit → it ≢ falsified → watchers_of new it ≡ watchers_of old it
  pub positive_len : length new.positive.items ≡ length old.positive.items
  pub negative_len : length new.negative.items ≡ length old.negative.items

-- what was due from one place of the list on is now due from the other
abbrev pub IsDueFrom : List Clause → PlacedTrail → PlacedTrail → Watches → Watches → Lit → ℕ → ℕ → Type 0
IsDueFrom known old_trail new_trail old new falsified from to =
    (before : List Lit) → Within before (falses_of old_trail.trail.steps.items) → AllDue known old (falses_of old_trail.trail.steps.items) before falsified from
    → AllDue known new (falses_of new_trail.trail.steps.items) before falsified to

-- the clauses before the place of the list need no look for this literal any more, nor the one at it
abbrev pub LookIs : List Clause → PlacedTrail → PlacedTrail → Watches → Watches → Lit → ℕ → Look → Type 0
LookIs known old_trail new_trail old new falsified place Stays =
    Advances known old_trail new_trail old new × IsDueFrom known old_trail new_trail old new falsified place (place + 1) × (length (watchers_of new falsified) ≡ length (watchers_of old falsified))
LookIs known old_trail new_trail old new falsified place Leaves =
    Advances known old_trail new_trail old new × IsDueFrom known old_trail new_trail old new falsified place place × (length (watchers_of new falsified) + 1 ≡ length (watchers_of old falsified))
LookIs known old_trail new_trail old new falsified place (Conflict index) =
    Advances known old_trail new_trail old new × IsConflict known (falses_of new_trail.trail.steps.items) index

-- all clauses that watch the literal were looked at
abbrev pub PassIs : List Clause → PlacedTrail → PlacedTrail → Watches → Watches → Lit → Option ℕ → Type 0
PassIs known old_trail new_trail old new falsified None =
    Advances known old_trail new_trail old new × ((before : List Lit) → Within before (falses_of old_trail.trail.steps.items) → AllGuarded known old.pairs.items (falses_of old_trail.trail.steps.items) before → AllGuarded known new.pairs.items (falses_of new_trail.trail.steps.items) (before ++ falsified ∷ []))
PassIs known old_trail new_trail old new falsified (Some index) =
    Advances known old_trail new_trail old new × IsConflict known (falses_of new_trail.trail.steps.items) index

-- what propagation to the end does, and at which clause it found a conflict
pub record Propagates (known : List Clause) (old_trail new_trail : PlacedTrail) (old new : Watches) (conflict : Option ℕ) : Type 0 where
  pub advances : Advances known old_trail new_trail old new
  pub found : (index : ℕ) → conflict ≡ Some index → IsConflict known (falses_of new_trail.trail.steps.items) index
  pub guarded : conflict ≡ None → AllGuarded known new.pairs.items (falses_of new_trail.trail.steps.items) (falses_of new_trail.trail.steps.items)
