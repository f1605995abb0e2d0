-- In which clauses a literal stands: a list of numbers for each variable, and one for its negation.
use Rattle.std.specs.Prelude.{◌≡◌, ℕ, zero, suc, List, [], ◌∷◌, slice_get, Some, if◌then◌else◌}
use Rattle.std.specs.declared.vec.Vec.{Vec}
use Rattle.std.specs.declared.alloc.Global.{Global}
use Rattle.std.specs.List.{Contains}
use Rattle.sat_check.specs.declared.clause.Lit.{Lit}
use Rattle.sat_check.specs.declared.clause.Clause.{Clause}

-- the list of that place, or nothing past the end
abbrev pub list_at : List (Vec ℕ Global) → ℕ → List ℕ
list_at [] place = []
list_at (list ∷ lists) zero = list.items
list_at (list ∷ lists) (suc place) = list_at lists place

abbrev pub occurrences_of : List (Vec ℕ Global) → List (Vec ℕ Global) → Lit → List ℕ
occurrences_of positive negative lit = list_at (if lit.positive then positive else negative) lit.variable

-- one number more in the list of that place, and none less anywhere
pub record AddsAt (old new : List (Vec ℕ Global)) (place number : ℕ) : Type 0 where
  pub kept : (other item : ℕ) → Contains (list_at old other) item → Contains (list_at new other) item
  pub added : Contains (list_at new place) number

-- the number is now among those of each of the literals, and none is less anywhere
pub record Adds (old_positive old_negative new_positive new_negative : List (Vec ℕ Global)) (number : ℕ) (lits : List Lit) : Type 0 where
  pub kept : (lit : Lit) (item : ℕ) → Contains (occurrences_of old_positive old_negative lit) item → Contains (occurrences_of new_positive new_negative lit) item
  pub added : (lit : Lit) → Contains lits lit → Contains (occurrences_of new_positive new_negative lit) number

-- each clause is among those of its literals
abbrev pub IsComplete : List Clause → List (Vec ℕ Global) → List (Vec ℕ Global) → Type 0
IsComplete known positive negative =
    (index : ℕ) (clause : Clause) (lit : Lit) → slice_get known index ≡ Some clause → Contains clause.lits lit → Contains (occurrences_of positive negative lit) index
