-- How many temporaries of each shape are used, and where those of a shape begin.
use Rattle.std.specs.Prelude.{◌≡◌, ℕ, ◌+◌, List, [], ◌∷◌, length, Option, Some, None, slice_get, nat_eq}
use Rattle.indexmap.specs.IndexMap.{get}
use Rattle.gc0_tree.specs.declared.Shape.{Shape}
use Rattle.gc0_tree.specs.declared.Shape.TheVariants.{Int, Bool as Truth, Pointer, Null}
use Rattle.gc0_tree.specs.Tree.{Function, Program}
use Rattle.lowering_laws.specs.Lowering.{uses, slot_in, temps_of}
use Rattle.temp_counts.specs.declared.used.TempCounts.{TempCounts}
use Rattle.temp_counts.specs.declared.temps.Temps.{Temps}

abbrev pub or_else : ℕ → Option ℕ → ℕ
or_else d None = d
or_else d (Some n) = n

abbrev pub or_zero : Option ℕ → ℕ
or_zero None = 0
or_zero (Some n) = n

-- how many temporaries of a shape are in use
abbrev pub used_in : TempCounts → Shape → ℕ
used_in t Int = t.ints
used_in t Truth = t.truths
used_in t Null = t.nulls
used_in t (Pointer k) = or_zero (get nat_eq t.pointers k)

-- where each of so many begins, from a number on
abbrev pub starts_from : (first : ℕ) → List ℕ → List ℕ
starts_from first [] = []
starts_from first (n ∷ ns) = first ∷ starts_from (first + n) ns

-- the number of a temporary of a shape
abbrev pub slot_from : Temps → Shape → ℕ → ℕ
slot_from t Int k = t.ints + k
slot_from t Truth k = t.truths + k
slot_from t Null k = t.nulls + k
slot_from t (Pointer j) k = or_else t.behind (slice_get t.pointers j) + k

-- the temporaries of a function: their numbers, and their shapes
pub record AreTemps (t : Temps) (p : Program) (f : Function) : Type 0 where
  pub slots : (s : Shape) (k : ℕ) → slot_from t s k ≡ slot_in p f s k
  pub shapes : t.shapes ≡ temps_of (uses p f) (length p.structs)
