-- How the words of all objects lie: one object's after another's.
use Rattle.std.specs.Prelude.{ℕ, ◌+◌, Bool, ◌&&◌, eqb, List, [], ◌∷◌}
use Rattle.owned_heap.specs.declared.heap.Stretch.{Stretch}

-- the first stretch starts at a place, each other where the one before it ends, and the last ends at `end`
abbrev pub are_laid : ℕ → List Stretch → (end : ℕ) → Bool
are_laid from [] end = eqb from end
are_laid from (o ∷ os) end = eqb o.start from && are_laid (from + o.fields) os end
