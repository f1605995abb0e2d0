-- Where the cells stand that were taken.
use Rattle.std.specs.Prelude.{◌≡◌, ℕ, zero, suc, List, [], ◌∷◌, Some, slice_get, slice_index}
use Rattle.std.specs.declared.vec.Vec.{Vec}
use Rattle.std.specs.declared.alloc.Global.{Global}
use Rattle.owned_heap.specs.declared.heap.Cell.{Cell}

-- the row of a field, and no row past the last
abbrev pub row_at : List (Vec ℕ Global) → ℕ → List ℕ
row_at [] field = []
row_at (row ∷ rows) zero = row.items
row_at (row ∷ rows) (suc field) = row_at rows field

-- where the cell of an object and a field stands, as the table says
abbrev pub place_in : List (Vec ℕ Global) → (object field : ℕ) → ℕ
place_in rows object field = slice_index (row_at rows field) object

-- the table says of each of the cells where it stands
abbrev pub ArePlaced : List Cell → List (Vec ℕ Global) → Type 0
ArePlaced cells rows = (i : ℕ) (c : Cell) → slice_get cells i ≡ Some c → place_in rows c.object c.field ≡ i
