-- The heap, its cells, and sets of owned cells.
-- Source: C0 Reference, "Structs", "alloc"; cells and owned sets are those of Gradual C0.
use Rattle.std.specs.Prelude.{ℕ, zero, suc, ◌+◌, ◌-◌, Bool, false, ◌&&◌, ◌||◌, eqb, List, [], ◌∷◌, length, Option, Some, None, slice_get, slice_set}

-- a struct and the words of its fields
pub record Object : Type 0 where
  pub of_struct : ℕ
  pub fields : List ℕ

-- The pointer to the k-th object, counted from 1, is the word k.
abbrev pub Heap : Type 0
Heap = List Object

pub record Cell : Type 0 where
  pub object : ℕ
  pub field : ℕ

-- a set of cells, in any order and however often each is listed
abbrev pub Cells : Type 0
Cells = List Cell

abbrev pub same_cell : Cell → Cell → Bool
same_cell a b = eqb a.object b.object && eqb a.field b.field

abbrev pub owns : Cells → Cell → Bool
owns [] c = false
owns (d ∷ ds) c = same_cell d c || owns ds c

-- the cells of an object with so many fields
abbrev pub cells_of : ℕ → ℕ → Cells
cells_of object zero = []
cells_of object (suc n) = record { object = object; field = n } ∷ cells_of object n

-- how many cells a heap has
abbrev pub cells_in : Heap → ℕ
cells_in [] = 0
cells_in (o ∷ os) = length o.fields + cells_in os

abbrev pub field_of : Option Object → ℕ → Option ℕ
field_of None f = None
field_of (Some o) f = slice_get o.fields f

-- the word in a cell, and none where the heap has no such cell
abbrev pub cell_value : Heap → Cell → Option ℕ
cell_value h c = field_of (slice_get h (c.object - 1)) c.field

abbrev pub with_field : Option Object → ℕ → ℕ → Option Object
with_field None f v = None
with_field (Some o) f v = Some record { of_struct = o.of_struct; fields = slice_set o.fields f v }

abbrev pub put_object : Heap → ℕ → Option Object → Heap
put_object h k None = h
put_object h k (Some o) = slice_set h k o

-- the heap with another word in a cell
abbrev pub set_cell : Heap → Cell → ℕ → Heap
set_cell h c v = put_object h (c.object - 1) (with_field (slice_get h (c.object - 1)) c.field v)
