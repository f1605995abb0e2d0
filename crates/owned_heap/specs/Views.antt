-- The heap of the definition that a heap of the code stands for.
use Rattle.std.specs.Prelude.{ℕ, zero, suc, ◌-◌, min, max, List, [], ◌∷◌, length, map, take, drop, Option, Some, None, slice_get}
use Rattle.std.specs.Vec.{vec_capacity}
use Rattle.gc0_base.specs.declared.word.Word.{Word}
use Rattle.c0_meaning.specs.Heaps as meant
use Rattle.c0_meaning.specs.Heaps.{Object}
use Rattle.owned_heap.specs.declared.heap.Cell.{Cell}
use Rattle.owned_heap.specs.declared.heap.Stretch.{Stretch}
use Rattle.owned_heap.specs.declared.heap.Heap.{Heap}

abbrev pub cell_view : Cell → meant.Cell
cell_view c = record { object = c.object; field = c.field }

-- each object has the next words, as many as it has fields
abbrev pub objects_of : List Stretch → List Word → List Object
objects_of [] words = []
objects_of (o ∷ os) words =
    record { of_struct = o.of_struct; fields = map (λ w. w.0) (take o.fields words) } ∷ objects_of os (drop o.fields words)

unfoldable pub heap_view : Heap → List Object
heap_view h = objects_of h.objects.items h.words.items

-- the object of a number, counted from 1; 0 is `NULL`
abbrev pub object_at : List Object → ℕ → Option Object
object_at objects zero = None
object_at objects (suc k) = slice_get objects k

abbrev pub fields_in : Option Object → ℕ
fields_in None = 0
fields_in (Some o) = length o.fields

-- how many cells an object of so many fields counts as: at least one
abbrev pub counted : (fields : ℕ) → ℕ
counted fields = max 1 fields

-- how many cells there is room for, whatever objects they come in
unfoldable pub spare : Heap → ℕ
spare h = min (min (vec_capacity h.words - length h.words.items) (vec_capacity h.objects - length h.objects.items)) (4294967295 - length h.objects.items)
