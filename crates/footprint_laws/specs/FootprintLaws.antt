-- Laws of footprints.
use Rattle.std.specs.Prelude.{◌≡◌, ℕ, false, List, [], ◌∷◌, Some, IsTrue, is_some, slice_get}
use Rattle.gc0_tree.specs.Tree.{Formula, Predicate}
use Rattle.c0_meaning.specs.Heaps.{Cell, Cells, Heap, owns, cell_value}
use Rattle.c0_meaning.specs.Holds.{holds, depth, unroll_at, in_body, walk}
use Rattle.c0_meaning.specs.Framing.{predicates_unguarded}

-- each cell of the first is in the second
abbrev pub Within : Cells → Cells → Type 0
Within few many = (c : Cell) → IsTrue (owns few c) → IsTrue (owns many c)

-- A footprint in a set is the same footprint in each larger set.
abbrev pub larger_law : Type 0
larger_law = (ps : List Predicate) (formula : Formula) (words : List ℕ) (heap : Heap) (few many foot : Cells) →
    Within few many → holds ps formula words heap few ≡ Some foot → holds ps formula words heap many ≡ Some foot

-- each of the cells has a word in the heap
abbrev pub InHeap : Cells → Heap → Type 0
InHeap cells heap = (c : Cell) → IsTrue (owns cells c) → IsTrue (is_some (cell_value heap c))

-- no cell is listed twice
abbrev pub IsDistinct : Cells → Type 0
IsDistinct [] = Unit {0}
IsDistinct (c ∷ cs) = (owns cs c ≡ false) × IsDistinct cs

-- A footprint lies in the owned cells and in the heap, and lists no cell twice.
abbrev pub footprint_law : Type 0
footprint_law = (ps : List Predicate) (formula : Formula) (words : List ℕ) (heap : Heap) (owned foot : Cells) →
    holds ps formula words heap owned ≡ Some foot → Within foot owned × InHeap foot heap × IsDistinct foot

-- In a guarded program an instance does what its body does.
abbrev pub unroll_law : Type 0
unroll_law = (ps : List Predicate) (heap : Heap) (owned : Cells) (p : ℕ) (args : List ℕ) (foot : Cells) → predicates_unguarded 0 ps ≡ [] →
    unroll_at (depth ps heap) ps heap owned p args foot ≡ in_body (slice_get ps p) (λ body. walk (unroll_at (depth ps heap) ps heap owned) heap owned args body foot)
