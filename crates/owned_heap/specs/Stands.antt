-- Which sets of owned cells the levels of the code stand for.
use Rattle.std.specs.Prelude.{Bool, ◌≡◌, ℕ, zero, suc, ◌+◌, ◌<◌, ◌≤◌, ltb, leb, List, [], ◌∷◌, ◌++◌, length, reverse, Option, Some, None, slice_get, slice_index, is_some, IsTrue, if◌then◌else◌}
use Rattle.c0_meaning.specs.Heaps.{Cell, Cells, owns, cell_value}
use Rattle.owned_heap.specs.declared.heap.Stretch.{Stretch}
use Rattle.owned_heap.specs.declared.heap.Heap.{Heap}
use Rattle.owned_heap.specs.declared.levels.Levels.{Levels}
use Rattle.owned_heap.specs.Views.{heap_view}
use Rattle.owned_heap.specs.LevelSets.{AreAlike}

abbrev pub stretch_of : Heap → ℕ → Option Stretch
stretch_of h zero = None
stretch_of h (suc k) = slice_get h.objects.items k

abbrev pub offset_in : Option Stretch → ℕ → Option ℕ
offset_in None field = None
offset_in (Some o) field = if ltb field o.fields then Some (o.start + field) else None

-- where the word of a cell lies, and none where the heap has no such cell
abbrev pub offset_of : Heap → Cell → Option ℕ
offset_of h c = offset_in (stretch_of h c.object) c.field

-- where a stretch starts; where there is none, the words have ended
abbrev pub start_of : Option Stretch → (end : ℕ) → ℕ
start_of None end = end
start_of (Some o) end = o.start

-- the stamp of that place: 0 where there is none
abbrev pub stamp_at : List ℕ → Option ℕ → ℕ
stamp_at stamps None = 0
stamp_at stamps (Some place) = slice_index stamps place

abbrev pub stamp_of : Levels → Heap → Cell → ℕ
stamp_of levels heap c = stamp_at levels.stamps.items (offset_of heap c)

-- whether the running level owns a cell
abbrev pub is_owned : Levels → Heap → Cell → Bool
is_owned levels heap c = leb levels.top (stamp_of levels heap c)

-- From the running level outward: a cell is in a level's set, or in that of a level inside it, exactly where its stamp is
-- the level's start or later. `inner` is what the levels inside own.
abbrev pub AreStamped : (Cell → ℕ) → (inner : Cells) → (starts : List ℕ) → List Cells → Type 0
AreStamped stamp inner [] [] = Unit {0}
AreStamped stamp inner [] (set ∷ sets) = ⊥
AreStamped stamp inner (start ∷ starts) [] = ⊥
AreStamped stamp inner (start ∷ starts) (set ∷ sets) =
    ((c : Cell) → owns (set ++ inner) c ≡ leb start (stamp c)) × AreStamped stamp (set ++ inner) starts sets

-- the levels own these sets of cells of the heap, the running level the first
pub record Stands (levels : Levels) (heap : Heap) (sets : List Cells) : Type 0 where
  pub within : length levels.stamps.items ≤ length heap.words.items
  pub stamped : AreStamped (stamp_of levels heap) [] (levels.top ∷ reverse levels.outer.items) sets

-- Only the members of the sets count.
abbrev pub members_law : Type 0
members_law = (levels : Levels) (heap : Heap) (sets others : List Cells) → AreAlike sets others → Stands levels heap sets → Stands levels heap others

-- Each cell of a set is a cell of the heap.
abbrev pub in_heap_law : Type 0
in_heap_law = (levels : Levels) (heap : Heap) (sets : List Cells) (i : ℕ) (set : Cells) (c : Cell) →
    Stands levels heap sets → slice_get sets i ≡ Some set → IsTrue (owns set c) → (0 < c.object) × IsTrue (is_some (cell_value (heap_view heap) c))
