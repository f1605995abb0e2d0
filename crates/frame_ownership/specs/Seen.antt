-- What the code sees of a heap: the cells that the running level owns, or all of them.
use Rattle.std.specs.Prelude.{ℕ, Bool, true, List, [], ◌∷◌, map, if◌then◌else◌}
use Rattle.gc0_base.specs.declared.word.Word.{Word}
use Rattle.c0_meaning.specs.Heaps.{Cell, Cells}
use Rattle.core_checks.specs.Parts.{all_cells}
use Rattle.owned_heap.specs.Views.{heap_view}
use Rattle.owned_heap.specs.Stands.{is_owned}
use Rattle.owned_heap.specs.declared.heap.Heap.{Heap}
use Rattle.owned_heap.specs.declared.levels.Levels.{Levels}
use Rattle.walk_laws.specs.Walks as walks
use Rattle.frame_ownership.specs.declared.values.Mode.{Mode}
use Rattle.frame_ownership.specs.declared.values.Mode.TheVariants.{Strict, Loose}

abbrev pub number : Word → ℕ
number w = w.0

abbrev pub numbers : List Word → List ℕ
numbers words = map number words

abbrev pub mode_of : Mode → walks.Mode
mode_of Strict = walks.strict
mode_of Loose = walks.loose

-- those of the cells that pass a test
abbrev pub passing : (Cell → Bool) → Cells → Cells
passing test [] = []
passing test (c ∷ cs) = if test c then c ∷ passing test cs else passing test cs

-- the cells of the heap that the running level owns
abbrev pub mine : Heap → Levels → Cells
mine heap levels = passing (is_owned levels heap) (all_cells (heap_view heap))

-- the cells that a walk may read and take
abbrev pub seen : Mode → Heap → Levels → Cells
seen mode heap levels = walks.asked (mode_of mode) (heap_view heap) (mine heap levels)

-- whether a cell is among them, if the heap has it
abbrev pub sees : Mode → Heap → Levels → Cell → Bool
sees Strict heap levels c = is_owned levels heap c
sees Loose heap levels c = true
