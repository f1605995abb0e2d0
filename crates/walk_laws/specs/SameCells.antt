-- What formulas say depends on a set of owned cells by its members among the cells of the heap alone.
use Rattle.std.specs.Prelude.{◌≡◌, ℕ, suc, List, IsTrue, is_some}
use Rattle.gc0_tree.specs.Tree.{Tree, Trees, Conjuncts, Formula, Predicate}
use Rattle.c0_meaning.specs.Heaps.{Cells, Heap, owns, cell_value}
use Rattle.c0_meaning.specs.Holds.{value_in, values_in, take_cell, holds}
use Rattle.core_checks.specs.Parts.{is_separate}

-- both own the same cells of the heap
abbrev pub SameCells : Heap → Cells → Cells → Type 0
SameCells heap a b =
    (n field : ℕ) → IsTrue (is_some (cell_value heap record { object = suc n; field = field })) →
    owns a record { object = suc n; field = field } ≡ owns b record { object = suc n; field = field }

abbrev pub same_value_law : Type 0
same_value_law = (heap : Heap) (a b : Cells) (words : List ℕ) (e : Tree) → SameCells heap a b → value_in heap a words e ≡ value_in heap b words e

abbrev pub same_values_law : Type 0
same_values_law = (heap : Heap) (a b : Cells) (words : List ℕ) (es : Trees) → SameCells heap a b → values_in heap a words es ≡ values_in heap b words es

abbrev pub same_take_law : Type 0
same_take_law = (heap : Heap) (a b : Cells) (base field : ℕ) (foot : Cells) → SameCells heap a b → take_cell heap a base field foot ≡ take_cell heap b base field foot

abbrev pub same_holds_law : Type 0
same_holds_law = (ps : List Predicate) (formula : Formula) (words : List ℕ) (heap : Heap) (a b : Cells) →
    SameCells heap a b → holds ps formula words heap a ≡ holds ps formula words heap b

abbrev pub same_separate_law : Type 0
same_separate_law = (ps : List Predicate) (parts : Conjuncts) (words : List ℕ) (heap : Heap) (a b : Cells) →
    SameCells heap a b → is_separate ps parts words heap a ≡ is_separate ps parts words heap b
