-- The walk of a formula by a stack of frames in place of a recursion on predicates, for `holds` and for `is_separate` at once.
use Rattle.std.specs.Prelude.{◌≡◌, ℕ, zero, suc, ◌+◌, ◌<◌, Bool, true, not, eqb, List, [], ◌∷◌, Option, Some, None, is_some, if◌then◌else◌, slice_get}
use Rattle.gc0_tree.specs.Tree.{Tree, Conjuncts, no_parts, value_part, acc_part, instance_part, choice_part, Formula, Predicate}
use Rattle.c0_meaning.specs.Heaps.{Cells, Heap, owns, cell_value}
use Rattle.c0_meaning.specs.Holds.{and_then, value_in, values_in, Unroll, take_cell, in_body, depth, holds}
use Rattle.c0_meaning.specs.Framing.{predicates_unguarded}
use Rattle.core_meaning.specs.Choices.{is_so}
use Rattle.core_checks.specs.Parts.{all_cells, is_separate}

-- ---- two walks in one
pub data Mode : Type 0 where
  -- as in `holds`: values are true, and cells are owned
  strict : Mode
  -- as in `is_separate`: values are passed over, and each cell of the heap will do
  loose : Mode

-- the cells that a walk may read and take
abbrev pub asked : Mode → Heap → Cells → Cells
asked strict heap owned = owned
asked loose heap owned = all_cells heap

-- whether a walk goes past a value
abbrev pub is_met : Mode → Heap → Cells → List ℕ → Tree → Bool
is_met strict heap owned words e = is_so (value_in heap owned words e)
is_met loose heap owned words e = true

-- which branch of a choice a walk takes
abbrev pub branch_of : Mode → Heap → Cells → List ℕ → Tree → Option Bool
branch_of strict heap owned words c = and_then (value_in heap owned words c) (λ x. Some (not (eqb x 0)))
branch_of loose heap owned words c = Some (is_so (value_in heap owned words c))

-- the conjuncts from left to right, each with the footprint so far
abbrev pub walk_by : Mode → Unroll → Heap → Cells → List ℕ → Conjuncts → Cells → Option Cells
walk_by mode u heap owned words no_parts foot = Some foot
walk_by mode u heap owned words (value_part e rest) foot =
    if is_met mode heap owned words e then walk_by mode u heap owned words rest foot else None
walk_by mode u heap owned words (acc_part e field rest) foot =
    and_then (value_in heap (asked mode heap owned) words e) (λ b. and_then (take_cell heap (asked mode heap owned) b field foot) (walk_by mode u heap owned words rest))
walk_by mode u heap owned words (instance_part at p args rest) foot =
    and_then (values_in heap (asked mode heap owned) words args) (λ xs. and_then (u p xs foot) (walk_by mode u heap owned words rest))
walk_by mode u heap owned words (choice_part at c these those rest) foot =
    and_then (branch_of mode heap owned words c) (λ b. and_then (if b then walk_by mode u heap owned words these foot else walk_by mode u heap owned words those foot) (walk_by mode u heap owned words rest))

abbrev pub unroll_by : Mode → ℕ → List Predicate → Heap → Cells → Unroll
unroll_by mode zero ps heap owned p args foot = None
unroll_by mode (suc k) ps heap owned p args foot =
    in_body (slice_get ps p) (λ body. walk_by mode (unroll_by mode k ps heap owned) heap owned args body foot)

-- an instance, as deep as the heap asks
abbrev pub instance_by : Mode → List Predicate → Heap → Cells → Unroll
instance_by mode ps heap owned = unroll_by mode (depth ps heap) ps heap owned

-- ---- the stack
-- what is left of a list of conjuncts, and the words that they speak of
abbrev pub Frame : Type 0
Frame = List ℕ × Conjuncts

-- what the frames give, one after the other
abbrev pub resume : List Predicate → Mode → Heap → Cells → List Frame → Cells → Option Cells
resume ps mode heap owned [] foot = Some foot
resume ps mode heap owned (f ∷ fs) foot =
    and_then (walk_by mode (instance_by mode ps heap owned) heap owned f.0 f.1 foot) (resume ps mode heap owned fs)

-- One step on the topmost frame, and none where a conjunct fails: an instance puts a frame with its body on top, a choice one
-- with its branch.
abbrev pub stack_step : List Predicate → Mode → Heap → Cells → Frame → List Frame → Cells → Option (List Frame × Cells)
stack_step ps mode heap owned (words, no_parts) fs foot = Some (fs, foot)
stack_step ps mode heap owned (words, value_part e rest) fs foot =
    if is_met mode heap owned words e then Some ((words, rest) ∷ fs, foot) else None
stack_step ps mode heap owned (words, acc_part e field rest) fs foot =
    and_then (value_in heap (asked mode heap owned) words e) (λ b. and_then (take_cell heap (asked mode heap owned) b field foot) (λ mid. Some ((words, rest) ∷ fs, mid)))
stack_step ps mode heap owned (words, instance_part at p args rest) fs foot =
    and_then (values_in heap (asked mode heap owned) words args) (λ xs. and_then (slice_get ps p) (λ d. Some ((xs, d.body) ∷ (words, rest) ∷ fs, foot)))
stack_step ps mode heap owned (words, choice_part at c these those rest) fs foot =
    and_then (branch_of mode heap owned words c) (λ b. Some ((words, if b then these else those) ∷ (words, rest) ∷ fs, foot))

-- ---- how many steps
abbrev pub on : {A : Type 0} → Option A → (A → ℕ) → ℕ
on None f = 0
on (Some x) f = f x

-- how many steps conjuncts take, where an instance takes `c`
abbrev pub cost_by : Mode → Unroll → (ℕ → List ℕ → Cells → ℕ) → Heap → Cells → List ℕ → Conjuncts → Cells → ℕ
cost_by mode u c heap owned words no_parts foot = 1
cost_by mode u c heap owned words (value_part e rest) foot =
    1 + (if is_met mode heap owned words e then cost_by mode u c heap owned words rest foot else 0)
cost_by mode u c heap owned words (acc_part e field rest) foot =
    1 + on (value_in heap (asked mode heap owned) words e) (λ b. on (take_cell heap (asked mode heap owned) b field foot) (cost_by mode u c heap owned words rest))
cost_by mode u c heap owned words (instance_part at p args rest) foot =
    1 + on (values_in heap (asked mode heap owned) words args) (λ xs. c p xs foot + on (u p xs foot) (cost_by mode u c heap owned words rest))
cost_by mode u c heap owned words (choice_part at e these those rest) foot =
    1 + on (branch_of mode heap owned words e) (λ b. (if b then cost_by mode u c heap owned words these foot else cost_by mode u c heap owned words those foot)
    + on (if b then walk_by mode u heap owned words these foot else walk_by mode u heap owned words those foot) (cost_by mode u c heap owned words rest))

abbrev pub cost_at : Mode → ℕ → List Predicate → Heap → Cells → ℕ → List ℕ → Cells → ℕ
cost_at mode zero ps heap owned p args foot = 0
cost_at mode (suc k) ps heap owned p args foot =
    on (slice_get ps p) (λ d. cost_by mode (instance_by mode ps heap owned) (cost_at mode k ps heap owned) heap owned args d.body foot)

-- how many steps the frames take
abbrev pub steps_left : List Predicate → Mode → Heap → Cells → List Frame → Cells → ℕ
steps_left ps mode heap owned [] foot = 0
steps_left ps mode heap owned (f ∷ fs) foot =
    cost_by mode (instance_by mode ps heap owned) (cost_at mode (depth ps heap) ps heap owned) heap owned f.0 f.1 foot
    + on (walk_by mode (instance_by mode ps heap owned) heap owned f.0 f.1 foot) (steps_left ps mode heap owned fs)

-- ---- the laws
-- What comes of a step: where it fails the frames give nothing, and else they give the same and take fewer steps.
abbrev pub Steps : List Predicate → Mode → Heap → Cells → List Frame → Cells → Option (List Frame × Cells) → Type 0
Steps ps mode heap owned stack foot None = resume ps mode heap owned stack foot ≡ None
Steps ps mode heap owned stack foot (Some next) =
    (resume ps mode heap owned stack foot ≡ resume ps mode heap owned next.0 next.1)
    × (steps_left ps mode heap owned next.0 next.1 < steps_left ps mode heap owned stack foot)

-- In a guarded program each step on the stack keeps what the frames give, and lowers the number of steps left.
abbrev pub stack_law : Type 0
stack_law = (ps : List Predicate) (mode : Mode) (heap : Heap) (owned : Cells) (f : Frame) (fs : List Frame) (foot : Cells) →
    predicates_unguarded 0 ps ≡ [] → Steps ps mode heap owned (f ∷ fs) foot (stack_step ps mode heap owned f fs foot)

-- A formula's one frame gives its footprint.
abbrev pub strict_law : Type 0
strict_law = (ps : List Predicate) (formula : Formula) (words : List ℕ) (heap : Heap) (owned : Cells) →
    holds ps formula words heap owned ≡ resume ps strict heap owned ((words, formula.parts) ∷ []) []

-- Conjuncts are separate where their one frame gives cells.
abbrev pub loose_law : Type 0
loose_law = (ps : List Predicate) (parts : Conjuncts) (words : List ℕ) (heap : Heap) (owned : Cells) →
    is_separate ps parts words heap owned ≡ is_some (resume ps loose heap owned ((words, parts) ∷ []) [])

-- Every cell of a heap: those of an object, counted from 1, that have a word.
abbrev pub all_cells_law : Type 0
all_cells_law = (heap : Heap) (n field : ℕ) →
    owns (all_cells heap) record { object = suc n; field = field } ≡ is_some (cell_value heap record { object = suc n; field = field })
