-- The frames of a walk, as the definition has them.
use Rattle.std.specs.Prelude.{◌≡◌, ℕ, ◌<◌, ◌≤◌, Bool, true, false, List, [], ◌∷◌, ◌++◌, map, drop, take, Option, Some, None}
use Rattle.gc0_base.specs.declared.word.Word.{Word}
use Rattle.gc0_tree.specs.Tree.{Predicate}
use Rattle.gc0_tree.specs.Views.{conjuncts_view, predicate_view}
use Rattle.gc0_tree.specs.declared.Predicate.{Predicate as Predicate'}
use Rattle.owned_heap.specs.Views.{heap_view}
use Rattle.owned_heap.specs.declared.heap.Heap.{Heap as Heap'}
use Rattle.owned_heap.specs.declared.levels.Levels.{Levels}
use Rattle.frame_ownership.specs.declared.values.Mode.{Mode}
use Rattle.frame_ownership.specs.declared.walk.Walk.{Walk}
use Rattle.gc0_tree.specs.declared.Conjunct.{Conjunct}
use Rattle.c0_meaning.specs.Heaps.{Cells, Heap}
use Rattle.walk_laws.specs.Walks as walks
use Rattle.walk_laws.specs.Walks.{resume, steps_left}
use Rattle.frame_ownership.specs.declared.walk.Frame.{Frame}
use Rattle.frame_ownership.specs.Seen.{numbers, mode_of, mine}

-- the words of a frame
abbrev pub words_of : List Word → Frame → List ℕ
words_of words f = numbers (drop f.start (take f.end words))

abbrev pub frame_view : List Word → Frame → walks.Frame
frame_view words f = (words_of words f, conjuncts_view f.parts.now)

-- frames on top of others, the last of them topmost
abbrev pub stack_on : List Word → List Frame → List walks.Frame → List walks.Frame
stack_on words [] below = below
stack_on words (f ∷ fs) below = stack_on words fs (frame_view words f ∷ below)

abbrev pub stack_of : List Word → List Frame → List walks.Frame
stack_of words fs = stack_on words fs []

-- the words of no frame end before those of the frames below it
abbrev pub Rises : (low : ℕ) → List Frame → (high : ℕ) → Type 0
Rises low [] high = low ≤ high
Rises low (f ∷ fs) high = (f.start ≤ f.end) × (low ≤ f.end) × Rises f.end fs high

-- with a frame more, unless nothing is left of it
abbrev pub waiting_on : List Frame → Frame → List Conjunct → List Frame
waiting_on fs f [] = fs
waiting_on fs f (part ∷ parts) = fs ++ f ∷ []

abbrev pub waiting : List Frame → Frame → List Frame
waiting fs f = waiting_on fs f f.parts.now

-- the value where there is one
abbrev pub if_found : {A : Type 0} → Bool → A → Option A
if_found true x = Some x
if_found false x = None

-- the values of the arguments that are left, behind those that were found
abbrev pub with_front : List ℕ → Option (List ℕ) → Option (List ℕ)
with_front front None = None
with_front front (Some xs) = Some (front ++ xs)

-- What came of a step: where it failed the frames give nothing, and else they give the same and take fewer steps.
abbrev pub Stepped : List Predicate → walks.Mode → Heap → Cells → List walks.Frame → Cells → Bool → List walks.Frame → Cells → Type 0
Stepped ps mode heap owned stack foot false next mid = resume ps mode heap owned stack foot ≡ None
Stepped ps mode heap owned stack foot true next mid =
    (resume ps mode heap owned stack foot ≡ resume ps mode heap owned next mid)
    × (steps_left ps mode heap owned next mid < steps_left ps mode heap owned stack foot)

-- the same of the walker's step, with what it sees
abbrev pub Walked : List Predicate' → Mode → Heap' → Levels → List walks.Frame → Cells → Bool → Walk → Type 0
Walked predicates mode heap levels stack foot went walker =
    Stepped (map predicate_view predicates) (mode_of mode) (heap_view heap) (mine heap levels) stack foot went (stack_of walker.words.items walker.frames.items) walker.taken
