-- What the parts of a formula say at run time. Parts are this project's own; formulas are those of Gradual C0.
use Rattle.std.specs.Prelude.{ℕ, zero, suc, Bool, true, false, ◌||◌, eqb, List, [], ◌∷◌, ◌++◌, length, Option, Some, None, is_some, if◌then◌else◌, slice_get}
use Rattle.gc0_base.specs.declared.site.Part.{Part}
use Rattle.gc0_base.specs.declared.site.Part.TheVariants.{Value, Reach, Access, Whole, Separate}
use Rattle.gc0_tree.specs.Tree.{Tree, Conjuncts, no_parts, value_part, acc_part, instance_part, choice_part, Formula, Predicate}
use Rattle.c0_meaning.specs.Heaps.{Cells, Heap, owns, cells_of}
use Rattle.c0_meaning.specs.Holds.{and_then, value_in, values_in, Unroll, take_cell, in_body, depth, holds}
use Rattle.core_meaning.specs.Choices.{is_so, instance_body, instance_words}

-- ---- conjuncts by number
pub data Conjunct : Type 0 where
  of_value : Tree → Conjunct
  of_acc : (base : Tree) → (field : ℕ) → Conjunct
  of_instance : Conjunct
  of_choice : Conjunct

-- the conjuncts in reading order, those of branches too; a conjunct's number is its index here
abbrev pub conjuncts_of : Conjuncts → List Conjunct
conjuncts_of no_parts = []
conjuncts_of (value_part e rest) = of_value e ∷ conjuncts_of rest
conjuncts_of (acc_part e field rest) = of_acc e field ∷ conjuncts_of rest
conjuncts_of (instance_part at p args rest) = of_instance ∷ conjuncts_of rest
conjuncts_of (choice_part at c these those rest) = of_choice ∷ (conjuncts_of these ++ (conjuncts_of those ++ conjuncts_of rest))

-- ---- separation
abbrev pub cells_from : (object : ℕ) → Heap → Cells
cells_from k [] = []
cells_from k (o ∷ os) = cells_of k (length o.fields) ++ cells_from (suc k) os

-- every cell of a heap
abbrev pub all_cells : Heap → Cells
all_cells heap = cells_from 1 heap

-- The walk of `holds` without value conjuncts and without ownership: it fails at a `NULL` base or at an overlap alone. A choice
-- goes by its outcome, for which ownership counts.
abbrev pub loose_walk : Unroll → Heap → Cells → List ℕ → Conjuncts → Cells → Option Cells
loose_walk unroll heap owned words no_parts foot = Some foot
loose_walk unroll heap owned words (value_part e rest) foot = loose_walk unroll heap owned words rest foot
loose_walk unroll heap owned words (acc_part e field rest) foot =
    and_then (value_in heap (all_cells heap) words e) (λ b. and_then (take_cell heap (all_cells heap) b field foot) (loose_walk unroll heap owned words rest))
loose_walk unroll heap owned words (instance_part at p args rest) foot =
    and_then (values_in heap (all_cells heap) words args) (λ xs. and_then (unroll p xs foot) (loose_walk unroll heap owned words rest))
loose_walk unroll heap owned words (choice_part at c these those rest) foot =
    and_then (if is_so (value_in heap owned words c) then loose_walk unroll heap owned words these foot else loose_walk unroll heap owned words those foot)
    (loose_walk unroll heap owned words rest)

abbrev pub loose_at : ℕ → List Predicate → Heap → Cells → Unroll
loose_at zero ps heap owned p args foot = None
loose_at (suc k) ps heap owned p args foot =
    in_body (slice_get ps p) (λ body. loose_walk (loose_at k ps heap owned) heap owned args body foot)

abbrev pub is_separate : List Predicate → Conjuncts → List ℕ → Heap → Cells → Bool
is_separate ps parts words heap owned = is_some (loose_walk (loose_at (depth ps heap) ps heap owned) heap owned words parts [])

-- ---- parts
-- a value is true, and its reads are owned
abbrev pub value_says : Heap → Cells → List ℕ → Option Conjunct → Bool
value_says heap owned words (Some (of_value e)) = is_so (value_in heap owned words e)
value_says heap owned words c = true

-- the cell of an `acc` is there and owned, and so are the reads of its base
abbrev pub reach_says : Heap → Cells → List ℕ → Option Conjunct → Bool
reach_says heap owned words (Some (of_acc e field)) = is_some (and_then (value_in heap owned words e) (λ b. take_cell heap owned b field []))
reach_says heap owned words c = true

-- the cell of an access is owned, or its base is `NULL`
abbrev pub access_says : Cells → List ℕ → Bool
access_says owned (object ∷ field ∷ words) = eqb object 0 || owns owned record { object = object; field = field }
access_says owned words = true

-- what a part says of conjuncts over some words
abbrev pub conjuncts_say : List Predicate → Part → Conjuncts → List ℕ → Heap → Cells → Bool
conjuncts_say ps (Value k) parts words heap owned = value_says heap owned words (slice_get (conjuncts_of parts) k)
conjuncts_say ps (Reach k) parts words heap owned = reach_says heap owned words (slice_get (conjuncts_of parts) k)
conjuncts_say ps Access parts words heap owned = access_says owned words
conjuncts_say ps Whole parts words heap owned = is_some (holds ps (record { imprecise = false; parts = parts }) words heap owned)
conjuncts_say ps Separate parts words heap owned = is_separate ps parts words heap owned

-- the same of the body of a fold's instance, and false where an argument has no value
abbrev pub body_says : List Predicate → Part → Conjuncts → Option (List ℕ) → Heap → Cells → Bool
body_says ps part parts None heap owned = false
body_says ps part parts (Some words) heap owned = conjuncts_say ps part parts words heap owned

-- What a part of a formula says. At a fold the whole is that of the instance, and each other part is one of its body.
abbrev pub part_says : List Predicate → (folded : Bool) → Formula → Part → List ℕ → Heap → Cells → Bool
part_says ps true formula Whole words heap owned = conjuncts_say ps Whole formula.parts words heap owned
part_says ps true formula part words heap owned =
    body_says ps part (instance_body ps formula.parts) (instance_words heap owned words formula.parts) heap owned
part_says ps false formula part words heap owned = conjuncts_say ps part formula.parts words heap owned
