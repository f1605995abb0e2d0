-- When a formula holds in a set of owned cells, and its footprint there.
-- Source: the formulas of Gradual C0, whose predicates are equal to their bodies.
use Rattle.std.specs.Prelude.{ℕ, zero, suc, ◌+◌, ◌-◌, ◌*◌, not, ◌&&◌, List, [], ◌∷◌, ◌++◌, length, Option, Some, None, is_some, if◌then◌else◌, slice_get, slice_index}
use Rattle.gc0_tree.specs.Tree.{Tree, number_at, truth_at, null_at, local_at, result_at, unary_at, binary_at, both_at, either_at, choose_at, read_at, call_at, library_at, alloc_at, Trees, no_trees, tree_and, Conjuncts, no_parts, value_part, acc_part, instance_part, choice_part, Formula, Predicate}
use Rattle.c0_meaning.specs.Operators.{truth_word, unary_word, binary_word, pick}
use Rattle.c0_meaning.specs.Heaps.{Cell, Cells, Heap, owns, cells_in, cell_value}

-- goes on with a value, where there is one
abbrev pub and_then : {A B : Type 0} → Option A → (A → Option B) → Option B
and_then None f = None
and_then (Some x) f = f x

-- the word in a cell that is owned; a read through `NULL` has none
abbrev pub owned_value : Heap → Cells → (base field : ℕ) → Option ℕ
owned_value heap owned zero field = None
owned_value heap owned (suc n) field =
    let c : Cell = record { object = suc n; field = field } in
    if owns owned c then cell_value heap c else None

-- The value of an expression of a formula, and none where it reads what isn't owned. `\result` is the last of the words.
-- A call and an `alloc` stand in no formula.
abbrev mutual
  pub value_in : Heap → Cells → List ℕ → Tree → Option ℕ
  value_in heap owned words (number_at at n) = Some n
  value_in heap owned words (truth_at at b) = Some (truth_word b)
  value_in heap owned words (null_at at) = Some 0
  value_in heap owned words (local_at at i) = Some (slice_index words i)
  value_in heap owned words (result_at at) = Some (slice_index words (length words - 1))
  value_in heap owned words (unary_at at o a) = and_then (value_in heap owned words a) (λ x. Some (unary_word o x))
  value_in heap owned words (binary_at at o a b) = and_then (value_in heap owned words a) (λ x. and_then (value_in heap owned words b) (binary_word o x))
  value_in heap owned words (both_at at a b) = and_then (value_in heap owned words a) (λ x. pick x (Some 0) (value_in heap owned words b))
  value_in heap owned words (either_at at a b) = and_then (value_in heap owned words a) (λ x. pick x (value_in heap owned words b) (Some x))
  value_in heap owned words (choose_at at a b c) = and_then (value_in heap owned words a) (λ x. pick x (value_in heap owned words c) (value_in heap owned words b))
  value_in heap owned words (read_at at a k field) = and_then (value_in heap owned words a) (λ b. owned_value heap owned b field)
  value_in heap owned words (call_at at g es) = None
  value_in heap owned words (library_at at l es t) = None
  value_in heap owned words (alloc_at at k) = None

  pub values_in : Heap → Cells → List ℕ → Trees → Option (List ℕ)
  values_in heap owned words no_trees = Some []
  values_in heap owned words (tree_and e es) = and_then (value_in heap owned words e) (λ x. and_then (values_in heap owned words es) (λ xs. Some (x ∷ xs)))

-- what an instance does to the footprint so far
abbrev pub Unroll : Type 0
Unroll = (predicate : ℕ) → (arguments : List ℕ) → Cells → Option Cells

-- an `acc` adds a cell of the heap that is owned and not yet in the footprint
abbrev pub take_cell : Heap → Cells → (base field : ℕ) → Cells → Option Cells
take_cell heap owned zero field foot = None
take_cell heap owned (suc n) field foot =
    let c : Cell = record { object = suc n; field = field } in
    if is_some (cell_value heap c) && (owns owned c && not (owns foot c)) then Some (foot ++ c ∷ []) else None

-- the conjuncts from left to right, each with the footprint so far
abbrev pub walk : Unroll → Heap → Cells → List ℕ → Conjuncts → Cells → Option Cells
walk unroll heap owned words no_parts foot = Some foot
walk unroll heap owned words (value_part e rest) foot =
    and_then (value_in heap owned words e) (λ x. pick x None (walk unroll heap owned words rest foot))
walk unroll heap owned words (acc_part e field rest) foot =
    and_then (value_in heap owned words e) (λ b. and_then (take_cell heap owned b field foot) (walk unroll heap owned words rest))
walk unroll heap owned words (instance_part at p args rest) foot =
    and_then (values_in heap owned words args) (λ xs. and_then (unroll p xs foot) (walk unroll heap owned words rest))
walk unroll heap owned words (choice_part at c these those rest) foot =
    and_then (value_in heap owned words c) (λ x. and_then (pick x (walk unroll heap owned words those foot) (walk unroll heap owned words these foot)) (walk unroll heap owned words rest))

abbrev pub in_body : Option Predicate → (Conjuncts → Option Cells) → Option Cells
in_body None f = None
in_body (Some p) f = f p.body

-- an instance is its body with the arguments as parameters, at most so many deep
abbrev pub unroll_at : ℕ → List Predicate → Heap → Cells → Unroll
unroll_at zero ps heap owned p args foot = None
unroll_at (suc k) ps heap owned p args foot =
    in_body (slice_get ps p) (λ body. walk (unroll_at k ps heap owned) heap owned args body foot)

-- In a guarded program no instance lies deeper: before a predicate comes again a cell was taken.
abbrev pub depth : List Predicate → Heap → ℕ
depth ps heap = (cells_in heap + 1) * (length ps + 1)

-- The footprint of a formula, and none where it doesn't hold. A `?` adds nothing and always holds.
abbrev pub holds : List Predicate → Formula → List ℕ → Heap → Cells → Option Cells
holds ps formula words heap owned = walk (unroll_at (depth ps heap) ps heap owned) heap owned words formula.parts []
