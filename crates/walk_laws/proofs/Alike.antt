-- What formulas say is the same in sets with the same cells of the heap.
use Rattle.std.proofs.Common.{◌≡◌, ℕ, zero, suc, Bool, true, false, not, ◌&&◌, List, [], ◌∷◌, ◌++◌, Option, Some, None, refl, sym, ap, ◌∙◌, IsTrue, eqb}
use Rattle.std.specs.Prelude.{slice_get, is_some, if◌then◌else◌}
use Rattle.gc0_tree.specs.Tree.{Tree, number_at, truth_at, null_at, local_at, result_at, unary_at, binary_at, both_at, either_at, choose_at, read_at, call_at, library_at, alloc_at, Trees, no_trees, tree_and, Conjuncts, no_parts, value_part, acc_part, instance_part, choice_part, Predicate}
use Rattle.c0_meaning.specs.Heaps.{Cell, Cells, Heap, owns, cell_value}
use Rattle.c0_meaning.specs.Holds.{and_then, owned_value, value_in, values_in, Unroll, take_cell, in_body, depth}
use Rattle.core_meaning.specs.Choices.{is_so}
use Rattle.walk_laws.specs.Walks.{Mode, strict, loose, asked, is_met, branch_of, walk_by, unroll_by, instance_by, resume}
use Rattle.walk_laws.specs.SameCells.{SameCells, same_value_law, same_values_law, same_take_law, same_holds_law, same_separate_law}
use Rattle.walk_laws.proofs.Free.{bind_same, pick_same}
use Rattle.walk_laws.proofs.Unrolled.{either_same}
use Rattle.walk_laws.proofs.Same.{strictly, separate}

guarded_same : (t u : Bool) (m : Option ℕ) → (IsTrue (is_some m) → t ≡ u) → (if t then m else None) ≡ (if u then m else None)
guarded_same true true m h = refl
guarded_same false false m h = refl
guarded_same true false None h = refl
guarded_same false true None h = refl
guarded_same true false (Some x) h = let e = h refl in cc
guarded_same false true (Some x) h = let e = h refl in cc

and_same : (v t u k : Bool) → (IsTrue v → t ≡ u) → (v && (t && k)) ≡ (v && (u && k))
and_same false t u k h = refl
and_same true t u k h = ap (λ b. b && k) (h refl)

module _ (heap : Heap) (a b : Cells) (same : SameCells heap a b) where
  read_same : (base field : ℕ) → owned_value heap a base field ≡ owned_value heap b base field
  read_same zero field = refl
  read_same (suc n) field =
      let c : Cell = record { object = suc n; field = field } in
      guarded_same (owns a c) (owns b c) (cell_value heap c) (same n field)

  taken_same : (base field : ℕ) (foot : Cells) → take_cell heap a base field foot ≡ take_cell heap b base field foot
  taken_same zero field foot = refl
  taken_same (suc n) field foot =
      let c : Cell = record { object = suc n; field = field } in
      ap (λ t. if t then Some (foot ++ c ∷ []) else None)
      (and_same (is_some (cell_value heap c)) (owns a c) (owns b c) (not (owns foot c)) (same n field))

  mutual
    value_same : (words : List ℕ) (e : Tree) → value_in heap a words e ≡ value_in heap b words e
    value_same words (number_at at n) = refl
    value_same words (truth_at at t) = refl
    value_same words (null_at at) = refl
    value_same words (local_at at i) = refl
    value_same words (result_at at) = refl
    value_same words (unary_at at o x) = bind_same _ _ _ _ (value_same words x) (λ v m. refl)
    value_same words (binary_at at o x y) = bind_same _ _ _ _ (value_same words x) (λ v m. bind_same _ _ _ _ (value_same words y) (λ w n. refl))
    value_same words (both_at at x y) = bind_same _ _ _ _ (value_same words x) (λ v m. pick_same v _ _ _ _ refl (value_same words y))
    value_same words (either_at at x y) = bind_same _ _ _ _ (value_same words x) (λ v m. pick_same v _ _ _ _ (value_same words y) refl)
    value_same words (choose_at at x y z) = bind_same _ _ _ _ (value_same words x) (λ v m. pick_same v _ _ _ _ (value_same words z) (value_same words y))
    value_same words (read_at at x k field) = bind_same _ _ _ _ (value_same words x) (λ v m. read_same v field)
    value_same words (call_at at g es) = refl
    value_same words (library_at at l es t) = refl
    value_same words (alloc_at at k) = refl

    values_same : (words : List ℕ) (es : Trees) → values_in heap a words es ≡ values_in heap b words es
    values_same words no_trees = refl
    values_same words (tree_and e es) = bind_same _ _ _ _ (value_same words e) (λ v m. bind_same _ _ _ _ (values_same words es) (λ w n. refl))

asked_same : (mode : Mode) (heap : Heap) (a b : Cells) → SameCells heap a b → SameCells heap (asked mode heap a) (asked mode heap b)
asked_same strict heap a b same = same
asked_same loose heap a b same = λ n field v. refl

module _ (ps : List Predicate) (mode : Mode) (heap : Heap) (a b : Cells) (same : SameCells heap a b) where
  abbrev few : Cells
  few = asked mode heap a

  abbrev many : Cells
  many = asked mode heap b

  abbrev both : SameCells heap few many
  both = asked_same mode heap a b same

  met_same : (mode : Mode) (words : List ℕ) (e : Tree) → is_met mode heap a words e ≡ is_met mode heap b words e
  met_same strict words e = ap (λ m. is_so m) (value_same heap a b same words e)
  met_same loose words e = refl

  branch_same : (mode : Mode) (words : List ℕ) (e : Tree) → branch_of mode heap a words e ≡ branch_of mode heap b words e
  branch_same strict words e = ap (λ m. and_then m (λ x. Some (not (eqb x 0)))) (value_same heap a b same words e)
  branch_same loose words e = ap (λ m. Some (is_so m)) (value_same heap a b same words e)

  met : (t u : Bool) (m n : Option Cells) → t ≡ u → m ≡ n → (if t then m else None) ≡ (if u then n else None)
  met t u m n e f = ap (λ x. if x then m else None) e ∙ ap (λ x. if u then x else None) f

  walks_same : (u v : Unroll) → ((q : ℕ) (xs : List ℕ) (foot : Cells) → u q xs foot ≡ v q xs foot) →
      (words : List ℕ) (cs : Conjuncts) (foot : Cells) → walk_by mode u heap a words cs foot ≡ walk_by mode v heap b words cs foot
  walks_same u v h words no_parts foot = refl
  walks_same u v h words (value_part e rest) foot = met _ _ _ _ (met_same mode words e) (walks_same u v h words rest foot)
  walks_same u v h words (acc_part e field rest) foot =
      bind_same _ _ _ _ (value_same heap few many both words e) (λ x m.
      bind_same _ _ _ _ (taken_same heap few many both x field foot) (λ mid t. walks_same u v h words rest mid))
  walks_same u v h words (instance_part at q args rest) foot =
      bind_same _ _ _ _ (values_same heap few many both words args) (λ xs m.
      bind_same _ _ _ _ (h q xs foot) (λ mid t. walks_same u v h words rest mid))
  walks_same u v h words (choice_part at c these those rest) foot =
      bind_same _ _ _ _ (branch_same mode words c) (λ x m.
      bind_same _ _ _ _ (either_same x _ _ _ _ (walks_same u v h words these foot) (walks_same u v h words those foot)) (λ mid t. walks_same u v h words rest mid))

  body_same : (o : Option Predicate) (f g : Conjuncts → Option Cells) → ((body : Conjuncts) → f body ≡ g body) → in_body o f ≡ in_body o g
  body_same None f g h = refl
  body_same (Some d) f g h = h d.body

  unrolls_same : (k q : ℕ) (xs : List ℕ) (foot : Cells) → unroll_by mode k ps heap a q xs foot ≡ unroll_by mode k ps heap b q xs foot
  unrolls_same zero q xs foot = refl
  unrolls_same (suc k) q xs foot =
      body_same (slice_get ps q) _ _ (λ body. walks_same (unroll_by mode k ps heap a) (unroll_by mode k ps heap b) (unrolls_same k) xs body foot)

  one_same : (words : List ℕ) (cs : Conjuncts) → resume ps mode heap a ((words, cs) ∷ []) [] ≡ resume ps mode heap b ((words, cs) ∷ []) []
  one_same words cs =
      bind_same _ _ _ _ (walks_same (instance_by mode ps heap a) (instance_by mode ps heap b) (unrolls_same (depth ps heap)) words cs []) (λ foot m. refl)

pub same_value : same_value_law
same_value heap a b words e same = value_same heap a b same words e

pub same_values : same_values_law
same_values heap a b words es same = values_same heap a b same words es

pub same_take : same_take_law
same_take heap a b base field foot same = taken_same heap a b same base field foot

pub same_holds : same_holds_law
same_holds ps formula words heap a b same =
    strictly ps formula words heap a ∙ one_same ps strict heap a b same words formula.parts ∙ sym (strictly ps formula words heap b)

pub same_separate : same_separate_law
same_separate ps parts words heap a b same =
    separate ps parts words heap a ∙ ap (λ m. is_some m) (one_same ps loose heap a b same words parts) ∙ sym (separate ps parts words heap b)
