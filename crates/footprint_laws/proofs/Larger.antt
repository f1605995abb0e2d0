-- A larger set of owned cells changes no value and no footprint.
use Rattle.std.proofs.Common.{◌≡◌, ℕ, zero, suc, Bool, true, false, not, ◌&&◌, List, [], ◌∷◌, ◌++◌, Option, Some, None, refl, IsTrue}
use Rattle.std.specs.Prelude.{slice_get, if◌then◌else◌, is_some}
use Rattle.gc0_tree.specs.Tree.{Tree, number_at, truth_at, null_at, local_at, result_at, unary_at, binary_at, both_at, either_at, choose_at, read_at, call_at, library_at, alloc_at, Trees, no_trees, tree_and, Conjuncts, no_parts, value_part, acc_part, instance_part, choice_part, Predicate}
use Rattle.c0_meaning.specs.Operators.{pick}
use Rattle.c0_meaning.specs.Heaps.{Cell, Cells, Heap, owns, cell_value}
use Rattle.c0_meaning.specs.Holds.{and_then, owned_value, value_in, values_in, Unroll, take_cell, walk, in_body, unroll_at, depth}
use Rattle.footprint_laws.specs.FootprintLaws.{Within, larger_law}

-- what the first gives, the second gives
abbrev pub Under : {A : Type 0} → Option A → Option A → Type 0
Under {A} m n = (x : A) → m ≡ Some x → n ≡ Some x

under_bind : {A B : Type 0} (m n : Option A) (f g : A → Option B) → Under m n → ((x : A) → Under (f x) (g x)) → Under (and_then m f) (and_then n g)
under_bind None n f g h k y e = cc
under_bind (Some x) n f g h k y e = rw (h x refl) (k x y e)

under_pick : {A : Type 0} (x : ℕ) (a b c d : Option A) → Under a c → Under b d → Under (pick x a b) (pick x c d)
under_pick zero a b c d h k = h
under_pick (suc n) a b c d h k = k

under_guard : {A : Type 0} (t u : Bool) (m : Option A) → (IsTrue t → IsTrue u) → Under (if t then m else None) (if u then m else None)
under_guard false u m h y e = cc
under_guard true true m h y e = e
under_guard true false m h y e = let f = h refl in cc

module _ (heap : Heap) (few many : Cells) (within : Within few many) where
  owned_larger : (b field : ℕ) → Under (owned_value heap few b field) (owned_value heap many b field)
  owned_larger zero field = λ x e. e
  owned_larger (suc n) field =
      let c : Cell = record { object = suc n; field = field } in
      under_guard (owns few c) (owns many c) (cell_value heap c) (within c)

  mutual
    value_larger : (words : List ℕ) (e : Tree) → Under (value_in heap few words e) (value_in heap many words e)
    value_larger words (number_at at n) = λ x e. e
    value_larger words (truth_at at b) = λ x e. e
    value_larger words (null_at at) = λ x e. e
    value_larger words (local_at at i) = λ x e. e
    value_larger words (result_at at) = λ x e. e
    value_larger words (unary_at at o a) = under_bind _ _ _ _ (value_larger words a) (λ x z e. e)
    value_larger words (binary_at at o a b) = under_bind _ _ _ _ (value_larger words a) (λ x. under_bind _ _ _ _ (value_larger words b) (λ y z e. e))
    value_larger words (both_at at a b) = under_bind _ _ _ _ (value_larger words a) (λ x. under_pick x _ _ _ _ (λ z e. e) (value_larger words b))
    value_larger words (either_at at a b) = under_bind _ _ _ _ (value_larger words a) (λ x. under_pick x _ _ _ _ (value_larger words b) (λ z e. e))
    value_larger words (choose_at at a b c) = under_bind _ _ _ _ (value_larger words a) (λ x. under_pick x _ _ _ _ (value_larger words c) (value_larger words b))
    value_larger words (read_at at a k field) = under_bind _ _ _ _ (value_larger words a) (λ b. owned_larger b field)
    value_larger words (call_at at g es) = λ x e. e
    value_larger words (library_at at l es t) = λ x e. e
    value_larger words (alloc_at at k) = λ x e. e

    values_larger : (words : List ℕ) (es : Trees) → Under (values_in heap few words es) (values_in heap many words es)
    values_larger words no_trees = λ x e. e
    values_larger words (tree_and e es) = under_bind _ _ _ _ (value_larger words e) (λ x. under_bind _ _ _ _ (values_larger words es) (λ y z e. e))

  both_true : (a b c : Bool) → (IsTrue a → IsTrue b) → IsTrue (a && c) → IsTrue (b && c)
  both_true false b c h t = cc
  both_true true true c h t = t
  both_true true false c h t = let f = h refl in cc

  both_true_after : (d a b c : Bool) → (IsTrue a → IsTrue b) → IsTrue (d && (a && c)) → IsTrue (d && (b && c))
  both_true_after false a b c h t = t
  both_true_after true a b c h t = both_true a b c h t

  take_larger : (b field : ℕ) (foot : Cells) → Under (take_cell heap few b field foot) (take_cell heap many b field foot)
  take_larger zero field foot = λ x e. e
  take_larger (suc n) field foot =
      let c : Cell = record { object = suc n; field = field } in
      under_guard (is_some (cell_value heap c) && (owns few c && not (owns foot c))) (is_some (cell_value heap c) && (owns many c && not (owns foot c))) (Some (foot ++ c ∷ [])) (both_true_after (is_some (cell_value heap c)) (owns few c) (owns many c) (not (owns foot c)) (within c))

  walk_larger : (u v : Unroll) → ((p : ℕ) (xs : List ℕ) (foot : Cells) → Under (u p xs foot) (v p xs foot)) →
      (words : List ℕ) (cs : Conjuncts) (foot : Cells) → Under (walk u heap few words cs foot) (walk v heap many words cs foot)
  walk_larger u v h words no_parts foot = λ x e. e
  walk_larger u v h words (value_part e rest) foot = under_bind _ _ _ _ (value_larger words e) (λ x. under_pick x _ _ _ _ (λ z e. e) (walk_larger u v h words rest foot))
  walk_larger u v h words (acc_part e field rest) foot = under_bind _ _ _ _ (value_larger words e) (λ b. under_bind _ _ _ _ (take_larger b field foot) (walk_larger u v h words rest))
  walk_larger u v h words (instance_part at p args rest) foot = under_bind _ _ _ _ (values_larger words args) (λ xs. under_bind _ _ _ _ (h p xs foot) (walk_larger u v h words rest))
  walk_larger u v h words (choice_part at c these those rest) foot =
      under_bind _ _ _ _ (value_larger words c) (λ x. under_bind _ _ _ _ (under_pick x _ _ _ _ (walk_larger u v h words those foot) (walk_larger u v h words these foot)) (walk_larger u v h words rest))

  body_larger : (body : Option Predicate) (f g : Conjuncts → Option Cells) → ((cs : Conjuncts) → Under (f cs) (g cs)) → Under (in_body body f) (in_body body g)
  body_larger None f g h = λ x e. e
  body_larger (Some p) f g h = h p.body

  unroll_larger : (k : ℕ) (ps : List Predicate) (p : ℕ) (xs : List ℕ) (foot : Cells) → Under (unroll_at k ps heap few p xs foot) (unroll_at k ps heap many p xs foot)
  unroll_larger zero ps p xs foot = λ x e. e
  unroll_larger (suc k) ps p xs foot = body_larger (slice_get ps p) _ _ (λ cs. walk_larger _ _ (unroll_larger k ps) xs cs foot)

pub larger : larger_law
larger ps formula words heap few many foot within e =
    walk_larger heap few many within _ _ (unroll_larger heap few many within (depth ps heap) ps) words formula.parts [] foot e
