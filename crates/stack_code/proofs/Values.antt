-- A formula of values holds or fails by its words alone; and what the operators' instructions give.
use Rattle.std.proofs.Common.{◌≡◌, ℕ, zero, suc, Bool, true, false, not, List, [], ◌∷◌, ◌++◌, length, take, drop, reverse, Option, Some, None, refl, sym, ap, ◌∙◌, subst}
use Rattle.std.specs.Prelude.{eqb}
use Rattle.std.proofs.lemmas.List.{reverse-reverse, length-reverse}
use Rattle.std.proofs.lemmas.Grind.{reverse_onto}
use Rattle.std.proofs.Math.Seq.{take-append_seam, drop-append_seam}
use Rattle.gc0_tree.specs.Tree.{Tree, number_at, truth_at, local_at, result_at, unary_at, binary_at, Conjuncts, no_parts, value_part, Formula, Predicate}
use Rattle.c0_meaning.specs.Operators.{truth_word, pick, unary_word, binary_word}
use Rattle.c0_meaning.specs.Heaps.{Cells, Heap}
use Rattle.c0_meaning.specs.Holds.{and_then, value_in, Unroll, walk, unroll_at, depth, holds}
use Rattle.stack_code.specs.Built.{IsFormulaTree, AreValues, IsBuiltFormula}

and_then_same : {A B : Type 0} (o : Option A) (f g : A → Option B) → ((x : A) → f x ≡ g x) → and_then o f ≡ and_then o g
and_then_same None f g h = refl
and_then_same (Some x) f g h = h x

pick_same : {A : Type 0} (x : ℕ) (a b c : A) → b ≡ c → pick x a b ≡ pick x a c
pick_same zero a b c h = refl
pick_same (suc n) a b c h = h

value_same : (heap : Heap) (owned : Cells) (words : List ℕ) (e : Tree) → IsFormulaTree e → value_in heap owned words e ≡ value_in [] [] words e
value_same heap owned words (number_at at n) h = refl
value_same heap owned words (truth_at at b) h = refl
value_same heap owned words (local_at at i) h = refl
value_same heap owned words (result_at at) h = refl
value_same heap owned words (unary_at at o a) h = ap (λ v. and_then v (λ x. Some (unary_word o x))) (value_same heap owned words a h.1)
value_same heap owned words (binary_at at o a b) h =
    ap (λ v. and_then v (λ x. and_then (value_in heap owned words b) (binary_word o x))) (value_same heap owned words a h.1)
    ∙ ap (λ w. and_then (value_in [] [] words a) (λ x. and_then w (binary_word o x))) (value_same heap owned words b h.2)
value_same heap owned words e h = absurd h

walk_same : (unroll unroll' : Unroll) (heap : Heap) (owned : Cells) (words : List ℕ) (parts : Conjuncts) (foot : Cells) → AreValues parts → walk unroll heap owned words parts foot ≡ walk unroll' [] [] words parts foot
walk_same unroll unroll' heap owned words no_parts foot h = refl
walk_same unroll unroll' heap owned words (value_part e rest) foot h =
    ap (λ v. and_then v (λ x. pick x None (walk unroll heap owned words rest foot))) (value_same heap owned words e h.0)
    ∙ and_then_same (value_in [] [] words e) (λ x. pick x None (walk unroll heap owned words rest foot)) (λ x. pick x None (walk unroll' [] [] words rest foot)) (λ x. pick_same x None (walk unroll heap owned words rest foot) (walk unroll' [] [] words rest foot) (walk_same unroll unroll' heap owned words rest foot h.1))
walk_same unroll unroll' heap owned words parts foot h = absurd h

pub holds_same : (ps : List Predicate) (formula : Formula) (words : List ℕ) (heap : Heap) (owned : Cells) → IsBuiltFormula formula → holds ps formula words heap owned ≡ holds ps formula words [] []
holds_same ps formula words heap owned h = walk_same (unroll_at (depth ps heap) ps heap owned) (unroll_at (depth ps []) ps [] []) heap owned words formula.parts [] h

-- the opposite of a comparison
pub flip_not : (b : Bool) → truth_word (eqb (truth_word (not b)) 0) ≡ truth_word b
flip_not true = refl
flip_not false = refl

pub flip_is : (b : Bool) → truth_word (eqb (truth_word b) 0) ≡ truth_word (not b)
flip_is true = refl
flip_is false = refl

-- values pushed from left to right, so that the last is on top
abbrev pub onto : List ℕ → List ℕ → List ℕ
onto [] operands = operands
onto (x ∷ xs) operands = onto xs (x ∷ operands)

onto_is : (xs operands : List ℕ) → onto xs operands ≡ reverse xs ++ operands
onto_is [] operands = refl
onto_is (x ∷ xs) operands = onto_is xs (x ∷ operands) ∙ middle
  where
    middle : reverse xs ++ (x ∷ operands) ≡ reverse (x ∷ xs) ++ operands
    middle = sym (ap (λ l. l ++ operands) (reverse_onto xs x []) ∙ assoc (reverse xs))
      where
        assoc : (l : List ℕ) → (l ++ (x ∷ [])) ++ operands ≡ l ++ (x ∷ operands)
        assoc [] = refl
        assoc (y ∷ l) = ap (λ m. y ∷ m) (assoc l)

pub taken : (xs operands : List ℕ) (n : ℕ) → n ≡ length xs → reverse (take n (onto xs operands)) ≡ xs
taken xs operands n e =
    ap (λ l. reverse (take n l)) (onto_is xs operands)
    ∙ ap (λ m. reverse (take m (reverse xs ++ operands))) (e ∙ sym (length-reverse xs))
    ∙ ap (λ l. reverse l) (take-append_seam (reverse xs) operands)
    ∙ reverse-reverse xs

pub left : (xs operands : List ℕ) (n : ℕ) → n ≡ length xs → drop n (onto xs operands) ≡ operands
left xs operands n e =
    ap (λ l. drop n l) (onto_is xs operands)
    ∙ ap (λ m. drop m (reverse xs ++ operands)) (e ∙ sym (length-reverse xs))
    ∙ drop-append_seam (reverse xs) operands
