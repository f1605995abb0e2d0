-- The walk by a mode is that of `holds`, and that of `is_separate`.
use Rattle.std.proofs.Common.{◌≡◌, ℕ, zero, suc, false, not, List, [], Option, Some, None, refl, sym, ap, ◌∙◌, eqb, arith}
use Rattle.std.proofs.lemmas.Bool.{ne_eqb}
use Rattle.std.specs.Prelude.{slice_get, is_some, if◌then◌else◌}
use Rattle.gc0_tree.specs.Tree.{Conjuncts, no_parts, value_part, acc_part, instance_part, choice_part, Predicate}
use Rattle.c0_meaning.specs.Operators.{pick}
use Rattle.c0_meaning.specs.Heaps.{Cells, Heap}
use Rattle.c0_meaning.specs.Holds.{and_then, value_in, values_in, Unroll, take_cell, walk, in_body, unroll_at, depth}
use Rattle.core_meaning.specs.Choices.{is_so}
use Rattle.core_checks.specs.Parts.{all_cells, loose_walk, loose_at}
use Rattle.walk_laws.specs.Walks.{strict, loose, branch_of, walk_by, unroll_by, instance_by, strict_law, loose_law}
use Rattle.walk_laws.proofs.Free.{bind_same}
use Rattle.walk_laws.proofs.Unrolled.{either_same}

-- the last of the frames gives what it gives alone
alone : (m : Option Cells) → and_then m (λ foot. Some foot) ≡ m
alone None = refl
alone (Some foot) = refl

not_zero : (n : ℕ) → eqb (suc n) 0 ≡ false
not_zero n = ne_eqb (suc n) 0 (λ e. omega (arith, e))

tested : (m : Option ℕ) (W : Option Cells) → and_then m (λ x. pick x None W) ≡ (if is_so m then W else None)
tested None W = refl
tested (Some zero) W = refl
tested (Some (suc n)) W = ap (λ b. if not b then W else None) (sym (not_zero n))

branched : (m : Option ℕ) (these those : Option Cells) (f : Cells → Option Cells) →
    and_then m (λ x. and_then (pick x those these) f) ≡ and_then (and_then m (λ x. Some (not (eqb x 0)))) (λ b. and_then (if b then these else those) f)
branched None these those f = refl
branched (Some zero) these those f = refl
branched (Some (suc n)) these those f = ap (λ b. and_then (if not b then these else those) f) (sym (not_zero n))

module _ (ps : List Predicate) (heap : Heap) (owned : Cells) where
  abbrev Same : Unroll → Unroll → Type 0
  Same u v = (q : ℕ) (xs : List ℕ) (foot : Cells) → u q xs foot ≡ v q xs foot

  same_body : (o : Option Predicate) (f g : Conjuncts → Option Cells) → ((body : Conjuncts) → f body ≡ g body) → in_body o f ≡ in_body o g
  same_body None f g h = refl
  same_body (Some d) f g h = h d.body

  strict_walk : (u v : Unroll) → Same u v → (words : List ℕ) (cs : Conjuncts) (foot : Cells) → walk u heap owned words cs foot ≡ walk_by strict v heap owned words cs foot
  strict_walk u v same words no_parts foot = refl
  strict_walk u v same words (value_part e rest) foot =
      tested (value_in heap owned words e) (walk u heap owned words rest foot)
      ∙ either_same (is_so (value_in heap owned words e)) _ _ _ _ (strict_walk u v same words rest foot) refl
  strict_walk u v same words (acc_part e field rest) foot =
      bind_same (value_in heap owned words e) (value_in heap owned words e) _ _ refl (λ b m.
      bind_same (take_cell heap owned b field foot) (take_cell heap owned b field foot) _ _ refl (λ mid t. strict_walk u v same words rest mid))
  strict_walk u v same words (instance_part at q args rest) foot =
      bind_same (values_in heap owned words args) (values_in heap owned words args) _ _ refl (λ xs m.
      bind_same (u q xs foot) (v q xs foot) _ _ (same q xs foot) (λ mid t. strict_walk u v same words rest mid))
  strict_walk u v same words (choice_part at c these those rest) foot =
      branched (value_in heap owned words c) (walk u heap owned words these foot) (walk u heap owned words those foot) (walk u heap owned words rest)
      ∙ bind_same (branch_of strict heap owned words c) (branch_of strict heap owned words c) _ _ refl (λ b m.
      bind_same (if b then walk u heap owned words these foot else walk u heap owned words those foot) (if b then walk_by strict v heap owned words these foot else walk_by strict v heap owned words those foot) _ _
      (either_same b _ _ _ _ (strict_walk u v same words these foot) (strict_walk u v same words those foot)) (λ mid t. strict_walk u v same words rest mid))

  strict_at : (k : ℕ) → Same (unroll_at k ps heap owned) (unroll_by strict k ps heap owned)
  strict_at zero q xs foot = refl
  strict_at (suc k) q xs foot =
      same_body (slice_get ps q) _ _ (λ body. strict_walk (unroll_at k ps heap owned) (unroll_by strict k ps heap owned) (strict_at k) xs body foot)

  loosely : (u v : Unroll) → Same u v → (words : List ℕ) (cs : Conjuncts) (foot : Cells) → loose_walk u heap owned words cs foot ≡ walk_by loose v heap owned words cs foot
  loosely u v same words no_parts foot = refl
  loosely u v same words (value_part e rest) foot = loosely u v same words rest foot
  loosely u v same words (acc_part e field rest) foot =
      bind_same (value_in heap (all_cells heap) words e) (value_in heap (all_cells heap) words e) _ _ refl (λ b m.
      bind_same (take_cell heap (all_cells heap) b field foot) (take_cell heap (all_cells heap) b field foot) _ _ refl (λ mid t. loosely u v same words rest mid))
  loosely u v same words (instance_part at q args rest) foot =
      bind_same (values_in heap (all_cells heap) words args) (values_in heap (all_cells heap) words args) _ _ refl (λ xs m.
      bind_same (u q xs foot) (v q xs foot) _ _ (same q xs foot) (λ mid t. loosely u v same words rest mid))
  loosely u v same words (choice_part at c these those rest) foot =
      bind_same (if is_so (value_in heap owned words c) then loose_walk u heap owned words these foot else loose_walk u heap owned words those foot)
      (if is_so (value_in heap owned words c) then walk_by loose v heap owned words these foot else walk_by loose v heap owned words those foot) _ _
      (either_same (is_so (value_in heap owned words c)) _ _ _ _ (loosely u v same words these foot) (loosely u v same words those foot)) (λ mid t. loosely u v same words rest mid)

  loosely_at : (k : ℕ) → Same (loose_at k ps heap owned) (unroll_by loose k ps heap owned)
  loosely_at zero q xs foot = refl
  loosely_at (suc k) q xs foot =
      same_body (slice_get ps q) _ _ (λ body. loosely (loose_at k ps heap owned) (unroll_by loose k ps heap owned) (loosely_at k) xs body foot)

pub strictly : strict_law
strictly ps formula words heap owned =
    strict_walk ps heap owned (unroll_at (depth ps heap) ps heap owned) (instance_by strict ps heap owned) (strict_at ps heap owned (depth ps heap)) words formula.parts []
    ∙ sym (alone (walk_by strict (instance_by strict ps heap owned) heap owned words formula.parts []))

pub separate : loose_law
separate ps parts words heap owned =
    ap (λ m. is_some m) (loosely ps heap owned (loose_at (depth ps heap) ps heap owned) (instance_by loose ps heap owned) (loosely_at ps heap owned (depth ps heap)) words parts []
    ∙ sym (alone (walk_by loose (instance_by loose ps heap owned) heap owned words parts [])))
