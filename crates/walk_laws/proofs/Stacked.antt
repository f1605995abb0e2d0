-- The stack gives what the recursion gives, and ends.
use Rattle.std.proofs.Common.{◌≡◌, ℕ, zero, suc, ◌+◌, ◌<◌, ◌⊎◌, inl, inr, Bool, true, false, List, [], ◌∷◌, length, Option, Some, None, refl, sym, ap, subst, ◌∙◌, arith}
use Rattle.std.specs.Prelude.{slice_get, if◌then◌else◌}
use Rattle.gc0_tree.specs.Tree.{Conjuncts, no_parts, value_part, acc_part, instance_part, choice_part, Predicate}
use Rattle.c0_meaning.specs.Heaps.{Cells, Heap}
use Rattle.c0_meaning.specs.Holds.{and_then, value_in, values_in, Unroll, take_cell, in_body, depth}
use Rattle.c0_meaning.specs.Framing.{predicates_unguarded}
use Rattle.walk_laws.specs.Walks.{Mode, asked, is_met, branch_of, walk_by, instance_by, Frame, stack_step, resume, on, cost_by, cost_at, steps_left, Steps, stack_law}
use Rattle.walk_laws.proofs.Free.{free, Guards, guards_at, out_or_in, false_true}
use Rattle.walk_laws.proofs.Unrolled.{cells, either_same, Below, Passed, passed_on, passed_acc, where_it_is, unroll_grows, branch_grows, rank, rank_falls, rank_below, unrolled}

bind_bind : {A B C : Type 0} (m : Option A) (f : A → Option B) (g : B → Option C) → and_then (and_then m f) g ≡ and_then m (λ x. and_then (f x) g)
bind_bind None f g = refl
bind_bind (Some x) f g = refl

on_bind : {A B : Type 0} (m : Option A) (f : A → Option B) (g : B → ℕ) → on (and_then m f) g ≡ on m (λ x. on (f x) g)
on_bind None f g = refl
on_bind (Some x) f g = refl

on_same : {A : Type 0} (m : Option A) (f g : A → ℕ) → ((x : A) → m ≡ Some x → f x ≡ g x) → on m f ≡ on m g
on_same None f g h = refl
on_same (Some x) f g h = h x refl

on_add : {A : Type 0} (m : Option A) (f g : A → ℕ) → on m f + on m g ≡ on m (λ x. f x + g x)
on_add None f g = omega arith
on_add (Some x) f g = refl

module _ (ps : List Predicate) (mode : Mode) (heap : Heap) (owned : Cells) (guarded : predicates_unguarded 0 ps ≡ []) where
  abbrev u : Unroll
  u = instance_by mode ps heap owned

  abbrev many : Cells
  many = asked mode heap owned

  abbrev Cost : Type 0
  Cost = ℕ → List ℕ → Cells → ℕ

  abbrev goes : List ℕ → Conjuncts → Cells → Option Cells
  goes words cs foot = walk_by mode u heap owned words cs foot

  abbrev takes : Cost → List ℕ → Conjuncts → Cells → ℕ
  takes c words cs foot = cost_by mode u c heap owned words cs foot

  -- where two costs of instances agree on what is reached, so do the costs
  cost_same : (c d : Cost) (most p : ℕ) → ((q : ℕ) (xs : List ℕ) (foot : Cells) → Below ps mode heap owned most p q foot → c q xs foot ≡ d q xs foot) →
      (words : List ℕ) (cs : Conjuncts) (seen : Bool) (foot : Cells) → Guards p seen cs → Passed ps mode heap owned seen most foot → takes c words cs foot ≡ takes d words cs foot
  cost_same c d most p alike words no_parts seen foot g h = refl
  cost_same c d most p alike words (value_part e rest) seen foot g h =
      ap (λ n. 1 + n) (either_same (is_met mode heap owned words e) _ _ _ _ (cost_same c d most p alike words rest seen foot g h) refl)
  cost_same c d most p alike words (acc_part e field rest) seen foot g h =
      ap (λ n. 1 + n) (on_same (value_in heap many words e) _ _ (λ b m. on_same (take_cell heap many b field foot) _ _ (λ mid t.
      cost_same c d most p alike words rest true mid g (passed_acc ps mode heap owned many b field seen most foot mid h t))))
  cost_same c d most p alike words (instance_part at q args rest) seen foot g h =
      ap (λ n. 1 + n) (on_same (values_in heap many words args) _ _ (λ xs m.
      ap (λ n. n + on (u q xs foot) (takes c words rest)) (alike q xs foot (where_it_is ps mode heap owned seen most p q foot h g.0))
      ∙ ap (λ n. d q xs foot + n) (on_same (u q xs foot) _ _ (λ mid t.
      cost_same c d most p alike words rest seen mid g.1 (passed_on ps mode heap owned seen most foot mid h (unroll_grows ps mode heap owned (depth ps heap) q xs foot mid t))))))
  cost_same c d most p alike words (choice_part at e these those rest) seen foot g h =
      ap (λ n. 1 + n) (on_same (branch_of mode heap owned words e) _ _ (λ b m.
      ap (λ n. n + on (if b then goes words these foot else goes words those foot) (takes c words rest))
      (either_same b _ _ _ _ (cost_same c d most p alike words these seen foot g.0 h) (cost_same c d most p alike words those seen foot g.1 h))
      ∙ ap (λ n. (if b then takes d words these foot else takes d words those foot) + n)
      (on_same (if b then goes words these foot else goes words those foot) _ _ (λ mid t.
      cost_same c d most p alike words rest seen mid g.2 (passed_on ps mode heap owned seen most foot mid h
      (branch_grows ps mode heap owned u (unroll_grows ps mode heap owned (depth ps heap)) words these those b foot mid t))))))

  past_free : (k p : ℕ) (xs : List ℕ) (foot : Cells) → slice_get ps p ≡ None → cost_at mode k ps heap owned p xs foot ≡ 0
  past_free zero p xs foot e = refl
  past_free (suc k) p xs foot e = ap (λ o. on o (λ d. takes (cost_at mode k ps heap owned) xs d.body foot)) e

  by_range : (k p : ℕ) (xs : List ℕ) (foot : Cells) → (slice_get ps p ≡ None) ⊎ (p < length ps) →
      (p < length ps → cost_at mode k ps heap owned p xs foot ≡ cost_at mode (suc k) ps heap owned p xs foot) → cost_at mode k ps heap owned p xs foot ≡ cost_at mode (suc k) ps heap owned p xs foot
  by_range k p xs foot (inl e) h = past_free k p xs foot e ∙ sym (past_free (suc k) p xs foot e)
  by_range k p xs foot (inr l) h = h l

  cost_stable : (k p : ℕ) (xs : List ℕ) (foot : Cells) → rank ps mode heap owned p foot < k → cost_at mode k ps heap owned p xs foot ≡ cost_at mode (suc k) ps heap owned p xs foot
  cost_stable zero p xs foot h = absurd (omega arith)
  cost_stable (suc k) p xs foot h =
      on_same (slice_get ps p) _ _ (λ d is.
      cost_same (cost_at mode k ps heap owned) (cost_at mode (suc k) ps heap owned) (free (cells ps mode heap owned) foot) p
      (λ q ys mid w. by_range k q ys mid (out_or_in ps q) (λ lt. cost_stable k q ys mid (let r = rank_falls ps mode heap owned p q foot mid lt w in omega arith)))
      xs d.body false foot (guards_at ps 0 p p d (omega arith) guarded is) (omega arith, λ t. absurd (false_true t)))

  abbrev c : Cost
  c = cost_at mode (depth ps heap) ps heap owned

  -- an instance costs what its body costs
  instance_cost : (p : ℕ) (xs : List ℕ) (foot : Cells) → c p xs foot ≡ on (slice_get ps p) (λ d. takes c xs d.body foot)
  instance_cost p xs foot =
      by_range (depth ps heap) p xs foot (out_or_in ps p) (λ in_range. cost_stable (depth ps heap) p xs foot (rank_below ps mode heap owned p foot in_range))

  abbrev left : List Frame → Cells → ℕ
  left = steps_left ps mode heap owned

  abbrev gives : List Frame → Cells → Option Cells
  gives = resume ps mode heap owned

  abbrev StepsTo : Option Cells → ℕ → Option (List Frame × Cells) → Type 0
  StepsTo found bound None = found ≡ None
  StepsTo found bound (Some next) = (found ≡ gives next.0 next.1) × (left next.0 next.1 < bound)

  step_bind : {A : Type 0} (m : Option A) (f : A → Option Cells) (k : A → ℕ) (n : A → Option (List Frame × Cells)) (R : Cells → Option Cells) (S : Cells → ℕ) →
      ((x : A) → m ≡ Some x → StepsTo (and_then (f x) R) (1 + k x + on (f x) S) (n x)) → StepsTo (and_then (and_then m f) R) (1 + on m k + on (and_then m f) S) (and_then m n)
  step_bind None f k n R S h = refl
  step_bind (Some x) f k n R S h = h x refl

  value_step : (b : Bool) (W : Option Cells) (C : ℕ) (next : List Frame × Cells) (R : Cells → Option Cells) (S : Cells → ℕ) → and_then W R ≡ gives next.0 next.1 → left next.0 next.1 ≡ C + on W S →
      StepsTo (and_then (if b then W else None) R) (1 + (if b then C else 0) + on (if b then W else None) S) (if b then Some next else None)
  value_step false W C next R S e l = refl
  value_step true W C next R S e l = (e, omega (arith, l))

  -- a frame on top of the rest, where both came from one conjunct
  pushed : (xs : List ℕ) (top : Conjuncts) (words : List ℕ) (rest : Conjuncts) (fs : List Frame) (foot : Cells) →
      StepsTo (and_then (and_then (goes xs top foot) (goes words rest)) (gives fs))
      (1 + (takes c xs top foot + on (goes xs top foot) (takes c words rest)) + on (and_then (goes xs top foot) (goes words rest)) (left fs))
      (Some ((xs, top) ∷ (words, rest) ∷ fs, foot))
  pushed xs top words rest fs foot =
      let W : Option Cells = goes xs top foot in (
        bind_bind W (goes words rest) (gives fs),
        omega (arith, on_bind W (goes words rest) (left fs), on_add W (takes c words rest) (λ mid. on (goes words rest mid) (left fs))),
      )

  body_step : (o : Option Predicate) (xs words : List ℕ) (rest : Conjuncts) (fs : List Frame) (foot : Cells) →
      StepsTo (and_then (and_then (in_body o (λ body. goes xs body foot)) (goes words rest)) (gives fs))
      (1 + (on o (λ d. takes c xs d.body foot) + on (in_body o (λ body. goes xs body foot)) (takes c words rest))
      + on (and_then (in_body o (λ body. goes xs body foot)) (goes words rest)) (left fs))
      (and_then o (λ d. Some ((xs, d.body) ∷ (words, rest) ∷ fs, foot)))
  body_step None xs words rest fs foot = refl
  body_step (Some d) xs words rest fs foot = pushed xs d.body words rest fs foot

  -- what an instance does and costs is what its body does and costs
  instance_step : (p : ℕ) (xs words : List ℕ) (rest : Conjuncts) (fs : List Frame) (foot : Cells) →
      StepsTo (and_then (and_then (u p xs foot) (goes words rest)) (gives fs))
      (1 + (c p xs foot + on (u p xs foot) (takes c words rest)) + on (and_then (u p xs foot) (goes words rest)) (left fs))
      (and_then (slice_get ps p) (λ d. Some ((xs, d.body) ∷ (words, rest) ∷ fs, foot)))
  instance_step p xs words rest fs foot =
      let n : Option (List Frame × Cells) = and_then (slice_get ps p) (λ d. Some ((xs, d.body) ∷ (words, rest) ∷ fs, foot)) in
      let W : Option Cells = in_body (slice_get ps p) (λ body. goes xs body foot) in
      let by_body = body_step (slice_get ps p) xs words rest fs foot in
      let by_cost = subst (λ k. StepsTo (and_then (and_then W (goes words rest)) (gives fs)) (1 + (k + on W (takes c words rest)) + on (and_then W (goes words rest)) (left fs)) n)
      (sym (instance_cost p xs foot)) by_body in
      subst (λ m. StepsTo (and_then (and_then m (goes words rest)) (gives fs)) (1 + (c p xs foot + on m (takes c words rest)) + on (and_then m (goes words rest)) (left fs)) n)
      (sym (unrolled ps mode heap owned guarded p xs foot)) by_cost

  branch_step : (b : Bool) (words : List ℕ) (these those rest : Conjuncts) (fs : List Frame) (foot : Cells) →
      StepsTo (and_then (and_then (if b then goes words these foot else goes words those foot) (goes words rest)) (gives fs))
      (1 + ((if b then takes c words these foot else takes c words those foot) + on (if b then goes words these foot else goes words those foot) (takes c words rest))
      + on (and_then (if b then goes words these foot else goes words those foot) (goes words rest)) (left fs))
      (Some ((words, if b then these else those) ∷ (words, rest) ∷ fs, foot))
  branch_step true words these those rest fs foot = pushed words these words rest fs foot
  branch_step false words these those rest fs foot = pushed words those words rest fs foot

  same_steps : (f : Frame) (fs : List Frame) (foot : Cells) (o : Option (List Frame × Cells)) → StepsTo (gives (f ∷ fs) foot) (left (f ∷ fs) foot) o → Steps ps mode heap owned (f ∷ fs) foot o
  same_steps f fs foot None h = h
  same_steps f fs foot (Some n) h = h

  step_does : (f : Frame) (fs : List Frame) (foot : Cells) → Steps ps mode heap owned (f ∷ fs) foot (stack_step ps mode heap owned f fs foot)
  step_does (words, no_parts) fs foot = (refl, omega arith)
  step_does (words, value_part e rest) fs foot =
      same_steps (words, value_part e rest) fs foot _
      (value_step (is_met mode heap owned words e) (goes words rest foot) (takes c words rest foot) ((words, rest) ∷ fs, foot) (gives fs) (left fs) refl refl)
  step_does (words, acc_part e field rest) fs foot =
      same_steps (words, acc_part e field rest) fs foot _
      (step_bind (value_in heap many words e) (λ b. and_then (take_cell heap many b field foot) (goes words rest)) (λ b. on (take_cell heap many b field foot) (takes c words rest))
      (λ b. and_then (take_cell heap many b field foot) (λ mid. Some ((words, rest) ∷ fs, mid))) (gives fs) (left fs)
      (λ b m. step_bind (take_cell heap many b field foot) (goes words rest) (takes c words rest) (λ mid. Some ((words, rest) ∷ fs, mid)) (gives fs) (left fs)
      (λ mid t. (refl, omega arith))))
  step_does (words, instance_part at p args rest) fs foot =
      same_steps (words, instance_part at p args rest) fs foot _
      (step_bind (values_in heap many words args) (λ xs. and_then (u p xs foot) (goes words rest)) (λ xs. c p xs foot + on (u p xs foot) (takes c words rest))
      (λ xs. and_then (slice_get ps p) (λ d. Some ((xs, d.body) ∷ (words, rest) ∷ fs, foot))) (gives fs) (left fs)
      (λ xs m. instance_step p xs words rest fs foot))
  step_does (words, choice_part at e these those rest) fs foot =
      same_steps (words, choice_part at e these those rest) fs foot _
      (step_bind (branch_of mode heap owned words e) (λ b. and_then (if b then goes words these foot else goes words those foot) (goes words rest))
      (λ b. (if b then takes c words these foot else takes c words those foot) + on (if b then goes words these foot else goes words those foot) (takes c words rest))
      (λ b. Some ((words, if b then these else those) ∷ (words, rest) ∷ fs, foot)) (gives fs) (left fs)
      (λ b m. branch_step b words these those rest fs foot))

pub stacked : stack_law
stacked ps mode heap owned f fs foot guarded = step_does ps mode heap owned guarded f fs foot
