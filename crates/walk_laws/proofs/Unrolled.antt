-- In a guarded program a greater depth changes nothing in either walk, so an instance is its body.
use Rattle.std.proofs.Common.{◌≡◌, ℕ, zero, suc, ◌+◌, ◌-◌, ◌*◌, ◌<◌, ◌≤◌, ◌⊎◌, inl, inr, Bool, true, false, not, ◌&&◌, List, [], ◌∷◌, ◌++◌, length, Option, Some, None, refl, sym, ap, subst, ◌∙◌, IsTrue, arith}
use Rattle.std.proofs.lemmas.Nat.{mul-add-lt}
use Rattle.std.proofs.Math.Nat.{mul-le-mul_right, mul_comm}
use Rattle.std.specs.Prelude.{slice_get, is_some, if◌then◌else◌}
use Rattle.gc0_tree.specs.Tree.{Conjuncts, no_parts, value_part, acc_part, instance_part, choice_part, Predicate}
use Rattle.c0_meaning.specs.Heaps.{Cell, Cells, Heap, owns, cells_in, cell_value, field_of}
use Rattle.c0_meaning.specs.Holds.{and_then, value_in, values_in, Unroll, take_cell, in_body, depth}
use Rattle.c0_meaning.specs.Framing.{predicates_unguarded}
use Rattle.core_checks.specs.Parts.{cells_from}
use Rattle.walk_laws.specs.Walks.{Mode, asked, is_met, branch_of, walk_by, unroll_by, instance_by}
use Rattle.walk_laws.proofs.Free.{and_is, not_is, bind_some, bind_same, guard_some, some_is, none_some, free, free_falls, free_most, valued_in, Guards, guards_at, out_or_in, false_true}

pub either_case : {A : Type 0} (P : A → Type 0) (b : Bool) (x y : A) → P x → P y → P (if b then x else y)
either_case P true x y px py = px
either_case P false x y px py = py

pub either_same : {A : Type 0} (b : Bool) (x x' y y' : A) → x ≡ x' → y ≡ y' → (if b then x else y) ≡ (if b then x' else y')
either_same true x x' y y' e f = e
either_same false x x' y y' e f = f

module _ (ps : List Predicate) (mode : Mode) (heap : Heap) (owned : Cells) where
  abbrev pub cells : Cells
  cells = cells_from 1 heap

  pub taken : (many : Cells) (b field : ℕ) (foot mid : Cells) → take_cell heap many b field foot ≡ Some mid → free cells mid < free cells foot
  taken many zero field foot mid e = cc
  taken many (suc n) field foot mid e =
      let c : Cell = record { object = suc n; field = field } in
      let g = guard_some (is_some (cell_value heap c) && (owns many c && not (owns foot c))) (foot ++ c ∷ []) mid e in
      let t = and_is (is_some (cell_value heap c)) (owns many c && not (owns foot c)) g.0 in
      let back : suc n - 1 ≡ n = omega arith in
      let valued : IsTrue (is_some (field_of (slice_get heap n) field)) = subst (λ k. IsTrue (is_some (field_of (slice_get heap k) field))) back t.0 in
      let u = and_is (owns many c) (not (owns foot c)) t.1 in
      subst (λ f. free cells f < free cells foot) g.1 (free_falls cells foot c (valued_in heap 1 n field (suc n) (omega arith) valued) (not_is (owns foot c) u.1))

  -- nothing that an instance does makes a cell free
  abbrev pub Grows : (Cells → Option Cells) → Type 0
  Grows f = (foot mid : Cells) → f foot ≡ Some mid → free cells mid ≤ free cells foot

  then_grows : (m : Option Cells) (foot : Cells) (f : Cells → Option Cells) (last : Cells) → ((mid : Cells) → m ≡ Some mid → free cells mid ≤ free cells foot) → Grows f → and_then m f ≡ Some last → free cells last ≤ free cells foot
  then_grows m foot f last h g e =
      let b = bind_some m f last e in
      omega (arith, h b.0 b.1, g b.0 last b.2)

  pub walk_grows : (u : Unroll) → ((q : ℕ) (xs : List ℕ) → Grows (u q xs)) → (words : List ℕ) (cs : Conjuncts) → Grows (walk_by mode u heap owned words cs)
  walk_grows u h words no_parts foot last w = let e = some_is foot last w in rw e (omega arith)
  walk_grows u h words (value_part e rest) foot last w =
      either_case (λ m. m ≡ Some last → free cells last ≤ free cells foot) (is_met mode heap owned words e) (walk_by mode u heap owned words rest foot) None
      (walk_grows u h words rest foot last) (λ n. absurd (none_some last n)) w
  walk_grows u h words (acc_part e field rest) foot last w =
      let b = bind_some (value_in heap (asked mode heap owned) words e) _ last w in
      then_grows (take_cell heap (asked mode heap owned) b.0 field foot) foot (walk_by mode u heap owned words rest) last
      (λ mid t. let f = taken (asked mode heap owned) b.0 field foot mid t in omega arith) (walk_grows u h words rest) b.2
  walk_grows u h words (instance_part at q args rest) foot last w =
      let b = bind_some (values_in heap (asked mode heap owned) words args) _ last w in
      then_grows (u q b.0 foot) foot (walk_by mode u heap owned words rest) last (h q b.0 foot) (walk_grows u h words rest) b.2
  walk_grows u h words (choice_part at c these those rest) foot last w =
      let b = bind_some (branch_of mode heap owned words c) _ last w in
      then_grows (if b.0 then walk_by mode u heap owned words these foot else walk_by mode u heap owned words those foot) foot (walk_by mode u heap owned words rest) last
      (either_case (λ m. (mid : Cells) → m ≡ Some mid → free cells mid ≤ free cells foot) b.0 (walk_by mode u heap owned words these foot) (walk_by mode u heap owned words those foot) (walk_grows u h words these foot) (walk_grows u h words those foot))
      (walk_grows u h words rest) b.2

  body_grows : (body : Option Predicate) (f : Conjuncts → Option Cells) (foot mid : Cells) → ((cs : Conjuncts) → f cs ≡ Some mid → free cells mid ≤ free cells foot) → in_body body f ≡ Some mid → free cells mid ≤ free cells foot
  body_grows None f foot mid h e = absurd (none_some mid e)
  body_grows (Some d) f foot mid h e = h d.body e

  pub unroll_grows : (k q : ℕ) (xs : List ℕ) → Grows (unroll_by mode k ps heap owned q xs)
  unroll_grows zero q xs foot mid e = absurd (none_some mid e)
  unroll_grows (suc k) q xs foot mid e = body_grows (slice_get ps q) _ foot mid (λ cs. walk_grows (unroll_by mode k ps heap owned) (unroll_grows k) xs cs foot mid) e

  -- what has been passed to the left: the footprint has no more free cells than the first, and fewer past an `acc`
  abbrev pub Passed : Bool → ℕ → Cells → Type 0
  Passed seen most foot = (free cells foot ≤ most) × (IsTrue seen → free cells foot < most)

  -- where an instance in the body of the predicate stands
  abbrev pub Below : ℕ → ℕ → ℕ → Cells → Type 0
  Below most p q foot = (free cells foot < most) ⊎ ((free cells foot ≤ most) × (q < p))

  abbrev Alike : Unroll → Unroll → ℕ → ℕ → Type 0
  Alike u v most p = (q : ℕ) (xs : List ℕ) (foot : Cells) → Below most p q foot → u q xs foot ≡ v q xs foot

  pub passed_on : (seen : Bool) (most : ℕ) (foot mid : Cells) → Passed seen most foot → free cells mid ≤ free cells foot → Passed seen most mid
  passed_on seen most foot mid h le = (let a = h.0 in omega arith, λ t. let a = h.1 t in omega arith)

  pub passed_acc : (many : Cells) (b field : ℕ) (seen : Bool) (most : ℕ) (foot mid : Cells) → Passed seen most foot → take_cell heap many b field foot ≡ Some mid → Passed true most mid
  passed_acc many b field seen most foot mid h t =
      let f = taken many b field foot mid t in
      let a = h.0 in (omega arith, λ _. omega arith)

  pub where_it_is : (seen : Bool) (most p q : ℕ) (foot : Cells) → Passed seen most foot → IsTrue seen ⊎ (q < p) → Below most p q foot
  where_it_is seen most p q foot h (inl t) = inl (h.1 t)
  where_it_is seen most p q foot h (inr lt) = inr (h.0, lt)

  -- neither branch makes a cell free
  pub branch_grows : (u : Unroll) → ((q : ℕ) (xs : List ℕ) → Grows (u q xs)) → (words : List ℕ) (these those : Conjuncts) (b : Bool) (foot mid : Cells) →
      (if b then walk_by mode u heap owned words these foot else walk_by mode u heap owned words those foot) ≡ Some mid → free cells mid ≤ free cells foot
  branch_grows u grows words these those true foot mid t = walk_grows u grows words these foot mid t
  branch_grows u grows words these those false foot mid t = walk_grows u grows words those foot mid t

  walk_same : (u v : Unroll) (most p : ℕ) → ((q : ℕ) (xs : List ℕ) → Grows (u q xs)) → Alike u v most p →
      (words : List ℕ) (cs : Conjuncts) (seen : Bool) (foot : Cells) → Guards p seen cs → Passed seen most foot →
      walk_by mode u heap owned words cs foot ≡ walk_by mode v heap owned words cs foot
  walk_same u v most p grows alike words no_parts seen foot g h = refl
  walk_same u v most p grows alike words (value_part e rest) seen foot g h =
      either_same (is_met mode heap owned words e) _ _ _ _ (walk_same u v most p grows alike words rest seen foot g h) refl
  walk_same u v most p grows alike words (acc_part e field rest) seen foot g h =
      bind_same (value_in heap (asked mode heap owned) words e) (value_in heap (asked mode heap owned) words e) _ _ refl (λ b m.
      bind_same (take_cell heap (asked mode heap owned) b field foot) (take_cell heap (asked mode heap owned) b field foot) _ _ refl (λ mid t.
      walk_same u v most p grows alike words rest true mid g (passed_acc (asked mode heap owned) b field seen most foot mid h t)))
  walk_same u v most p grows alike words (instance_part at q args rest) seen foot g h =
      bind_same (values_in heap (asked mode heap owned) words args) (values_in heap (asked mode heap owned) words args) _ _ refl (λ xs m.
      bind_same (u q xs foot) (v q xs foot) _ _ (alike q xs foot (where_it_is seen most p q foot h g.0)) (λ mid t.
      walk_same u v most p grows alike words rest seen mid g.1 (passed_on seen most foot mid h (grows q xs foot mid t))))
  walk_same u v most p grows alike words (choice_part at c these those rest) seen foot g h =
      bind_same (branch_of mode heap owned words c) (branch_of mode heap owned words c) _ _ refl (λ b m.
      bind_same (if b then walk_by mode u heap owned words these foot else walk_by mode u heap owned words those foot) (if b then walk_by mode v heap owned words these foot else walk_by mode v heap owned words those foot) _ _
      (either_same b _ _ _ _ (walk_same u v most p grows alike words these seen foot g.0 h) (walk_same u v most p grows alike words those seen foot g.1 h)) (λ mid t.
      walk_same u v most p grows alike words rest seen mid g.2 (passed_on seen most foot mid h (branch_grows u grows words these those b foot mid t))))

  body_same : (body : Option Predicate) (f g : Conjuncts → Option Cells) → ((d : Predicate) → body ≡ Some d → f d.body ≡ g d.body) → in_body body f ≡ in_body body g
  body_same None f g h = refl
  body_same (Some d) f g h = h d refl

  -- the place of an instance in the order in which instances fall
  abbrev pub rank : ℕ → Cells → ℕ
  rank p foot = free cells foot * (length ps + 1) + p

  pub rank_falls : (p q : ℕ) (foot mid : Cells) → q < length ps → Below (free cells foot) p q mid → rank q mid < rank p foot
  rank_falls p q foot mid lt (inl fewer) =
      omega (arith, mul-add-lt (free cells mid) (length ps + 1) q (free cells foot) fewer (omega arith), mul_comm (length ps + 1) (free cells foot))
  rank_falls p q foot mid lt (inr le) = let a = le.0 in let b = le.1 in omega (arith, mul-le-mul_right (length ps + 1) a)

  -- the depth is above the place of each instance
  pub rank_below : (p : ℕ) (foot : Cells) → p < length ps → rank p foot < depth ps heap
  rank_below p foot in_range =
      let n : ℕ = length ps + 1 in
      let below : free cells foot < cells_in heap + 1 = omega (arith, free_most 1 heap foot) in
      omega (arith, mul-add-lt (free cells foot) n p (cells_in heap + 1) below (omega arith), mul_comm n (cells_in heap + 1))

  -- past the last predicate there is nothing at any depth
  past_none : (k p : ℕ) (xs : List ℕ) (foot : Cells) → slice_get ps p ≡ None → unroll_by mode k ps heap owned p xs foot ≡ None
  past_none zero p xs foot e = refl
  past_none (suc k) p xs foot e = ap (λ b. in_body b (λ cs. walk_by mode (unroll_by mode k ps heap owned) heap owned xs cs foot)) e

  by_range : (k p : ℕ) (xs : List ℕ) (foot : Cells) → (slice_get ps p ≡ None) ⊎ (p < length ps) →
      (p < length ps → unroll_by mode k ps heap owned p xs foot ≡ unroll_by mode (suc k) ps heap owned p xs foot) → unroll_by mode k ps heap owned p xs foot ≡ unroll_by mode (suc k) ps heap owned p xs foot
  by_range k p xs foot (inl e) h = past_none k p xs foot e ∙ sym (past_none (suc k) p xs foot e)
  by_range k p xs foot (inr l) h = h l

  stable : predicates_unguarded 0 ps ≡ [] → (k p : ℕ) (xs : List ℕ) (foot : Cells) → rank p foot < k → unroll_by mode k ps heap owned p xs foot ≡ unroll_by mode (suc k) ps heap owned p xs foot
  stable guarded zero p xs foot h = absurd (omega arith)
  stable guarded (suc k) p xs foot h =
      body_same (slice_get ps p) _ _ (λ d is.
      walk_same (unroll_by mode k ps heap owned) (unroll_by mode (suc k) ps heap owned) (free cells foot) p (unroll_grows k)
      (λ q ys mid w. by_range k q ys mid (out_or_in ps q) (λ lt. stable guarded k q ys mid (let r = rank_falls p q foot mid lt w in omega arith)))
      xs d.body false foot (guards_at ps 0 p p d (omega arith) guarded is) (omega arith, λ t. absurd (false_true t)))

  -- an instance does what its body does
  pub unrolled : predicates_unguarded 0 ps ≡ [] → (p : ℕ) (xs : List ℕ) (foot : Cells) →
      instance_by mode ps heap owned p xs foot ≡ in_body (slice_get ps p) (λ body. walk_by mode (instance_by mode ps heap owned) heap owned xs body foot)
  unrolled guarded p xs foot =
      by_range (depth ps heap) p xs foot (out_or_in ps p) (λ in_range. stable guarded (depth ps heap) p xs foot (rank_below p foot in_range))
