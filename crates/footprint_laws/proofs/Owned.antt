-- A footprint lies in the owned cells and in the heap, and lists no cell twice.
use Rattle.std.proofs.Common.{◌≡◌, ℕ, zero, suc, Bool, true, false, not, ◌&&◌, List, [], ◌∷◌, ◌++◌, Option, Some, None, refl, ap, subst, ◌∙◌, IsTrue, eqb}
use Rattle.std.proofs.lemmas.Bool.{eqb-true, eq-eqb}
use Rattle.std.specs.Prelude.{slice_get, if◌then◌else◌, is_some, ◌||◌}
use Rattle.gc0_tree.specs.Tree.{Conjuncts, no_parts, value_part, acc_part, instance_part, choice_part, Predicate}
use Rattle.c0_meaning.specs.Operators.{pick}
use Rattle.c0_meaning.specs.Heaps.{Cell, Cells, Heap, same_cell, owns, cell_value}
use Rattle.c0_meaning.specs.Holds.{and_then, value_in, values_in, Unroll, take_cell, walk, in_body, unroll_at, depth}
use Rattle.footprint_laws.specs.FootprintLaws.{Within, InHeap, IsDistinct, footprint_law}

or_false : (b : Bool) → (b || false) ≡ b
or_false true = refl
or_false false = refl

or_after : (a b x y : Bool) → x ≡ (b || y) → (a || x) ≡ ((a || b) || y)
or_after true b x y e = refl
or_after false b x y e = e

pub owns_end : (foot : Cells) (c d : Cell) → owns (foot ++ c ∷ []) d ≡ (owns foot d || same_cell c d)
owns_end [] c d = or_false (same_cell c d)
owns_end (e ∷ foot) c d = or_after (same_cell e d) (owns foot d) (owns (foot ++ c ∷ []) d) (same_cell c d) (owns_end foot c d)

pub and_is : (a b : Bool) → IsTrue (a && b) → IsTrue a × IsTrue b
and_is true b h = (refl, h)
and_is false b h = cc

pub same_is : (c d : Cell) → IsTrue (same_cell c d) → c ≡ d
same_is c d h =
    let e = and_is (eqb c.object d.object) (eqb c.field d.field) h in
    let p = eqb-true c.object d.object e.0 in
    let q = eqb-true c.field d.field e.1 in
    λ i. record { object = p i; field = q i }

pub same_refl : (c : Cell) → IsTrue (same_cell c c)
same_refl c = rw (eq-eqb c.object c.object refl) (eq-eqb c.field c.field refl)

pub not_is : (b : Bool) → IsTrue (not b) → b ≡ false
not_is true h = cc
not_is false h = refl

pub none_some : {A : Type 0} (x : A) → None ≡ Some x → ⊥
none_some x e = cc

pub some_is : {A : Type 0} (x y : A) → Some x ≡ Some y → x ≡ y
some_is x y e = cc

pub bind_some : {A B : Type 0} (m : Option A) (f : A → Option B) (y : B) → and_then m f ≡ Some y → (x : A) × (m ≡ Some x) × (f x ≡ Some y)
bind_some None f y e = absurd (none_some y e)
bind_some (Some x) f y e = (x, refl, e)

pub pick_case : {A : Type 0} (P : A → Type 0) (x : ℕ) (a b : A) → P a → P b → P (pick x a b)
pick_case P zero a b pa pb = pa
pick_case P (suc n) a b pa pb = pb

pub guard_some : {A : Type 0} (t : Bool) (x y : A) → (if t then Some x else None) ≡ Some y → IsTrue t × (x ≡ y)
guard_some true x y e = (refl, some_is x y e)
guard_some false x y e = absurd (none_some y e)

or_both : (a b : Bool) (G : Type 0) → (IsTrue a → G) → (IsTrue b → G) → IsTrue (a || b) → G
or_both true b G f g h = f refl
or_both false b G f g h = g h

or_none : (a b : Bool) → (a || b) ≡ false → (a ≡ false) × (b ≡ false)
or_none true b h = cc
or_none false b h = (refl, h)

is_false : (b : Bool) → (IsTrue b → ⊥) → b ≡ false
is_false true h = absurd (h refl)
is_false false h = refl

true_false : (b : Bool) → IsTrue b → b ≡ false → ⊥
true_false true h e = cc
true_false false h e = cc

same_turned : (c d : Cell) → same_cell c d ≡ false → same_cell d c ≡ false
same_turned c d e = is_false (same_cell d c) (λ t. true_false (same_cell c d) (subst (λ x. IsTrue (same_cell x d)) (same_is d c t) (same_refl d)) e)

distinct_end : (foot : Cells) (c : Cell) → IsDistinct foot → owns foot c ≡ false → IsDistinct (foot ++ c ∷ [])
distinct_end [] c h out = (refl, tt)
distinct_end (e ∷ foot) c h out =
    let o = or_none (same_cell e c) (owns foot c) out in
    let t = same_turned e c o.0 in
    let n : owns (foot ++ c ∷ []) e ≡ false = owns_end foot c e ∙ (ap (λ b. b || same_cell c e) h.0 ∙ t) in
    (n, distinct_end foot c h.1 o.1)

module _ (heap : Heap) (owned : Cells) where
  abbrev IsGood : Cells → Type 0
  IsGood foot = Within foot owned × InHeap foot heap × IsDistinct foot

  good_end : (foot : Cells) (c : Cell) → IsGood foot → IsTrue (owns owned c) → IsTrue (is_some (cell_value heap c)) → owns foot c ≡ false → IsGood (foot ++ c ∷ [])
  good_end foot c g o v out = (
    λ d h. or_both (owns foot d) (same_cell c d) _ (g.0 d) (λ s. subst (λ x. IsTrue (owns owned x)) (same_is c d s) o) (subst IsTrue (owns_end foot c d) h),
    λ d h. or_both (owns foot d) (same_cell c d) _ (g.1 d) (λ s. subst (λ x. IsTrue (is_some (cell_value heap x))) (same_is c d s) v) (subst IsTrue (owns_end foot c d) h),
    distinct_end foot c g.2 out,
  )

  take_good : (b field : ℕ) (foot mid : Cells) → IsGood foot → take_cell heap owned b field foot ≡ Some mid → IsGood mid
  take_good zero field foot mid g e = absurd (none_some mid e)
  take_good (suc n) field foot mid g e =
      let c : Cell = record { object = suc n; field = field } in
      let s = guard_some (is_some (cell_value heap c) && (owns owned c && not (owns foot c))) (foot ++ c ∷ []) mid e in
      let t = and_is (is_some (cell_value heap c)) (owns owned c && not (owns foot c)) s.0 in
      let u = and_is (owns owned c) (not (owns foot c)) t.1 in
      subst IsGood s.1 (good_end foot c g u.0 t.0 (not_is (owns foot c) u.1))

  abbrev Keeps : (Cells → Option Cells) → Type 0
  Keeps f = (foot mid : Cells) → IsGood foot → f foot ≡ Some mid → IsGood mid

  walk_good : (u : Unroll) → ((p : ℕ) (xs : List ℕ) → Keeps (u p xs)) → (words : List ℕ) (cs : Conjuncts) → Keeps (walk u heap owned words cs)
  walk_good u h words no_parts foot mid g e = subst IsGood (some_is foot mid e) g
  walk_good u h words (value_part e cs) foot mid g q =
      let b = bind_some (value_in heap owned words e) _ mid q in
      pick_case (λ m. m ≡ Some mid → IsGood mid) b.0 None (walk u heap owned words cs foot) (λ n. absurd (none_some mid n)) (walk_good u h words cs foot mid g) b.2
  walk_good u h words (acc_part e f cs) foot mid g q =
      let b = bind_some (value_in heap owned words e) _ mid q in
      let c = bind_some (take_cell heap owned b.0 f foot) _ mid b.2 in
      walk_good u h words cs c.0 mid (take_good b.0 f foot c.0 g c.1) c.2
  walk_good u h words (instance_part at p args cs) foot mid g q =
      let b = bind_some (values_in heap owned words args) _ mid q in
      let c = bind_some (u p b.0 foot) _ mid b.2 in
      walk_good u h words cs c.0 mid (h p b.0 foot c.0 g c.1) c.2
  walk_good u h words (choice_part at e us bs cs) foot mid g q =
      let b = bind_some (value_in heap owned words e) _ mid q in
      let c = bind_some (pick b.0 (walk u heap owned words bs foot) (walk u heap owned words us foot)) _ mid b.2 in
      walk_good u h words cs c.0 mid (pick_case (λ m. m ≡ Some c.0 → IsGood c.0) b.0 (walk u heap owned words bs foot) (walk u heap owned words us foot) (walk_good u h words bs foot c.0 g) (walk_good u h words us foot c.0 g) c.1) c.2

  body_good : (body : Option Predicate) (f : Conjuncts → Option Cells) (mid : Cells) → ((cs : Conjuncts) → f cs ≡ Some mid → IsGood mid) → in_body body f ≡ Some mid → IsGood mid
  body_good None f mid h e = absurd (none_some mid e)
  body_good (Some p) f mid h e = h p.body e

  unroll_good : (k : ℕ) (ps : List Predicate) (p : ℕ) (xs : List ℕ) → Keeps (unroll_at k ps heap owned p xs)
  unroll_good zero ps p xs foot mid g e = absurd (none_some mid e)
  unroll_good (suc k) ps p xs foot mid g e = body_good (slice_get ps p) _ mid (λ cs. walk_good (unroll_at k ps heap owned) (unroll_good k ps) xs cs foot mid g) e

  nothing : (c : Cell) (G : Type 0) → IsTrue (owns [] c) → G
  nothing c G t = absurd (true_false false t refl)

pub footprint_owned : footprint_law
footprint_owned ps formula words heap owned foot e =
    walk_good heap owned (unroll_at (depth ps heap) ps heap owned) (unroll_good heap owned (depth ps heap) ps) words formula.parts [] foot (λ c t. nothing heap owned c _ t, λ c t. nothing heap owned c _ t, tt) e
