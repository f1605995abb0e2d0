-- In a guarded program a greater depth changes nothing, so an instance is its body.
use Rattle.std.proofs.Common.{◌≡◌, ℕ, zero, suc, ◌+◌, ◌-◌, ◌*◌, ◌<◌, ◌≤◌, ◌⊎◌, inl, inr, Bool, true, false, not, ◌&&◌, List, [], ◌∷◌, ◌++◌, length, Option, Some, None, refl, sym, ap, subst, ◌∙◌, IsTrue, arith}
use Rattle.std.proofs.lemmas.Bool.{ltb-true}
use Rattle.std.proofs.lemmas.Nat.{mul-add-lt}
use Rattle.std.proofs.Math.Nat.{mul-le-mul_right, mul_comm}
use Rattle.std.specs.Prelude.{slice_get, is_some, nat_lt, ◌||◌}
use Rattle.gc0_base.specs.declared.place.Place.{Place}
use Rattle.gc0_tree.specs.Sites.{token_if}
use Rattle.gc0_tree.specs.Tree.{Conjuncts, no_parts, value_part, acc_part, instance_part, choice_part, Predicate}
use Rattle.c0_meaning.specs.Operators.{pick}
use Rattle.c0_meaning.specs.Heaps.{Cell, Cells, Heap, same_cell, owns, cells_of, cells_in, cell_value, field_of}
use Rattle.c0_meaning.specs.Holds.{and_then, value_in, values_in, Unroll, take_cell, walk, in_body, unroll_at, depth}
use Rattle.c0_meaning.specs.Framing.{parts_unguarded, predicates_unguarded}
use Rattle.footprint_laws.specs.FootprintLaws.{unroll_law}
use Rattle.footprint_laws.proofs.Owned.{owns_end, same_is, same_refl, and_is, not_is, bind_some, pick_case, guard_some, some_is, none_some}

-- ---- the cells of a heap, with its objects counted from a number
abbrev heap_cells : ℕ → Heap → Cells
heap_cells base [] = []
heap_cells base (o ∷ os) = cells_of base (length o.fields) ++ heap_cells (suc base) os

or_first : (a b : Bool) → IsTrue a → IsTrue (a || b)
or_first true b h = refl
or_first false b h = cc

or_later : (a b : Bool) → IsTrue b → IsTrue (a || b)
or_later true b h = refl
or_later false b h = h

or_on : (a b c : Bool) → (IsTrue b → IsTrue c) → IsTrue (a || b) → IsTrue (a || c)
or_on true b c f h = refl
or_on false b c f h = f h

owns_left : (cs ds : Cells) (c : Cell) → IsTrue (owns cs c) → IsTrue (owns (cs ++ ds) c)
owns_left [] ds c h = cc
owns_left (d ∷ cs) ds c h = or_on (same_cell d c) (owns cs c) (owns (cs ++ ds) c) (owns_left cs ds c) h

owns_right : (cs ds : Cells) (c : Cell) → IsTrue (owns ds c) → IsTrue (owns (cs ++ ds) c)
owns_right [] ds c h = h
owns_right (d ∷ cs) ds c h = or_later (same_cell d c) (owns (cs ++ ds) c) (owns_right cs ds c h)

up_one : (f n : ℕ) → (n ≡ f) ⊎ (f < n) → (suc n ≡ suc f) ⊎ (suc f < suc n)
up_one f n (inl e) = inl (ap suc e)
up_one f n (inr l) = inr (omega arith)

last_or_below : (f n : ℕ) → f < suc n → (n ≡ f) ⊎ (f < n)
last_or_below zero zero l = inl refl
last_or_below zero (suc n) l = inr (omega arith)
last_or_below (suc f) zero l = absurd (omega arith)
last_or_below (suc f) (suc n) l = up_one f n (last_or_below f n (omega arith))

abbrev cell_at : ℕ → ℕ → Cell
cell_at k f = record { object = k; field = f }

field_by : (k n f : ℕ) → (n ≡ f) ⊎ (f < n) → (f < n → IsTrue (owns (cells_of k n) (cell_at k f))) → IsTrue (owns (cells_of k (suc n)) (cell_at k f))
field_by k n f (inl e) h = or_first (same_cell (cell_at k n) (cell_at k f)) _ (subst (λ x. IsTrue (same_cell (cell_at k n) (cell_at k x))) e (same_refl (cell_at k n)))
field_by k n f (inr l) h = or_later (same_cell (cell_at k n) (cell_at k f)) _ (h l)

field_cell : (k n f : ℕ) → f < n → IsTrue (owns (cells_of k n) (cell_at k f))
field_cell k zero f l = absurd (omega arith)
field_cell k (suc n) f l = field_by k n f (last_or_below f n l) (field_cell k n f)

has_in : (xs : List ℕ) (i : ℕ) → IsTrue (is_some (slice_get xs i)) → i < length xs
has_in [] i h = cc
has_in (x ∷ xs) zero h = omega arith
has_in (x ∷ xs) (suc i) h = omega (arith, has_in xs i h)

-- a cell with a value is among the cells of the heap
valued_in : (heap : Heap) (base n f k : ℕ) → k ≡ base + n → IsTrue (is_some (field_of (slice_get heap n) f)) → IsTrue (owns (heap_cells base heap) (cell_at k f))
valued_in [] base n f k e h = cc
valued_in (o ∷ os) base zero f k e h =
    let same : base ≡ k = omega arith in
    subst (λ x. IsTrue (owns (heap_cells base (o ∷ os)) (cell_at x f))) same
    (owns_left (cells_of base (length o.fields)) (heap_cells (suc base) os) (cell_at base f) (field_cell base (length o.fields) f (has_in o.fields f h)))
valued_in (o ∷ os) base (suc n) f k e h =
    owns_right (cells_of base (length o.fields)) (heap_cells (suc base) os) (cell_at k f) (valued_in os (suc base) n f k (omega arith) h)

-- ---- guards, as products
abbrev Guards : ℕ → Bool → Conjuncts → Type 0
Guards p seen no_parts = Unit {0}
Guards p seen (value_part e rest) = Guards p seen rest
Guards p seen (acc_part e f rest) = Guards p true rest
Guards p seen (instance_part at q args rest) = (IsTrue seen ⊎ (q < p)) × Guards p seen rest
Guards p seen (choice_part at c these those rest) = Guards p seen these × Guards p seen those × Guards p seen rest

left_none : (a b : List Place) → a ++ b ≡ [] → a ≡ []
left_none [] b e = refl
left_none (v ∷ a) b e = let n : ⊥ = cc in absurd n

right_none : (a b : List Place) → a ++ b ≡ [] → b ≡ []
right_none [] b e = e
right_none (v ∷ a) b e = let n : ⊥ = cc in absurd n

kept : (b : Bool) (at : Place) → token_if (not b) at ≡ [] → IsTrue b
kept true at e = refl
kept false at e = let n : ⊥ = cc in absurd n

by_number : (seen : Bool) (q p : ℕ) → IsTrue (seen || nat_lt q p) → IsTrue seen ⊎ (q < p)
by_number true q p h = inl refl
by_number false q p h = inr (ltb-true q p h)

guards_of : (p : ℕ) (seen : Bool) (cs : Conjuncts) → parts_unguarded p seen cs ≡ [] → Guards p seen cs
guards_of p seen no_parts e = tt
guards_of p seen (value_part v rest) e = guards_of p seen rest e
guards_of p seen (acc_part v f rest) e = guards_of p true rest e
guards_of p seen (instance_part at q args rest) e = (
  by_number seen q p (kept (seen || nat_lt q p) at (left_none (token_if (not (seen || nat_lt q p)) at) (parts_unguarded p seen rest) e)),
  guards_of p seen rest (right_none (token_if (not (seen || nat_lt q p)) at) (parts_unguarded p seen rest) e),
)
guards_of p seen (choice_part at c these those rest) e =
    let more = right_none (parts_unguarded p seen these) (parts_unguarded p seen those ++ parts_unguarded p seen rest) e in (
      guards_of p seen these (left_none (parts_unguarded p seen these) (parts_unguarded p seen those ++ parts_unguarded p seen rest) e),
      guards_of p seen those (left_none (parts_unguarded p seen those) (parts_unguarded p seen rest) more),
      guards_of p seen rest (right_none (parts_unguarded p seen those) (parts_unguarded p seen rest) more),
    )

guards_at : (ps : List Predicate) (own p k : ℕ) (d : Predicate) → k ≡ own + p → predicates_unguarded own ps ≡ [] → slice_get ps p ≡ Some d → Guards k false d.body
guards_at [] own p k d at h e = absurd (none_some d e)
guards_at (c ∷ ps) own zero k d at h e =
    let same : own ≡ k = omega arith in
    subst (λ x. Guards x false d.body) same
    (subst (λ x. Guards own false x.body) (some_is c d e) (guards_of own false c.body (left_none (parts_unguarded own false c.body) (predicates_unguarded (suc own) ps) h)))
guards_at (c ∷ ps) own (suc p) k d at h e =
    guards_at ps (suc own) p k d (omega arith) (right_none (parts_unguarded own false c.body) (predicates_unguarded (suc own) ps) h) e

-- ---- numbers of predicates
out_up : (A : Type 0) (i n : ℕ) → A ⊎ (i < n) → A ⊎ (suc i < suc n)
out_up A i n (inl a) = inl a
out_up A i n (inr l) = inr (omega arith)

out_or_in : (ps : List Predicate) (i : ℕ) → (slice_get ps i ≡ None) ⊎ (i < length ps)
out_or_in [] i = inl refl
out_or_in (p ∷ ps) zero = inr (omega arith)
out_or_in (p ∷ ps) (suc i) = out_up _ i (length ps) (out_or_in ps i)

-- ---- how many of the cells are not in the footprint
abbrev one_if_not : Bool → ℕ
one_if_not true = 0
one_if_not false = 1

abbrev free : Cells → Cells → ℕ
free [] foot = 0
free (c ∷ cs) foot = one_if_not (owns foot c) + free cs foot

less_out : (a b : Bool) → one_if_not (a || b) ≤ one_if_not a
less_out true b = omega arith
less_out false true = omega arith
less_out false false = omega arith

free_le : (cs foot : Cells) (c : Cell) → free cs (foot ++ c ∷ []) ≤ free cs foot
free_le [] foot c = omega arith
free_le (d ∷ cs) foot c = rw (owns_end foot c d) (omega (arith, less_out (owns foot d) (same_cell c d), free_le cs foot c))

or_is : (a b : Bool) → IsTrue (a || b) → IsTrue a ⊎ IsTrue b
or_is true b h = inl refl
or_is false b h = inr h

or_true : (a b : Bool) → a ≡ false → b ≡ true → one_if_not (a || b) ≡ 0
or_true a b e f = rw (e, f) refl

free_falls_here : (cs foot : Cells) (c : Cell) → owns foot c ≡ false → free (c ∷ cs) (foot ++ c ∷ []) < free (c ∷ cs) foot
free_falls_here cs foot c out =
    let new : one_if_not (owns (foot ++ c ∷ []) c) ≡ 0 = ap one_if_not (owns_end foot c c) ∙ or_true (owns foot c) (same_cell c c) out (same_refl c) in
    let old : one_if_not (owns foot c) ≡ 1 = ap one_if_not out in
    omega (arith, new, old, free_le cs foot c)

free_falls_by : (cs foot : Cells) (c d : Cell) → IsTrue (same_cell d c) ⊎ IsTrue (owns cs c) → owns foot c ≡ false →
    (IsTrue (owns cs c) → free cs (foot ++ c ∷ []) < free cs foot) → free (d ∷ cs) (foot ++ c ∷ []) < free (d ∷ cs) foot
free_falls_by cs foot c d (inl same) out ih = subst (λ x. free (x ∷ cs) (foot ++ c ∷ []) < free (x ∷ cs) foot) (sym (same_is d c same)) (free_falls_here cs foot c out)
free_falls_by cs foot c d (inr later) out ih = rw (owns_end foot c d) (omega (arith, less_out (owns foot d) (same_cell c d), ih later))

free_falls : (cs foot : Cells) (c : Cell) → IsTrue (owns cs c) → owns foot c ≡ false → free cs (foot ++ c ∷ []) < free cs foot
free_falls [] foot c h out = cc
free_falls (d ∷ cs) foot c h out = free_falls_by cs foot c d (or_is (same_cell d c) (owns cs c) h) out (λ later. free_falls cs foot c later out)

most_one : (b : Bool) → one_if_not b ≤ 1
most_one true = omega arith
most_one false = omega arith

most_of : (k n : ℕ) (ds foot : Cells) → free (cells_of k n ++ ds) foot ≤ n + free ds foot
most_of k zero ds foot = omega arith
most_of k (suc n) ds foot = omega (arith, most_of k n ds foot, most_one (owns foot (cell_at k n)))

free_most : (base : ℕ) (heap : Heap) (foot : Cells) → free (heap_cells base heap) foot ≤ cells_in heap
free_most base [] foot = omega arith
free_most base (o ∷ os) foot = omega (arith, most_of base (length o.fields) (heap_cells (suc base) os) foot, free_most (suc base) os foot)

bind_same : {A B : Type 0} (m m' : Option A) (f f' : A → Option B) → m ≡ m' → ((x : A) → m ≡ Some x → f x ≡ f' x) → and_then m f ≡ and_then m' f'
bind_same None m' f f' e h = ap (λ m. and_then m f') e
bind_same (Some x) m' f f' e h = h x refl ∙ ap (λ m. and_then m f') e

pick_same : {A : Type 0} (x : ℕ) (a a' b b' : A) → a ≡ a' → b ≡ b' → pick x a b ≡ pick x a' b'
pick_same zero a a' b b' e f = e
pick_same (suc n) a a' b b' e f = f

false_true : false ≡ true → ⊥
false_true e = cc

module _ (ps : List Predicate) (heap : Heap) (owned : Cells) where
  abbrev cells : Cells
  cells = heap_cells 1 heap

  taken : (b field : ℕ) (foot foot' : Cells) → take_cell heap owned b field foot ≡ Some foot' → free cells foot' < free cells foot
  taken zero field foot foot' e = cc
  taken (suc n) field foot foot' e =
      let c : Cell = record { object = suc n; field = field } in
      let g = guard_some (is_some (cell_value heap c) && (owns owned c && not (owns foot c))) (foot ++ c ∷ []) foot' e in
      let t = and_is (is_some (cell_value heap c)) (owns owned c && not (owns foot c)) g.0 in
      let back : suc n - 1 ≡ n = omega arith in
      let valued : IsTrue (is_some (field_of (slice_get heap n) field)) = subst (λ k. IsTrue (is_some (field_of (slice_get heap k) field))) back t.0 in
      let u = and_is (owns owned c) (not (owns foot c)) t.1 in
      subst (λ f. free cells f < free cells foot) g.1 (free_falls cells foot c (valued_in heap 1 n field (suc n) (omega arith) valued) (not_is (owns foot c) u.1))

  -- nothing that an instance does makes a cell free
  abbrev Grows : (Cells → Option Cells) → Type 0
  Grows f = (foot foot' : Cells) → f foot ≡ Some foot' → free cells foot' ≤ free cells foot

  then_grows : (m : Option Cells) (foot : Cells) (f : Cells → Option Cells) (foot' : Cells) → ((mid : Cells) → m ≡ Some mid → free cells mid ≤ free cells foot) → Grows f → and_then m f ≡ Some foot' → free cells foot' ≤ free cells foot
  then_grows m foot f foot' h g e =
      let b = bind_some m f foot' e in
      omega (arith, h b.0 b.1, g b.0 foot' b.2)

  walk_grows : (u : Unroll) → ((q : ℕ) (xs : List ℕ) → Grows (u q xs)) → (words : List ℕ) (cs : Conjuncts) → Grows (walk u heap owned words cs)
  walk_grows u h words no_parts foot foot' w = let e = some_is foot foot' w in rw e (omega arith)
  walk_grows u h words (value_part e rest) foot foot' w =
      let b = bind_some (value_in heap owned words e) _ foot' w in
      pick_case (λ m. m ≡ Some foot' → free cells foot' ≤ free cells foot) b.0 None (walk u heap owned words rest foot) (λ n. absurd (none_some foot' n)) (walk_grows u h words rest foot foot') b.2
  walk_grows u h words (acc_part e field rest) foot foot' w =
      let b = bind_some (value_in heap owned words e) _ foot' w in
      then_grows (take_cell heap owned b.0 field foot) foot (walk u heap owned words rest) foot' (λ mid t. let f = taken b.0 field foot mid t in omega arith) (walk_grows u h words rest) b.2
  walk_grows u h words (instance_part at q args rest) foot foot' w =
      let b = bind_some (values_in heap owned words args) _ foot' w in
      then_grows (u q b.0 foot) foot (walk u heap owned words rest) foot' (h q b.0 foot) (walk_grows u h words rest) b.2
  walk_grows u h words (choice_part at c these those rest) foot foot' w =
      let b = bind_some (value_in heap owned words c) _ foot' w in
      then_grows (pick b.0 (walk u heap owned words those foot) (walk u heap owned words these foot)) foot (walk u heap owned words rest) foot'
      (pick_case (λ m. (mid : Cells) → m ≡ Some mid → free cells mid ≤ free cells foot) b.0 (walk u heap owned words those foot) (walk u heap owned words these foot) (walk_grows u h words those foot) (walk_grows u h words these foot))
      (walk_grows u h words rest) b.2

  body_grows : (body : Option Predicate) (f : Conjuncts → Option Cells) (foot foot' : Cells) → ((cs : Conjuncts) → f cs ≡ Some foot' → free cells foot' ≤ free cells foot) → in_body body f ≡ Some foot' → free cells foot' ≤ free cells foot
  body_grows None f foot foot' h e = absurd (none_some foot' e)
  body_grows (Some d) f foot foot' h e = h d.body e

  unroll_grows : (k q : ℕ) (xs : List ℕ) → Grows (unroll_at k ps heap owned q xs)
  unroll_grows zero q xs foot foot' e = absurd (none_some foot' e)
  unroll_grows (suc k) q xs foot foot' e = body_grows (slice_get ps q) _ foot foot' (λ cs. walk_grows (unroll_at k ps heap owned) (unroll_grows k) xs cs foot foot') e

  -- what has been passed to the left: the footprint has no more free cells than the first, and fewer past an `acc`
  abbrev Passed : Bool → ℕ → Cells → Type 0
  Passed seen most foot = (free cells foot ≤ most) × (IsTrue seen → free cells foot < most)

  abbrev Alike : Unroll → Unroll → ℕ → ℕ → Type 0
  Alike u u' most p = (q : ℕ) (xs : List ℕ) (foot : Cells) → ((free cells foot < most) ⊎ ((free cells foot ≤ most) × (q < p))) → u q xs foot ≡ u' q xs foot

  passed_on : (seen : Bool) (most : ℕ) (foot mid : Cells) → Passed seen most foot → free cells mid ≤ free cells foot → Passed seen most mid
  passed_on seen most foot mid h le = (let a = h.0 in omega arith, λ t. let a = h.1 t in omega arith)

  where_it_is : (seen : Bool) (most p q : ℕ) (foot : Cells) → Passed seen most foot → IsTrue seen ⊎ (q < p) → (free cells foot < most) ⊎ ((free cells foot ≤ most) × (q < p))
  where_it_is seen most p q foot h (inl t) = inl (h.1 t)
  where_it_is seen most p q foot h (inr lt) = inr (h.0, lt)

  walk_same : (u u' : Unroll) (most p : ℕ) → ((q : ℕ) (xs : List ℕ) → Grows (u q xs)) → Alike u u' most p →
      (words : List ℕ) (cs : Conjuncts) (seen : Bool) (foot : Cells) → Guards p seen cs → Passed seen most foot →
      walk u heap owned words cs foot ≡ walk u' heap owned words cs foot
  walk_same u u' most p grows alike words no_parts seen foot g h = refl
  walk_same u u' most p grows alike words (value_part e rest) seen foot g h =
      bind_same (value_in heap owned words e) (value_in heap owned words e) _ _ refl (λ x m. pick_same x _ _ _ _ refl (walk_same u u' most p grows alike words rest seen foot g h))
  walk_same u u' most p grows alike words (acc_part e field rest) seen foot g h =
      bind_same (value_in heap owned words e) (value_in heap owned words e) _ _ refl (λ b m.
      bind_same (take_cell heap owned b field foot) (take_cell heap owned b field foot) _ _ refl (λ mid t.
      let f = taken b field foot mid t in
      let a = h.0 in
      walk_same u u' most p grows alike words rest true mid g (omega arith, λ _. omega arith)))
  walk_same u u' most p grows alike words (instance_part at q args rest) seen foot g h =
      bind_same (values_in heap owned words args) (values_in heap owned words args) _ _ refl (λ xs m.
      bind_same (u q xs foot) (u' q xs foot) _ _ (alike q xs foot (where_it_is seen most p q foot h g.0)) (λ mid t.
      walk_same u u' most p grows alike words rest seen mid g.1 (passed_on seen most foot mid h (grows q xs foot mid t))))
  walk_same u u' most p grows alike words (choice_part at c these those rest) seen foot g h =
      bind_same (value_in heap owned words c) (value_in heap owned words c) _ _ refl (λ x m.
      bind_same (pick x (walk u heap owned words those foot) (walk u heap owned words these foot)) (pick x (walk u' heap owned words those foot) (walk u' heap owned words these foot)) _ _
      (pick_same x _ _ _ _ (walk_same u u' most p grows alike words those seen foot g.1 h) (walk_same u u' most p grows alike words these seen foot g.0 h)) (λ mid t.
      walk_same u u' most p grows alike words rest seen mid g.2 (passed_on seen most foot mid h
      (pick_case (λ m. m ≡ Some mid → free cells mid ≤ free cells foot) x (walk u heap owned words those foot) (walk u heap owned words these foot) (walk_grows u grows words those foot mid) (walk_grows u grows words these foot mid) t))))

  body_same : (body : Option Predicate) (f f' : Conjuncts → Option Cells) → ((d : Predicate) → body ≡ Some d → f d.body ≡ f' d.body) → in_body body f ≡ in_body body f'
  body_same None f f' h = refl
  body_same (Some d) f f' h = h d refl

  -- the place of an instance in the order in which instances fall
  abbrev rank : ℕ → Cells → ℕ
  rank p foot = free cells foot * (length ps + 1) + p

  rank_falls : (p q : ℕ) (foot mid : Cells) → q < length ps → ((free cells mid < free cells foot) ⊎ ((free cells mid ≤ free cells foot) × (q < p))) → rank q mid < rank p foot
  rank_falls p q foot mid lt (inl fewer) =
      omega (arith, mul-add-lt (free cells mid) (length ps + 1) q (free cells foot) fewer (omega arith), mul_comm (length ps + 1) (free cells foot))
  rank_falls p q foot mid lt (inr le) = let a = le.0 in let b = le.1 in omega (arith, mul-le-mul_right (length ps + 1) a)

  -- past the last predicate there is nothing at any depth
  past_none : (k p : ℕ) (xs : List ℕ) (foot : Cells) → slice_get ps p ≡ None → unroll_at k ps heap owned p xs foot ≡ None
  past_none zero p xs foot e = refl
  past_none (suc k) p xs foot e = ap (λ b. in_body b (λ cs. walk (unroll_at k ps heap owned) heap owned xs cs foot)) e

  by_range : (k p : ℕ) (xs : List ℕ) (foot : Cells) → (slice_get ps p ≡ None) ⊎ (p < length ps) →
      (p < length ps → unroll_at k ps heap owned p xs foot ≡ unroll_at (suc k) ps heap owned p xs foot) → unroll_at k ps heap owned p xs foot ≡ unroll_at (suc k) ps heap owned p xs foot
  by_range k p xs foot (inl e) h = past_none k p xs foot e ∙ sym (past_none (suc k) p xs foot e)
  by_range k p xs foot (inr l) h = h l

  stable : predicates_unguarded 0 ps ≡ [] → (k p : ℕ) (xs : List ℕ) (foot : Cells) → rank p foot < k → unroll_at k ps heap owned p xs foot ≡ unroll_at (suc k) ps heap owned p xs foot
  stable guarded zero p xs foot h = absurd (omega arith)
  stable guarded (suc k) p xs foot h =
      body_same (slice_get ps p) _ _ (λ d is.
      walk_same (unroll_at k ps heap owned) (unroll_at (suc k) ps heap owned) (free cells foot) p (unroll_grows k)
      (λ q ys mid w. by_range k q ys mid (out_or_in ps q) (λ lt. stable guarded k q ys mid (let r = rank_falls p q foot mid lt w in omega arith)))
      xs d.body false foot (guards_at ps 0 p p d (omega arith) guarded is) (omega arith, λ t. absurd (false_true t)))

pub unrolled : unroll_law
unrolled ps heap owned p args foot guarded =
    by_range ps heap owned (depth ps heap) p args foot (out_or_in ps p) (λ in_range.
    let n : ℕ = length ps + 1 in
    let below : free (heap_cells 1 heap) foot < cells_in heap + 1 = omega (arith, free_most 1 heap foot) in
    stable ps heap owned guarded (depth ps heap) p args foot
    (omega (arith, mul-add-lt (free (heap_cells 1 heap) foot) n p (cells_in heap + 1) below (omega arith), mul_comm n (cells_in heap + 1))))
