-- Cells whose words lie side by side: those of an object, and those of all objects from one on.
use Rattle.std.proofs.Common.{◌≡◌, ℕ, zero, suc, ◌+◌, ◌-◌, ◌<◌, ◌≤◌, Bool, true, false, ◌&&◌, ◌||◌, cond, eqb, ltb, List, [], ◌∷◌, length, get_or, drop, Option, Some, None, refl, sym, ap, subst, ◌∙◌, arith, inl, inr, ◌⊎◌}
use Rattle.std.specs.List.{slice_get}
use Rattle.std.specs.Option.{is_some, option_map}
use Rattle.std.proofs.lemmas.Bool.{and_parts, and_from, and_left, and_right, eqb-true, eq-eqb, ne_eqb, ltb-true, lt-ltb, le-ltb, cases_order, cases_lt, or_cases, or_left, or_right}
use Rattle.std.proofs.lemmas.Option.{none-some, same_Some, slice_get_past}
use Rattle.gc0_base.specs.declared.word.Word.{Word}
use Rattle.c0_meaning.specs.Heaps.{Object, Cell, Cells, same_cell, owns, cells_of, field_of, cell_value}
use Rattle.owned_heap.specs.declared.heap.Stretch.{Stretch}
use Rattle.owned_heap.specs.declared.heap.Heap.{Heap}
use Rattle.owned_heap.specs.Views.{heap_view}
use Rattle.owned_heap.specs.LevelSets.{cells_from, made_since, made_law}
use Rattle.owned_heap.specs.Stands.{stretch_of, start_of, offset_in, offset_of, stamp_at}
use Rattle.owned_heap.proofs.Stretches.{Lies, lies, lies_so, lies_within, earlier}
use Rattle.owned_heap.proofs.Viewed.{number, get_dropped, value_there, value_nowhere}
use Rattle.owned_heap.proofs.Stamped.{owns_join, AreStampedAnew}
use Rattle.owned_heap.proofs.Stamping.{AreInHeap, cells_anew}

-- the cells have the places from one on up to another
pub record Covers (h : Heap) (cells : Cells) (from to : ℕ) : Type 0 where
  pub outside : AreInHeap h cells
  pub inside : (c : Cell) (place : ℕ) → offset_of h c ≡ Some place
      → ((owns cells c ≡ true) × (from ≤ place) × (place < to)) ⊎ ((owns cells c ≡ false) × ((place < from) ⊎ (to ≤ place)))

pub words_anew :
    (h : Heap) (cells : Cells) (clock from to : ℕ) (old covered stamps : List ℕ) → Covers h cells from to → ((k : ℕ) → get_or covered k 0 ≡ get_or old k 0)
    → ((k : ℕ) → from ≤ k → k < to → get_or stamps k 0 ≡ clock) → ((k : ℕ) → (k < from) ⊎ (to ≤ k) → get_or stamps k 0 ≡ get_or covered k 0)
    → AreStampedAnew (λ c. stamp_at old (offset_of h c)) (λ c. stamp_at stamps (offset_of h c)) cells clock
words_anew h cells clock from to old covered stamps covers same inside outside =
    cells_anew h cells clock old covered stamps same covers.outside
    (λ c place e.
    elim (covers.inside c place e) [
      | inl it ↦ inside place it.1 it.2 ∙ ap (λ b. cond b clock (get_or covered place 0)) (sym it.0)
      | inr it ↦ outside place it.1 ∙ ap (λ b. cond b clock (get_or covered place 0)) (sym it.0)
    ])

-- ---- the cells of an object
or_and : (a b c : Bool) → ((a && b) || (a && c)) ≡ (a && (b || c))
or_and true b c = refl
or_and false b c = refl

less_or_last : (f n : ℕ) → (eqb n f || ltb f n) ≡ ltb f (suc n)
less_or_last f n =
    elim (cases_order f n) [
      | inl e ↦ or_left (eqb n f) (ltb f n) (eq-eqb n f (sym e)) ∙ sym (lt-ltb f (suc n) (omega arith))
      | inr (inl less) ↦ or_right (eqb n f) (ltb f n) (lt-ltb f n less) ∙ sym (lt-ltb f (suc n) (omega arith))
      | inr (inr more) ↦ ap (λ b. b || ltb f n) (ne_eqb n f (λ e. omega arith)) ∙ le-ltb f n (omega arith) ∙ sym (le-ltb f (suc n) (omega arith))
    ]

pub owns_object : (object n : ℕ) (c : Cell) → owns (cells_of object n) c ≡ (eqb object c.object && ltb c.field n)
owns_object object zero c = sym (no_field (eqb object c.object)) where
  no_field : (b : Bool) → (b && ltb c.field 0) ≡ false
  no_field true = le-ltb c.field 0 (omega arith)
  no_field false = refl
owns_object object (suc n) c =
    ap (λ b. same_cell (record { object = object; field = n }) c || b) (owns_object object n c)
    ∙ or_and (eqb object c.object) (eqb n c.field) (ltb c.field n)
    ∙ ap (λ b. eqb object c.object && b) (less_or_last c.field n)

not_so : (b : Bool) → (b ≡ true → ⊥) → b ≡ false
not_so true h = absurd (h refl)
not_so false h = refl

module _ (h : Heap) (k : ℕ) (s : Stretch) (there : slice_get h.objects.items k ≡ Some s) where
  object_outside : AreInHeap h (cells_of (suc k) s.fields)
  object_outside c none =
      owns_object (suc k) s.fields c
      ∙ not_so (eqb (suc k) c.object && ltb c.field s.fields)
      (λ e.
      let both = and_parts (eqb (suc k) c.object) (ltb c.field s.fields) e in
      let at : offset_in (stretch_of h c.object) c.field ≡ Some (s.start + c.field) =
      ap (λ n. offset_in (stretch_of h n) c.field) (sym (eqb-true (suc k) c.object both.0)) ∙ lies_so h k c.field s there (ltb-true c.field s.fields both.1) in
      none-some (s.start + c.field) (sym none ∙ at))

  other_object : (c : Cell) → (suc k ≡ c.object → ⊥) → owns (cells_of (suc k) s.fields) c ≡ false
  other_object c differs = owns_object (suc k) s.fields c ∙ and_left (eqb (suc k) c.object) (ltb c.field s.fields) (ne_eqb (suc k) c.object differs)

  object_inside : (c : Cell) (place : ℕ) → Lies h c.object c.field place
      → ((owns (cells_of (suc k) s.fields) c ≡ true) × (s.start ≤ place) × (place < s.start + s.fields)) ⊎ ((owns (cells_of (suc k) s.fields) c ≡ false) × ((place < s.start) ⊎ (s.start + s.fields ≤ place)))
  object_inside c place l =
      elim (cases_order l.index k) [
        | inl e ↦
            let same : l.stretch ≡ s = same_Some l.stretch s (sym l.there ∙ ap (slice_get h.objects.items) e ∙ there) in
            let at : s.start + c.field ≡ place = ap (λ (t : Stretch). t.start + c.field) (sym same) ∙ l.is in
            let less : c.field < s.fields = subst (λ (t : Stretch). c.field < t.fields) same l.less in
            inl (
              owns_object (suc k) s.fields c ∙ and_from (eqb (suc k) c.object) (ltb c.field s.fields) (eq-eqb (suc k) c.object (omega (arith, l.number))) (lt-ltb c.field s.fields less),
              omega arith,
              omega arith,
            )
        | inr (inl before) ↦
            let ends = earlier 0 h.objects.items (length h.words.items) l.index k l.stretch s h.laid before l.there there in
            inr (other_object c (λ e. omega (arith, l.number)), inl (omega (arith, l.is, l.less)))
        | inr (inr behind) ↦
            let ends = earlier 0 h.objects.items (length h.words.items) k l.index s l.stretch h.laid behind there l.there in
            inr (other_object c (λ e. omega (arith, l.number)), inr (omega (arith, l.is)))
      ]

pub covers_object : (h : Heap) (object : ℕ) (s : Stretch) → Some s ≡ stretch_of h object → Covers h (cells_of object s.fields) s.start (s.start + s.fields)
covers_object h zero s e = absurd (none-some s (sym e))
covers_object h (suc k) s e = record {
  outside = object_outside h k s (sym e);
  inside = λ c place at. object_inside h k s (sym e) c place (lies h c.object c.field place at);
}

-- ---- the cells of all objects from one on
pub record IsMade (base : ℕ) (os : List Object) (c : Cell) : Type 0 where
  pub index : ℕ
  pub made : Object
  pub there : slice_get os index ≡ Some made
  pub counted : base + index ≡ c.object
  pub less : c.field < length made.fields

pub made_from : (base : ℕ) (os : List Object) (c : Cell) → owns (cells_from base os) c ≡ true → IsMade base os c
made_from base [] c e = cc
made_from base (o ∷ os) c e =
    let n = length o.fields in
    elim (or_cases (owns (cells_of base n) c) (owns (cells_from (suc base) os) c) (sym (owns_join (cells_of base n) (cells_from (suc base) os) c) ∙ e)) [
      | inl own ↦
          let both = and_parts (eqb base c.object) (ltb c.field n) (sym (owns_object base n c) ∙ own) in
          let is = eqb-true base c.object both.0 in
          record { index = 0; made = o; there = refl; counted = omega arith; less = ltb-true c.field n both.1 }
      | inr later ↦
          let rest = made_from (suc base) os c later in
          record { index = suc rest.index; made = rest.made; there = rest.there; counted = omega (arith, rest.counted); less = rest.less }
    ]

pub made_there : (base : ℕ) (os : List Object) (c : Cell) (k : ℕ) (o : Object) → slice_get os k ≡ Some o → base + k ≡ c.object → c.field < length o.fields → owns (cells_from base os) c ≡ true
made_there base [] c k o e is less = absurd (none-some o e)
made_there base (p ∷ os) c zero o e is less =
    let n = length p.fields in
    let within : c.field < n = subst (λ (q : Object). c.field < length q.fields) (sym (same_Some p o e)) less in
    owns_join (cells_of base n) (cells_from (suc base) os) c
    ∙ or_left (owns (cells_of base n) c) (owns (cells_from (suc base) os) c)
    (owns_object base n c ∙ and_from (eqb base c.object) (ltb c.field n) (eq-eqb base c.object (omega arith)) (lt-ltb c.field n within))
made_there base (p ∷ os) c (suc k) o e is less =
    let n = length p.fields in
    owns_join (cells_of base n) (cells_from (suc base) os) c
    ∙ or_right (owns (cells_of base n) c) (owns (cells_from (suc base) os) c) (made_there (suc base) os c k o e (omega arith) less)

both_so : (a b : Bool) → (a ≡ true → b ≡ true) → (b ≡ true → a ≡ true) → a ≡ b
both_so true b f g = sym (f refl)
both_so false true f g = g refl
both_so false false f g = refl

some_within : (xs : List ℕ) (f : ℕ) → f < length xs → is_some (slice_get xs f) ≡ true
some_within [] f less = absurd (omega arith)
some_within (x ∷ xs) zero less = refl
some_within (x ∷ xs) (suc f) less = some_within xs f (omega arith)

within_some : (xs : List ℕ) (f : ℕ) → is_some (slice_get xs f) ≡ true → f < length xs
within_some [] f e = cc
within_some (x ∷ xs) zero e = omega arith
within_some (x ∷ xs) (suc f) e = let less = within_some xs f e in omega arith

module _ (first : ℕ) (heap : List Object) (c : Cell) where
  made_has : IsMade (suc first) (drop first heap) c → (ltb first c.object && is_some (cell_value heap c)) ≡ true
  made_has m =
      let at : first + m.index ≡ c.object - 1 = omega (arith, m.counted) in
      let there : slice_get heap (c.object - 1) ≡ Some m.made = sym (get_dropped first heap m.index (c.object - 1) at) ∙ m.there in
      and_from (ltb first c.object) (is_some (cell_value heap c)) (lt-ltb first c.object (omega (arith, m.counted)))
      (ap (λ (o : Option Object). is_some (field_of o c.field)) there ∙ some_within m.made.fields c.field m.less)

  has_made : (o : Option Object) → slice_get heap (c.object - 1) ≡ o → first < c.object → is_some (field_of o c.field) ≡ true → owns (made_since first heap) c ≡ true
  has_made None e less some = cc
  has_made (Some o) e less some =
      made_there (suc first) (drop first heap) c (c.object - 1 - first) o (get_dropped first heap (c.object - 1 - first) (c.object - 1) (omega arith) ∙ e) (omega arith) (within_some o.fields c.field some)

pub made_is : made_law
made_is first heap c =
    both_so (owns (made_since first heap) c) (ltb first c.object && is_some (cell_value heap c)) (λ e. made_has first heap c (made_from (suc first) (drop first heap) c e))
    (λ e.
    let both = and_parts (ltb first c.object) (is_some (cell_value heap c)) e in
    has_made first heap c (slice_get heap (c.object - 1)) refl (ltb-true first c.object both.0) both.1)

some_word : (ws : List Word) (k : ℕ) → k < length ws → is_some (option_map number (slice_get ws k)) ≡ true
some_word [] k less = absurd (omega arith)
some_word (w ∷ ws) zero less = refl
some_word (w ∷ ws) (suc k) less = some_word ws k (omega arith)

past_end : (os : List Stretch) (n : ℕ) → slice_get os n ≡ None → length os ≤ n
past_end [] n e = omega arith
past_end (o ∷ os) zero e = absurd (none-some o (sym e))
past_end (o ∷ os) (suc n) e = let rest = past_end os n e in omega arith

module _ (h : Heap) (first : ℕ) where
  made_outside : (c : Cell) → offset_of h c ≡ None → owns (made_since first (heap_view h)) c ≡ false
  made_outside c none =
      made_is first (heap_view h) c
      ∙ elim (cases_lt first c.object) [
        | inl less ↦ and_right (ltb first c.object) (is_some (cell_value (heap_view h) c)) (ap is_some (value_nowhere h c.object c.field (omega arith) none))
        | inr past ↦ and_left (ltb first c.object) (is_some (cell_value (heap_view h) c)) (le-ltb first c.object past)
      ]

  pub valued : (c : Cell) (place : ℕ) → Lies h c.object c.field place → is_some (cell_value (heap_view h) c) ≡ true
  valued c place l =
      ap is_some (value_there h c.object c.field place l) ∙ some_word h.words.items place (lies_within h c.object c.field place l)

  -- an object with the first so many or more before it begins where those end or later
  behind : (at : Option Stretch) (k : ℕ) (s : Stretch) → slice_get h.objects.items first ≡ at → slice_get h.objects.items k ≡ Some s → first ≤ k → start_of at (length h.words.items) ≤ s.start
  behind None k s e there more = absurd (none-some s (sym (slice_get_past h.objects.items k (omega (arith, past_end h.objects.items first e))) ∙ there))
  behind (Some t) k s e there more =
      elim (cases_order first k) [
        | inl same ↦ subst (λ (r : Stretch). t.start ≤ r.start) (same_Some t s (sym e ∙ ap (slice_get h.objects.items) same ∙ there)) (omega arith)
        | inr (inl less) ↦
            let ends = earlier 0 h.objects.items (length h.words.items) first k t s h.laid less e there in
            omega arith
        | inr (inr past) ↦ absurd (omega arith)
      ]

  before : (at : Option Stretch) (c : Cell) (place : ℕ) (l : Lies h c.object c.field place) → slice_get h.objects.items first ≡ at → l.index < first → place < start_of at (length h.words.items)
  before None c place l e less = lies_within h c.object c.field place l
  before (Some t) c place l e less =
      let ends = earlier 0 h.objects.items (length h.words.items) l.index first l.stretch t h.laid less l.there e in
      omega (arith, l.is, l.less)

  pub covers_made : Covers h (made_since first (heap_view h)) (start_of (slice_get h.objects.items first) (length h.words.items)) (length h.words.items)
  covers_made = record {
    outside = made_outside;
    inside = λ c place e.
        let l = lies h c.object c.field place e in
        let at = slice_get h.objects.items first in
        elim (cases_lt first c.object) [
          | inl less ↦
              inl (
                made_is first (heap_view h) c ∙ and_from (ltb first c.object) (is_some (cell_value (heap_view h) c)) (lt-ltb first c.object less) (valued c place l),
                (let begins = behind at l.index l.stretch refl l.there (omega (arith, l.number)) in omega (arith, l.is)),
                lies_within h c.object c.field place l,
              )
          | inr past ↦
              inr (
                made_is first (heap_view h) c ∙ and_left (ltb first c.object) (is_some (cell_value (heap_view h) c)) (le-ltb first c.object past),
                inl (before at c place l refl (omega (arith, l.number))),
              )
        ];
  }
