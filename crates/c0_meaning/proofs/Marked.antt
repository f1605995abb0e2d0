-- What marking one function does, and several walks one after the other.
use Rattle.std.proofs.Common.{◌≡◌, ◌<◌, ◌≤◌, ◌+◌, ℕ, Bool, true, false, ◌||◌, cond, List, length, set, get_or, count_by, inl, inr, refl, sym, ap, ◌∙◌, arith}
use Rattle.std.specs.Prelude.{IsTrue}
use Rattle.std.proofs.lemmas.Bool.{cases_eq}
use Rattle.std.proofs.lemmas.List.{get_or_default, get_or-set_same, get_or-set_other, length-set}
use Rattle.std.proofs.lemmas.List.Sums.{sum_by-set, count_by-le-length}
use Rattle.c0_meaning.specs.declared.plain.Reached.{Reached}
use Rattle.c0_meaning.specs.Marking.{has, Queued, Follows}

or_grouped : (x y z : Bool) → ((x || y) || z) ≡ (x || (y || z))
or_grouped true y z = refl
or_grouped false y z = refl

pub joined_2 : (old mid new a b all : Bool) → mid ≡ (old || a) → new ≡ (mid || b) → all ≡ (a || b) → new ≡ (old || all)
joined_2 old mid new a b all m n e = n ∙ ap (λ x. x || b) m ∙ or_grouped old a b ∙ ap (λ x. old || x) (sym e)

pub joined_3 : (old m n new a b c all : Bool) → m ≡ (old || a) → n ≡ (m || b) → new ≡ (n || c) → all ≡ (a || (b || c)) → new ≡ (old || all)
joined_3 old m n new a b c all h1 h2 h3 e = joined_2 old n new (a || b) c all (joined_2 old m n a b (a || b) h1 h2 refl) h3 (e ∙ sym (or_grouped a b c))

pub joined_4 : (old m n o new a b c d all : Bool) → m ≡ (old || a) → n ≡ (m || b) → o ≡ (n || c) → new ≡ (o || d) → all ≡ (a || (b || (c || d))) → new ≡ (old || all)
joined_4 old m n o new a b c d all h1 h2 h3 h4 e = joined_3 old n o new (a || b) c d all (joined_2 old m n a b (a || b) h1 h2 refl) h3 h4 (e ∙ sym (or_grouped a b (c || d)))

one_more : (xs : List Bool) (i : ℕ) → i < length xs → get_or xs i true ≡ false → count_by (λ b. b) (set xs i true) ≡ count_by (λ b. b) xs + 1
one_more xs i lt free =
    let e = sum_by-set (λ b. cond b 1 0) xs i true true lt in
    let as_number : Bool → ℕ = λ b. cond b 1 0 in
    let z : as_number (get_or xs i true) ≡ as_number false = ap as_number free in
    omega (arith, e, z)

-- a set with a place that is free has fewer than all
pub has_room : (r : Reached) (f : ℕ) → f < 512 → has r f ≡ false → Queued r → r.count < 512
has_room r f lt free q =
    let e = one_more r.marked f (omega (arith, q.places)) free in
    let l = count_by-le-length (λ b. b) (set r.marked f true) in
    let s = length-set {A = Bool} r.marked f true in
    omega (arith, e, l, s, q.places, q.counted)

-- the function goes to the queue's end
abbrev pushed : Reached → ℕ → Reached
pushed r f = record { marked = set r.marked f true; queue = set r.queue r.count f; count = r.count + 1 }

found_pushed : (r : Reached) (f : ℕ) → f < 512 → has r f ≡ false → Queued r → (g : ℕ) → g < 512 → IsTrue (has (pushed r f) g) → (k : ℕ) × (k < r.count + 1) × (get_or (set r.queue r.count f) k 0 ≡ g)
found_pushed r f lt free q g low there =
    let room = has_room r f lt free q in
    elim (cases_eq g f) [
      | inl e ↦ (r.count, omega arith, get_or-set_same r.queue r.count f 0 (omega (arith, q.room)) ∙ sym e)
      | inr ne ↦
          let w = q.found g low (sym (get_or-set_other r.marked f g true true ne) ∙ there) in
          (w.0, omega (arith, w.1), get_or-set_other r.queue r.count w.0 f 0 (λ e. omega (arith, e, w.1)) ∙ w.2)
    ]

marked_pushed : (r : Reached) (f : ℕ) → f < 512 → Queued r → (g : ℕ) → IsTrue (has r g) → IsTrue (has (pushed r f) g)
marked_pushed r f lt q g there =
    elim (cases_eq g f) [
      | inl e ↦ ap (λ i. get_or (set r.marked f true) i true) e ∙ get_or-set_same r.marked f true true (omega (arith, q.places))
      | inr ne ↦ get_or-set_other r.marked f g true true ne ∙ there
    ]

only_pushed : (r : Reached) (f : ℕ) → f < 512 → has r f ≡ false → Queued r → (k : ℕ) → k < r.count + 1 → IsTrue (has (pushed r f) (get_or (set r.queue r.count f) k 0))
only_pushed r f lt free q k low =
    let room = has_room r f lt free q in
    elim (cases_eq k r.count) [
      | inl e ↦
          let at : get_or (set r.queue r.count f) k 0 ≡ f = ap (λ i. get_or (set r.queue r.count f) i 0) e ∙ get_or-set_same r.queue r.count f 0 (omega (arith, q.room)) in
          ap (λ g. has (pushed r f) g) at ∙ get_or-set_same r.marked f true true (omega (arith, q.places))
      | inr ne ↦
          let at : get_or (set r.queue r.count f) k 0 ≡ get_or r.queue k 0 = get_or-set_other r.queue r.count k f 0 ne in
          let less : k < r.count = omega (arith, ne, low) in
          ap (λ g. has (pushed r f) g) at ∙ marked_pushed r f lt q (get_or r.queue k 0) (q.only k less)
    ]

queued_pushed : (r : Reached) (f : ℕ) → f < 512 → has r f ≡ false → Queued r → Queued (pushed r f)
queued_pushed r f lt free q = record {
  counted = omega (arith, one_more r.marked f (omega (arith, q.places)) free, q.counted);
  places = length-set r.marked f true ∙ q.places;
  room = length-set r.queue r.count f ∙ q.room;
  found = found_pushed r f lt free q;
  only = only_pushed r f lt free q;
}

pub follows_pushed : (r : Reached) (f : ℕ) → f < 512 → has r f ≡ false → Follows r (pushed r f)
follows_pushed r f lt free = record {
  queued = queued_pushed r f lt free;
  grown = omega arith;
  kept = λ k low. get_or-set_other r.queue r.count k f 0 (λ e. omega (arith, e, low));
}

-- a queue that is full is that of no set with a free place
pub follows_full : (r : Reached) (f : ℕ) → f < 512 → has r f ≡ false → 512 ≤ r.count → Follows r (record r { marked = set r.marked f true })
follows_full r f lt free full = record {
  queued = λ q. absurd (omega (arith, has_room r f lt free q));
  grown = omega arith;
  kept = λ k low. refl;
}

-- a place that was read as free
pub free_at : (xs : List Bool) (i : ℕ) → i < length xs → get_or xs i false ≡ false → get_or xs i true ≡ false
free_at xs i lt e = get_or_default xs i true false lt ∙ e
