-- The numbers of temporaries: those of each shape begin where those before end.
use Rattle.std.proofs.Common.{◌≡◌, ℕ, zero, suc, ◌+◌, ◌≤◌, ◌<◌, List, [], ◌∷◌, ◌++◌, length, refl, sym, ap, ◌∙◌, arith, append-nil, ◌⊎◌, inl, inr}
use Rattle.std.specs.Prelude.{sum, slice_get, replicate, min}
use Rattle.std.proofs.lemmas.List.Sums.{sum_by-cons}
use Rattle.std.proofs.lemmas.Option.{slice_get_past}
use Rattle.gc0_tree.specs.declared.Shape.{Shape}
use Rattle.gc0_tree.specs.declared.Shape.TheVariants.{Int, Bool as Truth, Pointer, Null}
use Rattle.gc0_tree.specs.Tree.{Function, Program}
use Rattle.lowering_laws.specs.Lowering.{pointers_before, pointer_temps, temps_of, uses, slot_in}
use Rattle.temp_counts.specs.Used.{or_else, or_zero, starts_from, slot_from, AreTemps}
use Rattle.temp_counts.specs.declared.temps.Temps.{Temps}
use Rattle.temp_counts.specs.Most.{most_in}
use Rattle.temp_counts.specs.declared.most.Most.{Most}

-- how many come before a place of a table
abbrev pub total_before : List ℕ → ℕ → ℕ
total_before ns zero = 0
total_before ns (suc k) = total_before ns k + or_zero (slice_get ns k)

total_none : (k : ℕ) → total_before [] k ≡ 0
total_none zero = refl
total_none (suc zero) = refl
total_none (suc (suc k)) = let e : total_before [] (suc k) ≡ 0 = total_none (suc k) in omega arith

total_behind : (n : ℕ) (ns : List ℕ) (k : ℕ) → total_before (n ∷ ns) (suc k) ≡ n + total_before ns k
total_behind n ns zero = omega arith
total_behind n ns (suc k) =
    let e : total_before (n ∷ ns) (suc k) ≡ n + total_before ns k = total_behind n ns k in
    omega arith

-- the start at a place is behind all before
pub start_is : (first : ℕ) (ns : List ℕ) (k : ℕ) → or_else (first + sum ns) (slice_get (starts_from first ns) k) ≡ first + total_before ns k
start_is first [] zero = omega arith
start_is first [] (suc k) = let e : total_before [] (suc k) ≡ 0 = total_none (suc k) in omega arith
start_is first (n ∷ ns) zero = omega arith
start_is first (n ∷ ns) (suc k) =
    let inner : or_else ((first + n) + sum ns) (slice_get (starts_from (first + n) ns) k) ≡ (first + n) + total_before ns k = start_is (first + n) ns k in
    let totals : sum (n ∷ ns) ≡ n + sum ns = sum_by-cons (λ x. x) n ns in
    let all : first + sum (n ∷ ns) ≡ (first + n) + sum ns = omega arith in
    let more : total_before (n ∷ ns) (suc k) ≡ n + total_before ns k = total_behind n ns k in
    let regroup : (first + n) + total_before ns k ≡ first + total_before (n ∷ ns) (suc k) = omega arith in
    ap (λ (d : ℕ). or_else d (slice_get (starts_from (first + n) ns) k)) all ∙ (inner ∙ regroup)

-- the pointers before a struct are those before its place
pub before_is : (m : Most) (k : ℕ) → pointers_before (most_in m) k ≡ total_before m.pointers k
before_is m zero = refl
before_is m (suc k) = ap (λ (n : ℕ). n + or_zero (slice_get m.pointers k)) (before_is m k)

up_one : (a b : ℕ) → (a ≤ b) ⊎ (b < a) → (suc a ≤ suc b) ⊎ (suc b < suc a)
up_one a b (inl h) = inl (omega arith)
up_one a b (inr h) = inr (omega arith)

le_or_lt : (a b : ℕ) → (a ≤ b) ⊎ (b < a)
le_or_lt zero b = inl (omega arith)
le_or_lt (suc a) zero = inr (omega arith)
le_or_lt (suc a) (suc b) = up_one a b (le_or_lt a b)

module _ (m : Most) (n : ℕ) where
  cut_past : pointer_temps (most_in m) n ≡ pointer_temps (most_in m) (min n (length m.pointers)) → length m.pointers ≤ n
      → pointer_temps (most_in m) (suc n) ≡ pointer_temps (most_in m) (min (suc n) (length m.pointers))
  cut_past before h =
      let none : or_zero (slice_get m.pointers n) ≡ 0 = ap or_zero (slice_get_past m.pointers n h) in
      let e : min n (length m.pointers) ≡ min (suc n) (length m.pointers) = omega arith in
      ap (λ (k : ℕ). pointer_temps (most_in m) n ++ replicate k (Pointer n)) none
      ∙ (append-nil (pointer_temps (most_in m) n) ∙ (before ∙ ap (pointer_temps (most_in m)) e))

  cut_within : n < length m.pointers → pointer_temps (most_in m) (suc n) ≡ pointer_temps (most_in m) (min (suc n) (length m.pointers))
  cut_within h = let e : suc n ≡ min (suc n) (length m.pointers) = omega arith in ap (pointer_temps (most_in m)) e

  cut_by : pointer_temps (most_in m) n ≡ pointer_temps (most_in m) (min n (length m.pointers))
      → (length m.pointers ≤ n) ⊎ (n < length m.pointers)
      → pointer_temps (most_in m) (suc n) ≡ pointer_temps (most_in m) (min (suc n) (length m.pointers))
  cut_by before (inl h) = cut_past before h
  cut_by before (inr h) = cut_within h

-- behind the table there are none
pub cut : (m : Most) (n : ℕ) → pointer_temps (most_in m) n ≡ pointer_temps (most_in m) (min n (length m.pointers))
cut m zero = let e : min 0 (length m.pointers) ≡ 0 = omega arith in ap (pointer_temps (most_in m)) (sym e)
cut m (suc n) = cut_by m n (cut m n) (le_or_lt (length m.pointers) n)

module _ (a b : Shape → ℕ) (same : (s : Shape) → a s ≡ b s) where
  pub same_before : (k : ℕ) → pointers_before a k ≡ pointers_before b k
  same_before zero = refl
  same_before (suc k) =
      let e : pointers_before a k ≡ pointers_before b k = same_before k in
      let f : a (Pointer k) ≡ b (Pointer k) = same (Pointer k) in
      omega arith

  same_pointers : (k : ℕ) → pointer_temps a k ≡ pointer_temps b k
  same_pointers zero = refl
  same_pointers (suc k) =
      ap (λ (xs : List Shape). xs ++ replicate (a (Pointer k)) (Pointer k)) (same_pointers k)
      ∙ ap (λ (n : ℕ). pointer_temps b k ++ replicate n (Pointer k)) (same (Pointer k))

  pub same_temps : (k : ℕ) → temps_of a k ≡ temps_of b k
  same_temps k =
      let x : a Int ≡ b Int = same Int in
      let y : a Truth ≡ b Truth = same Truth in
      let z : a Null ≡ b Null = same Null in
      let w : pointer_temps a k ≡ pointer_temps b k = same_pointers k in
      cc

-- what is counted, where each shape begins behind the one before
module _ (t : Temps) (p : Program) (f : Function) (m : Most) (first structs : ℕ)
    (same : (s : Shape) → most_in m s ≡ uses p f s)
    (ints : t.ints ≡ length f.locals)
    (truths : t.truths ≡ t.ints + m.ints)
    (nulls : t.nulls ≡ t.truths + m.truths)
    (begin : first ≡ t.nulls + m.nulls)
    (pointers : t.pointers ≡ starts_from first m.pointers)
    (behind : t.behind ≡ first + sum m.pointers)
    (listed : t.shapes ≡ temps_of (most_in m) structs)
    (many : structs ≡ length p.structs) where
  pointer_start : (j : ℕ) → or_else t.behind (slice_get t.pointers j) ≡ first + total_before m.pointers j
  pointer_start j =
      ap (λ (d : ℕ). or_else d (slice_get t.pointers j)) behind
      ∙ (ap (λ (ns : List ℕ). or_else (first + sum m.pointers) (slice_get ns j)) pointers
      ∙ start_is first m.pointers j)

  slot_is : (s : Shape) (k : ℕ) → slot_from t s k ≡ slot_in p f s k
  slot_is Int k = omega arith
  slot_is Truth k = let x : m.ints ≡ uses p f Int = same Int in omega arith
  slot_is Null k =
      let x : m.ints ≡ uses p f Int = same Int in
      let y : m.truths ≡ uses p f Truth = same Truth in
      omega arith
  slot_is (Pointer j) k =
      let x : m.ints ≡ uses p f Int = same Int in
      let y : m.truths ≡ uses p f Truth = same Truth in
      let z : m.nulls ≡ uses p f Null = same Null in
      let start : or_else t.behind (slice_get t.pointers j) ≡ first + total_before m.pointers j = pointer_start j in
      let before : pointers_before (most_in m) j ≡ total_before m.pointers j = before_is m j in
      let used : pointers_before (most_in m) j ≡ pointers_before (uses p f) j = same_before (most_in m) (uses p f) same j in
      omega arith

  pub are_temps : AreTemps t p f
  are_temps = record {
    slots = slot_is;
    shapes = listed ∙ (same_temps (most_in m) (uses p f) same structs ∙ ap (temps_of (uses p f)) many);
  }
