-- The shapes of locals and temporaries by their numbers.
use Rattle.std.proofs.Common.{◌≡◌, ℕ, zero, suc, ◌+◌, ◌<◌, ◌⊎◌, inl, inr, List, [], ◌∷◌, ◌++◌, length, replicate, Option, Some, None, is_some, refl, sym, ap, ◌∙◌, arith, length-append}
use Rattle.std.proofs.lemmas.List.{length-replicate, length-map}
use Rattle.std.proofs.lemmas.List.Elements.{All-append, All-replicate, All-nil}
use Rattle.std.proofs.lemmas.Option.{slice_get_within}
use Rattle.std.specs.Prelude.{slice_get, All, true, false}
use Rattle.gc0_tree.specs.declared.Shape.{Shape}
use Rattle.gc0_tree.specs.declared.Shape.TheVariants.{Int, Bool as Truth, Pointer, Null}
use Rattle.gc0_tree.specs.Tree.{Struct, Function, Program}
use Rattle.gc0_tree.specs.Fits.{shapes_in}
use Rattle.lowering_laws.specs.Lowering.{pointers_before, temps_before, pointer_temps, temps_of, uses, slot_in}
use Rattle.lowering_laws.proofs.Counting.{none_some, IsTemp}

-- ---- lists
pub get_left : {A : Type 0} (xs ys : List A) (i : ℕ) (x : A) → slice_get xs i ≡ Some x → slice_get (xs ++ ys) i ≡ Some x
get_left [] ys i x h = absurd (none_some x h)
get_left (z ∷ xs) ys zero x h = h
get_left (z ∷ xs) ys (suc i) x h = get_left xs ys i x h

pub get_behind : {A : Type 0} (xs ys : List A) (i j : ℕ) → j ≡ length xs + i → slice_get (xs ++ ys) j ≡ slice_get ys i
get_behind [] ys i j e = let h : j ≡ i = omega arith in ap (slice_get ys) h
get_behind (z ∷ xs) ys i zero e = absurd (omega arith)
get_behind (z ∷ xs) ys i (suc j) e = get_behind xs ys i j (omega arith)

get_replicated : {A : Type 0} (n i : ℕ) (x : A) → i < n → slice_get (replicate n x) i ≡ Some x
get_replicated zero i x lt = absurd (omega arith)
get_replicated (suc n) zero x lt = refl
get_replicated (suc n) (suc i) x lt = get_replicated n i x (omega arith)

pub some_within : {A : Type 0} (xs : List A) (k : ℕ) → k < length xs → is_some (slice_get xs k) ≡ true
some_within [] k lt = absurd (omega arith)
some_within (x ∷ xs) zero lt = refl
some_within (x ∷ xs) (suc k) lt = some_within xs k (omega arith)

struct_within : (xs : List Struct) (k : ℕ) → is_some (slice_get xs k) ≡ true → k < length xs
struct_within xs k h = by_case (slice_get xs k) refl h
  where
    by_case : (o : Option Struct) → slice_get xs k ≡ o → is_some o ≡ true → k < length xs
    by_case None e g = absurd (let f : false ≡ true = g in cc)
    by_case (Some x) e g = slice_get_within xs k x e

less_or_is : (k n : ℕ) → k < suc n → (k < n) ⊎ (k ≡ n)
less_or_is zero zero lt = inr refl
less_or_is zero (suc n) lt = inl (omega arith)
less_or_is (suc k) zero lt = absurd (omega arith)
less_or_is (suc k) (suc n) lt = up (less_or_is k n (omega arith))
  where
    up : (k < n) ⊎ (k ≡ n) → (suc k < suc n) ⊎ (suc k ≡ suc n)
    up (inl h) = inl (omega arith)
    up (inr h) = inr (ap suc h)

-- ---- temporaries
module _ (room : Shape → ℕ) where
  pointers_count : (n : ℕ) → length (pointer_temps room n) ≡ pointers_before room n
  pointers_count zero = refl
  pointers_count (suc n) = omega (arith, length-append (pointer_temps room n) (replicate (room (Pointer n)) (Pointer n)), pointers_count n, length-replicate (room (Pointer n)) (Pointer n))

  pointer_at : (n k i j : ℕ) → k < n → i < room (Pointer k) → j ≡ pointers_before room k + i → slice_get (pointer_temps room n) j ≡ Some (Pointer k)
  pointer_at zero k i j lt in_room e = absurd (omega arith)
  pointer_at (suc n) k i j lt in_room e = by_last (λ h. pointer_at n k i j h in_room e) (less_or_is k n lt)
    where
      by_last : (k < n → slice_get (pointer_temps room n) j ≡ Some (Pointer k)) → (k < n) ⊎ (k ≡ n) → slice_get (pointer_temps room n ++ replicate (room (Pointer n)) (Pointer n)) j ≡ Some (Pointer k)
      by_last before (inl h) = get_left (pointer_temps room n) (replicate (room (Pointer n)) (Pointer n)) j (Pointer k) (before h)
      by_last before (inr h) =
          let same : pointers_before room k ≡ pointers_before room n = ap (pointers_before room) h in
          let rooms : room (Pointer k) ≡ room (Pointer n) = ap (λ k. room (Pointer k)) h in
          get_behind (pointer_temps room n) (replicate (room (Pointer n)) (Pointer n)) i j (omega (arith, pointers_count n))
          ∙ get_replicated (room (Pointer n)) i (Pointer n) (omega arith)
          ∙ ap (λ k. Some (Pointer k)) (sym h)

  -- the k-th temporary of a shape has it
  pub temp_there : (p : Program) (s : Shape) (i j : ℕ) → IsTemp p s → i < room s → j ≡ temps_before room s + i → slice_get (temps_of room (length p.structs)) j ≡ Some s
  temp_there p s i j is_temp in_room e = by_shape s is_temp in_room e
    where
      by_shape : (s : Shape) → IsTemp p s → i < room s → j ≡ temps_before room s + i → slice_get (temps_of room (length p.structs)) j ≡ Some s
      by_shape Int t lt e =
          let h : i ≡ j = omega arith in
          let lt' : j < room Int = omega arith in
          get_left (replicate (room Int) Int) (replicate (room Truth) Truth ++ (replicate (room Null) Null ++ pointer_temps room (length p.structs))) j Int (get_replicated (room Int) j Int lt')
      by_shape Truth t lt e =
          get_behind (replicate (room Int) Int) (replicate (room Truth) Truth ++ (replicate (room Null) Null ++ pointer_temps room (length p.structs))) i j (omega (arith, length-replicate (room Int) Int))
          ∙ get_left (replicate (room Truth) Truth) (replicate (room Null) Null ++ pointer_temps room (length p.structs)) i Truth (get_replicated (room Truth) i Truth lt)
      by_shape Null t lt e =
          get_behind (replicate (room Int) Int) (replicate (room Truth) Truth ++ (replicate (room Null) Null ++ pointer_temps room (length p.structs))) (room Truth + i) j (omega (arith, length-replicate (room Int) Int))
          ∙ get_behind (replicate (room Truth) Truth) (replicate (room Null) Null ++ pointer_temps room (length p.structs)) i (room Truth + i) (omega (arith, length-replicate (room Truth) Truth))
          ∙ get_left (replicate (room Null) Null) (pointer_temps room (length p.structs)) i Null (get_replicated (room Null) i Null lt)
      by_shape (Pointer k) t lt e =
          get_behind (replicate (room Int) Int) (replicate (room Truth) Truth ++ (replicate (room Null) Null ++ pointer_temps room (length p.structs))) (room Truth + (room Null + (pointers_before room k + i))) j (omega (arith, length-replicate (room Int) Int))
          ∙ get_behind (replicate (room Truth) Truth) (replicate (room Null) Null ++ pointer_temps room (length p.structs)) (room Null + (pointers_before room k + i)) (room Truth + (room Null + (pointers_before room k + i))) (omega (arith, length-replicate (room Truth) Truth))
          ∙ get_behind (replicate (room Null) Null) (pointer_temps room (length p.structs)) (pointers_before room k + i) (room Null + (pointers_before room k + i)) (omega (arith, length-replicate (room Null) Null))
          ∙ pointer_at (length p.structs) k i (pointers_before room k + i) (struct_within p.structs k t) lt refl

  all_pointers : (P : Shape → Type 0) (n : ℕ) → ((k : ℕ) → k < n → P (Pointer k)) → All P (pointer_temps room n)
  all_pointers P zero h = All-nil P
  all_pointers P (suc n) h = All-append P (pointer_temps room n) (replicate (room (Pointer n)) (Pointer n)) (all_pointers P n (λ k lt. h k (omega arith))) (All-replicate P (room (Pointer n)) (Pointer n) (h n (omega arith)))

  -- what holds of the shapes of a program holds of each temporary
  pub all_temps : (P : Shape → Type 0) (p : Program) → ((s : Shape) → IsTemp p s → P s) → All P (temps_of room (length p.structs))
  all_temps P p h =
      All-append P (replicate (room Int) Int) (replicate (room Truth) Truth ++ (replicate (room Null) Null ++ pointer_temps room (length p.structs))) (All-replicate P (room Int) Int (h Int tt))
      (All-append P (replicate (room Truth) Truth) (replicate (room Null) Null ++ pointer_temps room (length p.structs)) (All-replicate P (room Truth) Truth (h Truth tt))
      (All-append P (replicate (room Null) Null) (pointer_temps room (length p.structs)) (All-replicate P (room Null) Null (h Null tt))
      (all_pointers P (length p.structs) (λ k lt. h (Pointer k) (some_within p.structs k lt)))))

-- behind the locals
pub slot_there : (p : Program) (f : Function) (s : Shape) (i : ℕ) → IsTemp p s → i < uses p f s → slice_get (shapes_in f.locals ++ temps_of (uses p f) (length p.structs)) (slot_in p f s i) ≡ Some s
slot_there p f s i is_temp lt =
    let k : ℕ = temps_before (uses p f) s + i in
    get_behind (shapes_in f.locals) (temps_of (uses p f) (length p.structs)) k (slot_in p f s i) (omega (arith, length-map f.locals (λ (q : List ℕ × Shape). q.1)))
    ∙ temp_there (uses p f) p s i k is_temp lt refl
