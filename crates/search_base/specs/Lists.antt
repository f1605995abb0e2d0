-- Elements of lists by their places.
use Rattle.std.proofs.Common.{◌≡◌, ◌⊎◌, ℕ, zero, suc, ◌<◌, ◌≤◌, List, [], ◌∷◌, ◌++◌, Some, length, take, map, arith, refl, ap, inl, inr}
use Rattle.std.specs.List.{slice_get}
use Rattle.std.proofs.lemmas.Option.{same_Some, none-some}

module _ {X : Type 0} where
  pub slice_get-append_left : (xs ys : List X) (i : ℕ) (x : X) → slice_get xs i ≡ Some x → slice_get (xs ++ ys) i ≡ Some x
  slice_get-append_left [] ys i x at = absurd (none-some x at)
  slice_get-append_left (y ∷ xs) ys zero x at = at
  slice_get-append_left (y ∷ xs) ys (suc i) x at = slice_get-append_left xs ys i x at

  pub slice_get-push : (xs : List X) (x : X) → slice_get (xs ++ x ∷ []) (length xs) ≡ Some x
  slice_get-push [] x = refl
  slice_get-push (y ∷ xs) x = slice_get-push xs x

  -- an element of a list with one more at its end is an old one or that one
  pub slice_get-push_cases : (xs : List X) (x : X) (i : ℕ) (y : X) → slice_get (xs ++ x ∷ []) i ≡ Some y → (slice_get xs i ≡ Some y) ⊎ ((i ≡ length xs) × (x ≡ y))
  slice_get-push_cases [] x zero y at = inr (refl, same_Some x y at)
  slice_get-push_cases [] x (suc i) y at = absurd (none-some y at)
  slice_get-push_cases (z ∷ xs) x zero y at = inl at
  slice_get-push_cases (z ∷ xs) x (suc i) y at =
      elim (slice_get-push_cases xs x i y at) [ inl before ↦ inl before | inr last ↦ inr (ap suc last.0, last.1) ]

  pub slice_get-take : (n : ℕ) (xs : List X) (i : ℕ) (x : X) → i < n → slice_get xs i ≡ Some x → slice_get (take n xs) i ≡ Some x
  slice_get-take zero xs i x h at = absurd (omega arith)
  slice_get-take (suc n) [] i x h at = at
  slice_get-take (suc n) (y ∷ xs) zero x h at = at
  slice_get-take (suc n) (y ∷ xs) (suc i) x h at = slice_get-take n xs i x (omega arith) at

  pub take_slice_get : (n : ℕ) (xs : List X) (i : ℕ) (x : X) → slice_get (take n xs) i ≡ Some x → (i < n) × (slice_get xs i ≡ Some x)
  take_slice_get zero xs i x at = absurd (none-some x at)
  take_slice_get (suc n) [] i x at = absurd (none-some x at)
  take_slice_get (suc n) (y ∷ xs) zero x at = (omega arith, at)
  take_slice_get (suc n) (y ∷ xs) (suc i) x at = let rest = take_slice_get n xs i x at in (omega (arith, rest.0), rest.1)

  pub take_within : (n : ℕ) (xs ys : List X) → n ≤ length xs → take n (xs ++ ys) ≡ take n xs
  take_within zero xs ys h = refl
  take_within (suc n) [] ys h = absurd (omega arith)
  take_within (suc n) (x ∷ xs) ys h = ap (λ (zs : List X). x ∷ zs) (take_within n xs ys (omega arith))

  pub take-take : (m n : ℕ) (xs : List X) → m ≤ n → take m (take n xs) ≡ take m xs
  take-take zero n xs h = refl
  take-take (suc m) zero xs h = absurd (omega arith)
  take-take (suc m) (suc n) [] h = refl
  take-take (suc m) (suc n) (x ∷ xs) h = ap (λ (zs : List X). x ∷ zs) (take-take m n xs (omega arith))

  pub take_suc : (n : ℕ) (xs : List X) (x : X) → slice_get xs n ≡ Some x → take (suc n) xs ≡ take n xs ++ x ∷ []
  take_suc zero [] x at = absurd (none-some x at)
  take_suc zero (y ∷ xs) x at = ap (λ (z : X). z ∷ []) (same_Some y x at)
  take_suc (suc n) [] x at = absurd (none-some x at)
  take_suc (suc n) (y ∷ xs) x at = ap (λ (zs : List X). y ∷ zs) (take_suc n xs x at)

  -- the last element apart
  pub take_whole : (n : ℕ) (xs : List X) → length xs ≤ n → take n xs ≡ xs
  take_whole zero [] h = refl
  take_whole zero (x ∷ xs) h = absurd (omega arith)
  take_whole (suc n) [] h = refl
  take_whole (suc n) (x ∷ xs) h = ap (λ (zs : List X). x ∷ zs) (take_whole n xs (omega arith))

pub slice_get-map : {X Y : Type 0} (f : X → Y) (xs : List X) (i : ℕ) (x : X) → slice_get xs i ≡ Some x → slice_get (map f xs) i ≡ Some (f x)
slice_get-map f [] i x at = absurd (none-some x at)
slice_get-map f (y ∷ xs) zero x at = ap (λ z. Some (f z)) (same_Some y x at)
slice_get-map f (y ∷ xs) (suc i) x at = slice_get-map f xs i x at

-- an element of a mapped list comes from one of the list
pub map_slice_get : {X Y : Type 0} (f : X → Y) (xs : List X) (i : ℕ) (y : Y) → slice_get (map f xs) i ≡ Some y → (x : X) × (slice_get xs i ≡ Some x) × (f x ≡ y)
map_slice_get f [] i y at = absurd (none-some y at)
map_slice_get f (x ∷ xs) zero y at = (x, refl, same_Some (f x) y at)
map_slice_get f (x ∷ xs) (suc i) y at = map_slice_get f xs i y at
