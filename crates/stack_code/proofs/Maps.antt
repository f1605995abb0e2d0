-- A list seen through a function, item by item.
use Rattle.std.proofs.Common.{◌≡◌, ◌≤◌, ℕ, zero, suc, List, [], ◌∷◌, length, map, refl, ap, arith}
use Rattle.std.specs.Prelude.{slice_set}

pub map_set : {A B : Type 0} (f : A → B) (xs : List A) (i : ℕ) (x : A) → map f (slice_set xs i x) ≡ slice_set (map f xs) i (f x)
map_set f [] i x = refl
map_set f (y ∷ xs) zero x = refl
map_set f (y ∷ xs) (suc i) x = ap (λ l. f y ∷ l) (map_set f xs i x)

pub map_set_past : {A B : Type 0} (f : A → B) (xs : List A) (i : ℕ) (y : B) → length xs ≤ i → map f xs ≡ slice_set (map f xs) i y
map_set_past f [] i y le = refl
map_set_past f (x ∷ xs) zero y le = absurd (omega arith)
map_set_past f (x ∷ xs) (suc i) y le = ap (λ l. f x ∷ l) (map_set_past f xs i y (omega arith))
