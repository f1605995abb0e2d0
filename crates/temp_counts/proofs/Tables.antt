-- Tables that grow: what is behind the end is zero.
use Rattle.std.proofs.Common.{◌≡◌, ℕ, zero, suc, List, [], ◌∷◌, ◌++◌, map, refl}
use Rattle.std.specs.Option.{option_map}
use Rattle.std.proofs.lemmas.Option.{slice_get-map}
use Rattle.std.specs.Prelude.{slice_get}
use Rattle.temp_counts.specs.Used.{or_zero}

-- a zero at the end changes no number
pub push_zero : (xs : List ℕ) (k : ℕ) → or_zero (slice_get (xs ++ 0 ∷ []) k) ≡ or_zero (slice_get xs k)
push_zero [] zero = refl
push_zero [] (suc k) = refl
push_zero (x ∷ xs) zero = refl
push_zero (x ∷ xs) (suc k) = push_zero xs k

-- an entry of a view is the view of the entry
pub viewed : {A : Type 0} {B : Type 0} (view : A → B) (xs : List A) (k : ℕ) → slice_get (map view xs) k ≡ option_map view (slice_get xs k)
viewed view xs k = slice_get-map view xs k
