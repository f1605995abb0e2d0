-- A program without faults of framing is guarded.
use Rattle.std.proofs.Common.{◌≡◌, true, List, [], ◌∷◌, ◌++◌, map, refl, Result, Ok, Err, is_ok, IfOk}

pub kept : {E : Type 0} (r : Result (Unit {0}) E) (P : Type 0) → is_ok r ≡ true → IfOk r (λ _. P) → P
kept (Ok u) P h k = k
kept (Err e) P h k = absurd cc

none_behind : {A : Type 0} (xs ys : List A) → xs ++ ys ≡ [] → ys ≡ []
none_behind [] ys e = e
none_behind (x ∷ xs) ys e = absurd cc

none_mapped : {A B : Type 0} (f : A → B) (xs : List A) → map f xs ≡ [] → xs ≡ []
none_mapped f [] e = refl
none_mapped f (x ∷ xs) e = absurd cc

-- the second of two lists of faults is empty where there are none
pub no_second : {A B C : Type 0} (f : A → C) (g : B → C) (xs : List A) (ys : List B) → map f xs ++ map g ys ≡ [] → ys ≡ []
no_second f g xs ys e = none_mapped g ys (none_behind (map f xs) (map g ys) e)
