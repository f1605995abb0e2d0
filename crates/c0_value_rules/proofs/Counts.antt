-- What is left where one of two lists ends.
use Rattle.std.proofs.Common.{◌≡◌, ℕ, zero, suc, Bool, List, [], ◌∷◌, ◌++◌, map, length, drop, slice_get, Option, None, refl, sym, ap, ◌∙◌}
use Rattle.c0_value_rules.specs.Scopes.{both_assigned}

zip_none : (xs : List Bool) → both_assigned xs [] ≡ []
zip_none [] = refl
zip_none (x ∷ xs) = refl

append_none : {X : Type 0} (xs : List X) → xs ≡ xs ++ []
append_none [] = refl
append_none (x ∷ xs) = ap (λ l. x ∷ l) (append_none xs)

none_both : (xs ys : List Bool) (i : ℕ) → slice_get ys i ≡ None → both_assigned (drop i xs) (drop i ys) ≡ []
none_both xs [] zero e = zip_none xs
none_both [] [] (suc i) e = refl
none_both (x ∷ xs) [] (suc i) e = zip_none (drop i xs)
none_both xs (y ∷ ys) zero e = cc
none_both [] (y ∷ ys) (suc i) e = refl
none_both (x ∷ xs) (y ∷ ys) (suc i) e = none_both xs ys i e

pub none_left : (both whole xs ys : List Bool) (i : ℕ) → slice_get ys i ≡ None → both ++ both_assigned (drop i xs) (drop i ys) ≡ whole → both ≡ whole
none_left both whole xs ys i e h = append_none both ∙ ap (λ l. both ++ l) (sym (none_both xs ys i e)) ∙ h
