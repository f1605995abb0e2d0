-- What is made of the pairs of two lists, pair by pair.
use Rattle.std.proofs.Common.{◌≡◌, ℕ, zero, suc, ◌+◌, ◌≤◌, List, [], ◌∷◌, ◌++◌, map, length, drop, slice_get, Option, Some, None, refl, sym, ap, ◌∙◌, append_assoc, add-one}
use Rattle.std.specs.List.{zip}
use Rattle.std.proofs.Math.ListN.{drop_of_length-le}

got : {A : Type 0} (xs : List A) (i : ℕ) (x : A) → Some x ≡ slice_get xs i → drop i xs ≡ x ∷ drop (suc i) xs
got [] i x e = cc
got (y ∷ xs) zero x e = cc
got (y ∷ xs) (suc i) x e = got xs i x e

gone : {A : Type 0} (xs : List A) (i : ℕ) → None ≡ slice_get xs i → drop i xs ≡ []
gone [] zero e = refl
gone [] (suc i) e = refl
gone (x ∷ xs) zero e = cc
gone (x ∷ xs) (suc i) e = gone xs i e

append_none : {A : Type 0} (xs : List A) → xs ++ [] ≡ xs
append_none [] = refl
append_none (x ∷ xs) = ap (λ l. x ∷ l) (append_none xs)

zip_none : {A B : Type 0} (xs : List A) → (let none : List B = [] in zip xs none ≡ [])
zip_none [] = refl
zip_none (x ∷ xs) = refl

module _ {A B C : Type 0} (f : A × B → C) where
  pub zip_step : (made made2 whole : List C) (xs : List A) (ys : List B) (i : ℕ) (x : A) (y : B) → Some x ≡ slice_get xs i → drop i ys ≡ y ∷ drop (i + 1) ys → made2 ≡ made ++ f (x, y) ∷ [] → made ++ map f (zip (drop i xs) (drop i ys)) ≡ whole → made2 ++ map f (zip (drop (i + 1) xs) (drop (i + 1) ys)) ≡ whole
  zip_step made made2 whole xs ys i x y a b m h =
      let rest = map f (zip (drop (i + 1) xs) (drop (i + 1) ys)) in
      let front : drop i xs ≡ x ∷ drop (i + 1) xs = got xs i x a ∙ ap (λ j. x ∷ drop j xs) (sym (add-one i)) in
      ap (λ l. l ++ rest) m ∙ append_assoc made (f (x, y) ∷ []) rest ∙ ap (λ l. made ++ map f (zip l (y ∷ drop (i + 1) ys))) (sym front) ∙ ap (λ l. made ++ map f (zip (drop i xs) l)) (sym b) ∙ h

  pub zip_gone : (made whole : List C) (xs : List A) (ys : List B) (i : ℕ) → None ≡ slice_get xs i → made ++ map f (zip (drop i xs) (drop i ys)) ≡ whole → made ≡ whole
  zip_gone made whole xs ys i e h = sym (append_none made) ∙ ap (λ l. made ++ map f (zip l (drop i ys))) (sym (gone xs i e)) ∙ h

  pub zip_done : (made whole : List C) (xs : List A) (ys : List B) (i : ℕ) → length ys ≤ i → made ++ map f (zip (drop i xs) (drop i ys)) ≡ whole → made ≡ whole
  zip_done made whole xs ys i le h = sym (append_none made) ∙ ap (λ l. made ++ map f l) (sym (zip_none (drop i xs))) ∙ ap (λ l. made ++ map f (zip (drop i xs) l)) (sym (drop_of_length-le ys le)) ∙ h

pub map_pushed : {A B : Type 0} (f : A → B) (xs : List A) (x : A) → map f (xs ++ x ∷ []) ≡ map f xs ++ f x ∷ []
map_pushed f [] x = refl
map_pushed f (y ∷ xs) x = ap (λ l. f y ∷ l) (map_pushed f xs x)
