-- Words that make no request.
use Rattle.std.proofs.Common.{◌≡◌, ℕ, List, [], ◌∷◌, length, map, None, refl, ◌≤◌, ◌<◌, arith}
use Rattle.gradual_top.specs.Requests.{asked_in}

pub one_word : {A : Type 0} (f : A → List ℕ) (ws : List A) → 1 ≤ length ws → length ws < 2 → None ≡ asked_in (map f ws)
one_word f [] a b = absurd (omega (arith, a))
one_word f (x ∷ []) a b = refl
one_word f (x ∷ y ∷ ws) a b = absurd (omega (arith, b))

pub three_words : {A : Type 0} (f : A → List ℕ) (ws : List A) → 3 ≤ length ws → length ws < 4 → None ≡ asked_in (map f ws)
three_words f [] a b = absurd (omega (arith, a))
three_words f (x ∷ []) a b = absurd (omega (arith, a))
three_words f (x ∷ y ∷ []) a b = absurd (omega (arith, a))
three_words f (x ∷ y ∷ z ∷ []) a b = refl
three_words f (x ∷ y ∷ z ∷ w ∷ ws) a b = absurd (omega (arith, b))
