-- A loop over clauses, each of which stands behind a space.
use Rattle.std.proofs.Common.{◌≡◌, ℕ, ◌+◌, ◌-◌, ◌<◌, ◌≤◌, List, [], ◌∷◌, ◌++◌, map, length, get_or, take, drop, sym, ap, ◌∙◌, append_assoc, arith}
use Rattle.std.proofs.lemmas.List.{at_drop_more, take_rest}
use Rattle.std.specs.Prelude.{codes}
use Rattle.c0_layout.specs.Lists.{spaced_text, joined_text}

-- with one more of them behind the text, the others are left
pub spaced_step : {A B C : Type 0} (f : C → List ℕ) (g : B → C) (h : A → B) (xs : List A) (i : ℕ) (x : A) (text all spaced pushed : List ℕ)
    → i < length xs → x ≡ get_or xs i x
    → text ++ spaced_text f (map g (map h (drop i xs))) ≡ all
    → spaced ≡ text ++ codes " " → pushed ≡ spaced ++ f (g (h x))
    → pushed ++ spaced_text f (map g (map h (drop (i + 1) xs))) ≡ all
spaced_step {A} {B} {C} f g h xs i x text all spaced pushed l e before p q =
    let F : List A → List ℕ = λ ys. spaced_text f (map g (map h ys)) in
    let left : List ℕ = F (drop (i + 1) xs) in
    let y : List ℕ = f (g (h x)) in
    let here : F (drop i xs) ≡ F (get_or xs i x ∷ drop (i + 1) xs) = at_drop_more F xs i x l in
    let same : F (get_or xs i x ∷ drop (i + 1) xs) ≡ codes " " ++ (y ++ left) = ap (λ z. F (z ∷ drop (i + 1) xs)) (sym e) in
    ap (λ t. t ++ left) (q ∙ ap (λ t. t ++ y) p ∙ append_assoc text (codes " ") y)
    ∙ append_assoc text (codes " " ++ y) left
    ∙ ap (λ t. text ++ t) (sym (here ∙ same))
    ∙ before

-- the first of them, and the others behind it
pub joined_cons : {A B C : Type 0} (f : C → List ℕ) (g : B → C) (h : A → B) (xs : List A) (x : A)
    → 1 ≤ length xs → x ≡ get_or xs 0 x
    → joined_text f (map g (map h xs)) ≡ f (g (h x)) ++ spaced_text f (map g (map h (take (length xs - 1) (drop 1 xs))))
joined_cons f g h [] x l e = let n : ⊥ = omega arith in absurd n
joined_cons f g h (y ∷ ys) x l e =
    let all : take (length (y ∷ ys) - 1) (drop 1 (y ∷ ys)) ≡ ys = take_rest (y ∷ ys) 1 in
    ap (λ z. f (g (h z)) ++ spaced_text f (map g (map h ys))) (sym e)
    ∙ ap (λ zs. f (g (h x)) ++ spaced_text f (map g (map h zs))) (sym all)
