-- Rows from an ordinal on, as one of them is set.
use Rattle.std.proofs.Common.{◌≡◌, ℕ, zero, suc, ◌+◌, ◌≤◌, ◌∷◌, Some, None, set, replicate, refl, ap, ◌∙◌, arith}
use Rattle.std.specs.Prelude.{slice_get}
use Rattle.core_tree.specs.declared.SiteAt.{SiteAt}
use Rattle.core_tables.specs.SiteTables.{rows_from}

-- rows that are alike from an ordinal on
pub rows_same : (f g : ℕ → SiteAt) (n k : ℕ) → ((j : ℕ) → n ≤ j → f j ≡ g j) → rows_from f n k ≡ rows_from g n k
rows_same f g n zero same = refl
rows_same f g n (suc k) same =
    ap (λ x. x ∷ rows_from f (suc n) k) (same n (omega arith)) ∙ ap (λ xs. g n ∷ xs) (rows_same f g (suc n) k (λ j le. same j (omega arith)))

-- the row that was read
pub row_read : (f : ℕ → SiteAt) (n k m at : ℕ) (x : SiteAt) → at ≡ n + m → slice_get (rows_from f n k) m ≡ Some x → f at ≡ x
row_read f n zero m at x e found = cc
row_read f n (suc k) zero at x e found =
    let here : at ≡ n = omega arith in
    ap f here ∙ cc
row_read f n (suc k) (suc m) at x e found = row_read f (suc n) k m at x (omega arith) found

-- the row at one ordinal is set, and the others are as they were
pub row_set : (f g : ℕ → SiteAt) (n k m at : ℕ) (x : SiteAt) → at ≡ n + m → x ≡ g at → ((j : ℕ) → (j ≡ at → ⊥) → f j ≡ g j) → set (rows_from f n k) m x ≡ rows_from g n k
row_set f g n zero m at x e is others = refl
row_set f g n (suc k) zero at x e is others =
    let here : at ≡ n = omega arith in
    ap (λ y. y ∷ rows_from f (suc n) k) (is ∙ ap g here) ∙ ap (λ xs. g n ∷ xs) (rows_same f g (suc n) k (λ j le. others j (λ same. omega arith)))
row_set f g n (suc k) (suc m) at x e is others =
    ap (λ y. y ∷ set (rows_from f (suc n) k) m x) (others n (λ same. omega arith)) ∙ ap (λ xs. g n ∷ xs) (row_set f g (suc n) k m at x (omega arith) is others)

-- there is no such row, and so all are as they were
pub row_past : (f g : ℕ → SiteAt) (n k m at : ℕ) → at ≡ n + m → slice_get (rows_from f n k) m ≡ None → ((j : ℕ) → (j ≡ at → ⊥) → f j ≡ g j) → rows_from f n k ≡ rows_from g n k
row_past f g n zero m at e none others = refl
row_past f g n (suc k) zero at e none others = cc
row_past f g n (suc k) (suc m) at e none others =
    ap (λ y. y ∷ rows_from f (suc n) k) (others n (λ same. omega arith)) ∙ ap (λ xs. g n ∷ xs) (row_past f g (suc n) k m at (omega arith) none others)

-- rows that are all one
pub rows_alike : (x : SiteAt) (n k : ℕ) → replicate k x ≡ rows_from (λ j. x) n k
rows_alike x n zero = refl
rows_alike x n (suc k) = ap (λ xs. x ∷ xs) (rows_alike x (suc n) k)
