-- A capped product is that of capped factors.
use Rattle.std.proofs.Common.{◌≡◌, ℕ, zero, suc, ◌*◌, ◌<◌, ◌≤◌, ◌⊎◌, inl, inr, ap, ◌∙◌, arith}
use Rattle.std.specs.Prelude.{min}
use Rattle.std.proofs.Math.Nat.{eq-or-lt_of_le, le-mul_of_pos_right, mul-le-mul_right, min-le_left, mul_comm}

factor_capped : (m a x k : ℕ) → a ≡ min x m → (min x m ≡ x) ⊎ (min x m < x) → min (a * suc k) m ≡ min (x * suc k) m
factor_capped m a x k f (inl e) = ap (λ n. min (n * suc k) m) (f ∙ e)
factor_capped m a x k f (inr lt) =
    let all : a ≡ m = omega arith in
    let most : m ≤ m * suc k = le-mul_of_pos_right m (omega arith) in
    let more : m * suc k ≤ x * suc k = mul-le-mul_right (suc k) (omega arith) in
    let both : min (m * suc k) m ≡ min (x * suc k) m = omega arith in
    ap (λ n. min (n * suc k) m) all ∙ both

left_capped : (m a x y : ℕ) → a ≡ min x m → min (a * y) m ≡ min (x * y) m
left_capped m a x zero f = omega arith
left_capped m a x (suc k) f = factor_capped m a x k f (eq-or-lt_of_le (min-le_left x m))

pub product_capped : (m a b x y : ℕ) → a ≡ min x m → b ≡ min y m → min (a * b) m ≡ min (x * y) m
product_capped m a b x y f g =
    left_capped m a x b f
    ∙ ap (λ n. min n m) (mul_comm x b)
    ∙ left_capped m b y x g
    ∙ ap (λ n. min n m) (mul_comm y x)
