-- Orders, shifts, products and quotients of bits as numbers.
use Rattle.std.proofs.Common.{◌≡◌, ℕ, zero, suc, ◌+◌, ◌-◌, ◌*◌, ◌/◌, ◌%◌, ◌^◌, ◌<◌, ◌≤◌, Bool, true, false, not, List, [], ◌∷◌, ◌++◌, map, length, take, drop, replicate, refl, sym, ◌∙◌, ap, subst, arith, ◌⊎◌, inl, inr, length-append}
use Rattle.std.proofs.lemmas.Nat.{pow-add, mul-mod_first, shr-shr}
use Rattle.std.proofs.lemmas.List.{length-take, length-replicate, length-drop}
use Rattle.std.proofs.Math.Nat.{mod-eq_of_lt}
use Rattle.std.proofs.Math.Arith.{digits_div}
use Rattle.std.proofs.Math.Pow.{pow_mono}
use Rattle.word_terms.specs.Terms.{truth_word}
use Rattle.word_blast.specs.declared.gate.Gate.TheVariants as gate
use Rattle.word_blast.specs.Bits.{number, greatest, top_changed, moved_up, moved_down, each_value, barrel_value}
use Rattle.word_blast.proofs.Numbers.{truth_word-le, pow-double, pow-double-times, number-lt, mod-from, length-not, number-zeros, length-each-value, pick-true, pick-false}

-- words one behind the other
pub number-append : (xs ys : List Bool) → number (xs ++ ys) ≡ number xs + 2 ^ length xs * number ys
number-append [] ys = omega arith
number-append (x ∷ xs) ys = omega (arith, number-append xs ys, pow-double-times (length xs) (number ys))

-- the least bits and the others
pub number-split : (n : ℕ) (bs : List Bool) → n ≤ length bs → number (take n bs) + 2 ^ n * number (drop n bs) ≡ number bs
number-split zero bs h = omega arith
number-split (suc n) [] h = absurd (omega arith)
number-split (suc n) (b ∷ bs) h = omega (arith, number-split n bs (omega arith), pow-double-times n (number (drop n bs)))

pub number-take : (n : ℕ) (bs : List Bool) → n ≤ length bs → number (take n bs) ≡ number bs % 2 ^ n
number-take n bs h =
    let small : number (take n bs) < 2 ^ n =
    subst (λ m. number (take n bs) < 2 ^ m) (let e : length (take n bs) ≡ n = omega (arith, length-take n bs) in e) (number-lt (take n bs)) in
    sym (mod-from (2 ^ n) (number bs) (number (take n bs)) (number (drop n bs)) small (number-split n bs h))

pub number-drop : (n : ℕ) (bs : List Bool) → n ≤ length bs → number (drop n bs) ≡ number bs / 2 ^ n
number-drop n bs h =
    let small : number (take n bs) < 2 ^ n =
    subst (λ m. number (take n bs) < 2 ^ m) (let e : length (take n bs) ≡ n = omega (arith, length-take n bs) in e) (number-lt (take n bs)) in
    sym (ap (λ k. k / 2 ^ n) (let e : number bs ≡ number (drop n bs) * 2 ^ n + number (take n bs) = omega (arith, number-split n bs h) in e) ∙ digits_div (number (drop n bs)) small)

-- the greatest bit tells whether the number is in the upper half
pub greatest-tells : (d : Bool) (bs : List Bool) (w : ℕ) → length bs ≡ suc w → ((greatest d bs ≡ true) × (2 ^ w ≤ number bs)) ⊎ ((greatest d bs ≡ false) × (number bs < 2 ^ w))
greatest-tells d [] w e = absurd (omega arith)
greatest-tells d (true ∷ []) zero e = inl (refl, omega arith)
greatest-tells d (false ∷ []) zero e = inr (refl, omega arith)
greatest-tells d (b ∷ []) (suc w) e = absurd (omega arith)
greatest-tells d (b ∷ c ∷ cs) zero e = absurd (omega arith)
greatest-tells d (b ∷ c ∷ cs) (suc w) e =
    elim (greatest-tells b (c ∷ cs) w (omega arith)) as (λ _. ((greatest d (b ∷ c ∷ cs) ≡ true) × (2 ^ suc w ≤ number (b ∷ c ∷ cs))) ⊎ ((greatest d (b ∷ c ∷ cs) ≡ false) × (number (b ∷ c ∷ cs) < 2 ^ suc w))) [
      | inl h ↦ inl (h.0, omega (arith, h.1, pow-double w))
      | inr h ↦ inr (h.0, omega (arith, h.1, pow-double w, truth_word-le b))
    ]

pub length-top_changed : (bs : List Bool) → length (top_changed not bs) ≡ length bs
length-top_changed [] = refl
length-top_changed (b ∷ []) = refl
length-top_changed (b ∷ c ∷ cs) = ap suc (length-top_changed (c ∷ cs))

-- with the greatest bit flipped, the halves change places
pub number-top : (d : Bool) (bs : List Bool) (w : ℕ) → length bs ≡ suc w
    → ((2 ^ w ≤ number bs) × (number (top_changed not bs) + 2 ^ w ≡ number bs)) ⊎ ((number bs < 2 ^ w) × (number (top_changed not bs) ≡ number bs + 2 ^ w))
number-top d [] w e = absurd (omega arith)
number-top d (true ∷ []) zero e = inl (omega arith, refl)
number-top d (false ∷ []) zero e = inr (omega arith, refl)
number-top d (b ∷ []) (suc w) e = absurd (omega arith)
number-top d (b ∷ c ∷ cs) zero e = absurd (omega arith)
number-top d (b ∷ c ∷ cs) (suc w) e =
    elim (number-top b (c ∷ cs) w (omega arith)) as (λ _. ((2 ^ suc w ≤ number (b ∷ c ∷ cs)) × (number (top_changed not (b ∷ c ∷ cs)) + 2 ^ suc w ≡ number (b ∷ c ∷ cs))) ⊎ ((number (b ∷ c ∷ cs) < 2 ^ suc w) × (number (top_changed not (b ∷ c ∷ cs)) ≡ number (b ∷ c ∷ cs) + 2 ^ suc w))) [
      | inl h ↦ inl (omega (arith, h.0, pow-double w), omega (arith, h.1, pow-double w))
      | inr h ↦ inr (omega (arith, h.0, pow-double w, truth_word-le b), omega (arith, h.1, pow-double w))
    ]

-- moved up by n places
pub length-moved_up : (n : ℕ) (bs : List Bool) → length (moved_up false n bs) ≡ length bs
length-moved_up n bs = omega (arith, length-take (length bs) (replicate n false ++ bs), length-append (replicate n false) bs)

pub number-moved_up : (n : ℕ) (bs : List Bool) → number (moved_up false n bs) ≡ (number bs * 2 ^ n) % 2 ^ length bs
number-moved_up n bs =
    let long : length bs ≤ length (replicate n false ++ bs) = omega (arith, length-append (replicate n false) bs) in
    let whole : number (replicate n false ++ bs) ≡ number bs * 2 ^ n =
    number-append (replicate n false) bs ∙ ap (λ k. k + 2 ^ length (replicate n false) * number bs) (number-zeros n) ∙ ap (λ k. 0 + 2 ^ k * number bs) (length-replicate n false) ∙ omega arith in
    number-take (length bs) (replicate n false ++ bs) long ∙ ap (λ k. k % 2 ^ length bs) whole

-- moved down by n places with zeros above
pub length-moved_down : (s : Bool) (n : ℕ) (bs : List Bool) → length (moved_down s n bs) ≡ length bs
length-moved_down s n bs = omega (arith, length-take (length bs) (drop n bs ++ replicate n s), length-append (drop n bs) (replicate n s), length-drop n bs, length-replicate n s)

drop-past : (n : ℕ) (bs : List Bool) → length bs ≤ n → drop n bs ≡ []
drop-past zero [] h = refl
drop-past zero (b ∷ bs) h = absurd (omega arith)
drop-past (suc n) [] h = refl
drop-past (suc n) (b ∷ bs) h = drop-past n bs (omega arith)

take-front : (xs ys : List Bool) (n : ℕ) → length xs ≤ n → number (take n (xs ++ ys)) ≡ number xs + 2 ^ length xs * number (take (n - length xs) ys)
take-front [] ys n h = subst (λ m. number (take n ys) ≡ 0 + 1 * number (take m ys)) (let e : n ≡ n - 0 = omega arith in e) (omega arith)
take-front (x ∷ xs) ys zero h = absurd (omega arith)
take-front (x ∷ xs) ys (suc n) h =
    let e : n - length xs ≡ suc n - length (x ∷ xs) = omega arith in
    let ih : number (take n (xs ++ ys)) ≡ number xs + 2 ^ length xs * number (take (suc n - length (x ∷ xs)) ys) = take-front xs ys n (omega arith) ∙ ap (λ m. number xs + 2 ^ length xs * number (take m ys)) e in
    omega (arith, ih, pow-double-times (length xs) (number (take (suc n - length (x ∷ xs)) ys)))

take-zeros : (m n : ℕ) → number (take m (replicate n false)) ≡ 0
take-zeros zero n = refl
take-zeros (suc m) zero = refl
take-zeros (suc m) (suc n) = omega (arith, take-zeros m n)

small-div : (n m : ℕ) → n < m → n / m ≡ 0
small-div n m h = ap (λ k. k / m) (let e : n ≡ 0 * m + n = omega arith in e) ∙ digits_div 0 h

pub number-moved_down : (n : ℕ) (bs : List Bool) → number (moved_down false n bs) ≡ number bs / 2 ^ n
number-moved_down n bs =
    let long : length (drop n bs) ≤ length bs = omega (arith, length-drop n bs) in
    let front : number (moved_down false n bs) ≡ number (drop n bs) =
    take-front (drop n bs) (replicate n false) (length bs) long ∙ ap (λ k. number (drop n bs) + 2 ^ length (drop n bs) * k) (take-zeros (length bs - length (drop n bs)) n) ∙ omega arith in
    front ∙ by (within n (length bs))
  where
    within : (a b : ℕ) → (a ≤ b) ⊎ (b < a)
    within a b = grind arith

    by : (n ≤ length bs) ⊎ (length bs < n) → number (drop n bs) ≡ number bs / 2 ^ n
    by (inl h) = number-drop n bs h
    by (inr h) =
        let bound : 2 ^ length bs ≤ 2 ^ n = pow_mono {i = length bs} {j = n} (omega arith) in
        ap number (drop-past n bs (omega arith)) ∙ sym (small-div (number bs) (2 ^ n) (omega (arith, number-lt bs, bound)))

-- with ones above, the flips move with zeros above
not-append : (xs ys : List Bool) → map not (xs ++ ys) ≡ map not xs ++ map not ys
not-append [] ys = refl
not-append (x ∷ xs) ys = ap (λ zs. not x ∷ zs) (not-append xs ys)

not-take : (n : ℕ) (xs : List Bool) → map not (take n xs) ≡ take n (map not xs)
not-take zero xs = refl
not-take (suc n) [] = refl
not-take (suc n) (x ∷ xs) = ap (λ zs. not x ∷ zs) (not-take n xs)

not-drop : (n : ℕ) (xs : List Bool) → map not (drop n xs) ≡ drop n (map not xs)
not-drop zero xs = refl
not-drop (suc n) [] = refl
not-drop (suc n) (x ∷ xs) = not-drop n xs

not-replicate : (n : ℕ) (b : Bool) → map not (replicate n b) ≡ replicate n (not b)
not-replicate zero b = refl
not-replicate (suc n) b = ap (λ zs. not b ∷ zs) (not-replicate n b)

pub not-moved_down : (n : ℕ) (bs : List Bool) → map not (moved_down true n bs) ≡ moved_down false n (map not bs)
not-moved_down n bs =
    not-take (length bs) (drop n bs ++ replicate n true)
    ∙ ap (take (length bs)) (not-append (drop n bs) (replicate n true) ∙ ap (λ zs. zs ++ map not (replicate n true)) (not-drop n bs) ∙ ap (λ zs. drop n (map not bs) ++ zs) (not-replicate n true))
    ∙ ap (λ m. take m (drop n (map not bs) ++ replicate n false)) (sym (length-not bs))

not-pick : (xs ys : List Bool) (z : Bool) → map not (each_value gate.Pick xs ys z) ≡ each_value gate.Pick (map not xs) (map not ys) z
not-pick [] ys z = refl
not-pick (x ∷ xs) [] z = refl
not-pick (x ∷ xs) (y ∷ ys) true = ap (λ zs. not x ∷ zs) (not-pick xs ys true)
not-pick (x ∷ xs) (y ∷ ys) false = ap (λ zs. not y ∷ zs) (not-pick xs ys false)

pub not-barrel : (j : ℕ) (ys xs : List Bool) → map not (barrel_value (moved_down true) j ys xs) ≡ barrel_value (moved_down false) j ys (map not xs)
not-barrel j [] xs = refl
not-barrel j (y ∷ ys) xs =
    not-barrel (suc j) ys (each_value gate.Pick (moved_down true (2 ^ j) xs) xs y)
    ∙ ap (barrel_value (moved_down false) (suc j) ys) (not-pick (moved_down true (2 ^ j) xs) xs y ∙ ap (λ zs. each_value gate.Pick zs (map not xs) y) (not-moved_down (2 ^ j) xs))

-- a barrel moves by the number of the amount's bits
step : (j : ℕ) (y : Bool) (n : ℕ) → 2 ^ j * (truth_word y + 2 * n) ≡ 2 ^ j * truth_word y + 2 ^ suc j * n
step j y n = omega (arith, pow-double-times j n)

pub length-barrel : (s : Bool) (j : ℕ) (ys xs : List Bool) → length (barrel_value (moved_down s) j ys xs) ≡ length xs
length-barrel s j [] xs = refl
length-barrel s j (y ∷ ys) xs =
    length-barrel s (suc j) ys (each_value gate.Pick (moved_down s (2 ^ j) xs) xs y)
    ∙ length-each-value gate.Pick (moved_down s (2 ^ j) xs) xs y (sym (length-moved_down s (2 ^ j) xs)) ∙ length-moved_down s (2 ^ j) xs

pub number-barrel_up : (j : ℕ) (ys xs : List Bool) → number (barrel_value (moved_up false) j ys xs) ≡ (number xs * 2 ^ (2 ^ j * number ys)) % 2 ^ length xs
number-barrel_up j [] xs =
    let e : 2 ^ (2 ^ j * 0) ≡ 1 = ap (λ k. 2 ^ k) (let z : 2 ^ j * 0 ≡ 0 = omega arith in z) in
    sym (ap (λ k. (number xs * k) % 2 ^ length xs) e ∙ ap (λ k. k % 2 ^ length xs) (let o : number xs * 1 ≡ number xs = omega arith in o) ∙ mod-eq_of_lt (number-lt xs))
number-barrel_up j (true ∷ ys) xs =
    let us : List Bool = moved_up false (2 ^ j) xs in
    let picked : each_value gate.Pick us xs true ≡ us = pick-true us xs (sym (length-moved_up (2 ^ j) xs)) in
    let m : ℕ = 2 ^ length xs in
    let q : ℕ = 2 ^ (2 ^ suc j * number ys) in
    let powers : number xs * 2 ^ (2 ^ j) * q ≡ number xs * 2 ^ (2 ^ j * number (true ∷ ys)) =
    mul-assoc3 (number xs) (2 ^ (2 ^ j)) q ∙ ap (λ k. number xs * k) (sym (pow-add 2 (2 ^ j) (2 ^ suc j * number ys)) ∙ ap (λ k. 2 ^ k) (omega (arith, step j true (number ys)))) in
    ap (λ zs. number (barrel_value (moved_up false) (suc j) ys zs)) picked
    ∙ number-barrel_up (suc j) ys us
    ∙ ap (λ k. (number us * q) % 2 ^ k) (length-moved_up (2 ^ j) xs)
    ∙ ap (λ k. (k * q) % m) (number-moved_up (2 ^ j) xs)
    ∙ mul-mod_first (number xs * 2 ^ (2 ^ j)) q m
    ∙ ap (λ k. k % m) powers
  where
    mul-assoc3 : (a b c : ℕ) → a * b * c ≡ a * (b * c)
    mul-assoc3 a b c = omega arith
number-barrel_up j (false ∷ ys) xs =
    let us : List Bool = moved_up false (2 ^ j) xs in
    let picked : each_value gate.Pick us xs false ≡ xs = pick-false us xs (sym (length-moved_up (2 ^ j) xs)) in
    ap (λ zs. number (barrel_value (moved_up false) (suc j) ys zs)) picked
    ∙ number-barrel_up (suc j) ys xs
    ∙ ap (λ k. (number xs * 2 ^ k) % 2 ^ length xs) (omega (arith, step j false (number ys)))

pub number-barrel_down : (j : ℕ) (ys xs : List Bool) → number (barrel_value (moved_down false) j ys xs) ≡ number xs / 2 ^ (2 ^ j * number ys)
number-barrel_down j [] xs =
    let e : 2 ^ (2 ^ j * 0) ≡ 1 = ap (λ k. 2 ^ k) (let z : 2 ^ j * 0 ≡ 0 = omega arith in z) in
    sym (ap (λ k. number xs / k) e ∙ div-one (number xs))
  where
    div-one : (n : ℕ) → n / 1 ≡ n
    div-one n = ap (λ k. k / 1) (let e : n ≡ n * 1 + 0 = omega arith in e) ∙ digits_div n (let h : 0 < 1 = omega arith in h)
number-barrel_down j (true ∷ ys) xs =
    let us : List Bool = moved_down false (2 ^ j) xs in
    let picked : each_value gate.Pick us xs true ≡ us = pick-true us xs (sym (length-moved_down false (2 ^ j) xs)) in
    ap (λ zs. number (barrel_value (moved_down false) (suc j) ys zs)) picked
    ∙ number-barrel_down (suc j) ys us
    ∙ ap (λ k. k / 2 ^ (2 ^ suc j * number ys)) (number-moved_down (2 ^ j) xs)
    ∙ shr-shr (number xs) (2 ^ j) (2 ^ suc j * number ys)
    ∙ ap (λ k. number xs / 2 ^ k) (omega (arith, step j true (number ys)))
number-barrel_down j (false ∷ ys) xs =
    let us : List Bool = moved_down false (2 ^ j) xs in
    let picked : each_value gate.Pick us xs false ≡ xs = pick-false us xs (sym (length-moved_down false (2 ^ j) xs)) in
    ap (λ zs. number (barrel_value (moved_down false) (suc j) ys zs)) picked
    ∙ number-barrel_down (suc j) ys xs
    ∙ ap (λ k. number xs / 2 ^ k) (omega (arith, step j false (number ys)))
