-- Products and quotients of bits as numbers, and the signed order.
use Rattle.std.proofs.Common.{◌≡◌, ℕ, zero, suc, ◌+◌, ◌-◌, ◌*◌, ◌/◌, ◌%◌, ◌^◌, ◌<◌, ◌≤◌, Bool, true, false, not, if◌then◌else◌, List, [], ◌∷◌, ◌++◌, map, length, take, replicate, refl, sym, ◌∙◌, ap, subst, arith, ◌⊎◌, inl, inr, length-append}
use Rattle.std.proofs.lemmas.List.{length-take, length-replicate}
use Rattle.std.proofs.Math.Nat.{mod-eq_of_lt, add-mul-mod_self_left, div-add-mod}
use Rattle.std.proofs.Math.Arith.{digits_div, digits_mod}
use Rattle.std.proofs.lemmas.Int.{ints}
use Rattle.gc0_base.specs.Words.{word_less}
use Rattle.word_terms.specs.Terms.{truth_word}
use Rattle.word_blast.specs.declared.gate.Gate.TheVariants as gate
use Rattle.word_blast.specs.Bits.{number, each_value, sum_value, carry_value, product_value, rest_value, quotient_value, signed_value}
use Rattle.word_blast.proofs.Numbers.{truth_word-le, pow-double-times, number-lt, length-sum, number-sum, number-sum-mod, carry-tells, number-not, length-not, number-zeros, length-each-value, pick-true, pick-false}
use Rattle.word_blast.proofs.Moved.{number-append, number-take}

-- a word where a bit is true, and else zeros
pub and-ones : (xs : List Bool) (n : ℕ) (z : Bool) → n ≡ length xs → each_value gate.And xs (replicate n true) z ≡ xs
and-ones [] zero z e = refl
and-ones [] (suc n) z e = absurd (omega arith)
and-ones (x ∷ xs) zero z e = absurd (omega arith)
and-ones (true ∷ xs) (suc n) z e = ap (λ ys. true ∷ ys) (and-ones xs n z (omega arith))
and-ones (false ∷ xs) (suc n) z e = ap (λ ys. false ∷ ys) (and-ones xs n z (omega arith))

pub and-zeros : (xs : List Bool) (n : ℕ) (z : Bool) → n ≡ length xs → each_value gate.And xs (replicate n false) z ≡ replicate n false
and-zeros [] zero z e = refl
and-zeros [] (suc n) z e = absurd (omega arith)
and-zeros (x ∷ xs) zero z e = absurd (omega arith)
and-zeros (true ∷ xs) (suc n) z e = ap (λ ys. false ∷ ys) (and-zeros xs n z (omega arith))
and-zeros (false ∷ xs) (suc n) z e = ap (λ ys. false ∷ ys) (and-zeros xs n z (omega arith))

pub length-product_value : (xs ys : List Bool) → length ys ≤ length xs → length (product_value xs ys) ≡ length ys
length-product_value xs [] h = refl
length-product_value xs (y ∷ ys) h =
    let us : List Bool = take (suc (length ys)) xs in
    let ul : length us ≡ suc (length ys) = omega (arith, length-take (suc (length ys)) xs) in
    let rl : length (each_value gate.And us (replicate (suc (length ys)) y) false) ≡ length us = length-each-value gate.And us (replicate (suc (length ys)) y) false (length-replicate (suc (length ys)) y ∙ sym ul) in
    let hl : length (product_value xs ys) ≡ length ys = length-product_value xs ys (omega arith) in
    length-sum (false ∷ product_value xs ys) (each_value gate.And us (replicate (suc (length ys)) y) false) false (omega arith) ∙ ap suc hl

-- one row of a product
row-is : (x y n r a : ℕ) (b : Bool) → r ≡ (x * y) % 2 ^ n → a ≡ truth_word b * (x % 2 ^ suc n) → (0 + 2 * r + a + 0) % 2 ^ suc n ≡ (x * (truth_word b + 2 * y)) % 2 ^ suc n
row-is x y n r a true re ae =
    let q : ℕ = x * y / 2 ^ n in
    let p : ℕ = x / 2 ^ suc n in
    let low : 2 ^ n * q + x * y % 2 ^ n ≡ x * y = div-add-mod (x * y) (2 ^ n) in
    let all : 2 ^ suc n * p + x % 2 ^ suc n ≡ x = div-add-mod x (2 ^ suc n) in
    let e : 0 + 2 * r + a + 0 + 2 ^ suc n * (p + q) ≡ x * (1 + 2 * y) = omega (arith, re, ae, low, all, pow-double-times n q) in
    sym (add-mul-mod_self_left (0 + 2 * r + a + 0) (2 ^ suc n) (p + q)) ∙ ap (λ k. k % 2 ^ suc n) e
row-is x y n r a false re ae =
    let q : ℕ = x * y / 2 ^ n in
    let low : 2 ^ n * q + x * y % 2 ^ n ≡ x * y = div-add-mod (x * y) (2 ^ n) in
    let e : 0 + 2 * r + a + 0 + 2 ^ suc n * q ≡ x * (0 + 2 * y) = omega (arith, re, ae, low, pow-double-times n q) in
    sym (add-mul-mod_self_left (0 + 2 * r + a + 0) (2 ^ suc n) q) ∙ ap (λ k. k % 2 ^ suc n) e

pub number-product : (xs ys : List Bool) → length ys ≤ length xs → number (product_value xs ys) ≡ (number xs * number ys) % 2 ^ length ys
number-product xs [] h = sym (ap (λ k. k % 1) (let e : number xs * 0 ≡ 0 = omega arith in e))
number-product xs (y ∷ ys) h =
    let n : ℕ = length ys in
    let us : List Bool = take (suc n) xs in
    let ul : length us ≡ suc n = omega (arith, length-take (suc n) xs) in
    let row : List Bool = each_value gate.And us (replicate (suc n) y) false in
    let rl : length row ≡ suc n = length-each-value gate.And us (replicate (suc n) y) false (length-replicate (suc n) y ∙ sym ul) ∙ ul in
    let high : List Bool = product_value xs ys in
    let hl : length high ≡ n = length-product_value xs ys (omega arith) in
    let ih : number high ≡ (number xs * number ys) % 2 ^ n = number-product xs ys (omega arith) in
    number-sum-mod (false ∷ high) row false (rl ∙ ap suc (sym hl))
    ∙ ap (λ k. (0 + 2 * number high + number row + 0) % 2 ^ k) (ap suc hl)
    ∙ row-is (number xs) (number ys) n (number high) (number row) y ih (masked y ul)
  where
    masked : (b : Bool) → length (take (suc (length ys)) xs) ≡ suc (length ys) → number (each_value gate.And (take (suc (length ys)) xs) (replicate (suc (length ys)) b) false) ≡ truth_word b * (number xs % 2 ^ suc (length ys))
    masked true ul =
        ap number (and-ones (take (suc (length ys)) xs) (suc (length ys)) false (sym ul)) ∙ number-take (suc (length ys)) xs h ∙ omega arith
    masked false ul =
        ap number (and-zeros (take (suc (length ys)) xs) (suc (length ys)) false (sym ul)) ∙ number-zeros (suc (length ys)) ∙ omega arith

-- division without signs
pub length-rest : (xs ys : List Bool) → length (rest_value xs ys) ≡ length ys
length-rest [] ys = length-replicate (length ys) false
length-rest (x ∷ xs) ys =
    let w : ℕ = length ys in
    let r : List Bool = x ∷ rest_value xs ys in
    let s : List Bool = map not (ys ++ false ∷ []) in
    let rl : length r ≡ suc w = ap suc (length-rest xs ys) in
    let sl : length s ≡ length r = omega (arith, length-not (ys ++ false ∷ []), length-append ys (false ∷ [])) in
    let ul : length (take w (sum_value r s true)) ≡ w = omega (arith, length-take w (sum_value r s true), length-sum r s true sl) in
    let vl : length (take w r) ≡ w = omega (arith, length-take w r) in
    length-each-value gate.Pick (take w (sum_value r s true)) (take w r) (carry_value r s true) (vl ∙ sym ul) ∙ ul

pub length-quotient_value : (xs ys : List Bool) → length (quotient_value xs ys) ≡ length xs
length-quotient_value [] ys = refl
length-quotient_value (x ∷ xs) ys = ap suc (length-quotient_value xs ys)

-- the quotient and the rest of a number
pub record DividesBy (x y q r : ℕ) : Type 0 where
  pub small : r < y
  pub whole : q * y + r ≡ x

pub divides : (xs ys : List Bool) → 0 < number ys → DividesBy (number xs) (number ys) (number (quotient_value xs ys)) (number (rest_value xs ys))
divides [] ys h = record { small = omega (arith, number-zeros (length ys)); whole = omega (arith, number-zeros (length ys)) }
divides (x ∷ xs) ys h =
    let w : ℕ = length ys in
    let y : ℕ = number ys in
    let r : List Bool = x ∷ rest_value xs ys in
    let s : List Bool = map not (ys ++ false ∷ []) in
    let rl : length r ≡ suc w = ap suc (length-rest xs ys) in
    let sl : length s ≡ length r = omega (arith, length-not (ys ++ false ∷ []), length-append ys (false ∷ [])) in
    let al : length (ys ++ false ∷ []) ≡ suc w = omega (arith, length-append ys (false ∷ [])) in
    let sn : number s + y + 1 ≡ 2 ^ suc w =
    omega (arith, number-not (ys ++ false ∷ []), number-append ys (false ∷ []), ap (λ n. 2 ^ n) al) in
    let ih : DividesBy (number xs) y (number (quotient_value xs ys)) (number (rest_value xs ys)) = divides xs ys h in
    let us : List Bool = take w (sum_value r s true) in
    let vs : List Bool = take w r in
    let sul : length (sum_value r s true) ≡ suc w = length-sum r s true sl ∙ rl in
    let ul : length us ≡ w = omega (arith, length-take w (sum_value r s true)) in
    let vl : length vs ≡ w = omega (arith, length-take w r) in
    let yw : y < 2 ^ w = number-lt ys in
    let total : number (sum_value r s true) + 2 ^ suc w * truth_word (carry_value r s true) ≡ number r + number s + 1 = ap (λ n. number (sum_value r s true) + 2 ^ n * truth_word (carry_value r s true)) (sym rl) ∙ number-sum r s true sl in
    let q : ℕ = number (quotient_value xs ys) in
    let spread : (1 + 2 * q) * y ≡ y + 2 * (q * y) = omega arith in
    let doubled : (0 + 2 * q) * y ≡ 2 * (q * y) = omega arith in
    elim (carry-tells r s true sl) as (λ _. DividesBy (number (x ∷ xs)) y (truth_word (carry_value r s true) + 2 * q) (number (each_value gate.Pick us vs (carry_value r s true)))) [
      | inl c ↦
          let over : number (sum_value r s true) + y ≡ number r = omega (arith, total, sn, ap (λ b. 2 ^ suc w * truth_word b) c.0) in
          let kept : number us ≡ number (sum_value r s true) = number-take w (sum_value r s true) (omega arith) ∙ mod-eq_of_lt (let t : number (sum_value r s true) < 2 ^ w = omega (arith, ih.small, truth_word-le x) in t) in
          let picked : number (each_value gate.Pick us vs (carry_value r s true)) ≡ number us = ap (λ b. number (each_value gate.Pick us vs b)) c.0 ∙ ap number (pick-true us vs (vl ∙ sym ul)) in
          let bit : truth_word (carry_value r s true) ≡ 1 = ap truth_word c.0 in
          subst (λ n. DividesBy (number (x ∷ xs)) y (n + 2 * q) (number (each_value gate.Pick us vs (carry_value r s true)))) (sym bit)
          (record { small = omega (arith, picked, kept, over, ih.small, truth_word-le x); whole = omega (arith, picked, kept, over, ih.whole, spread) })
      | inr c ↦
          let under : number r < y = omega (arith, c.1, sn, ap (λ n. 2 ^ n) rl) in
          let kept : number vs ≡ number r = number-take w r (omega arith) ∙ mod-eq_of_lt (let t : number r < 2 ^ w = omega arith in t) in
          let picked : number (each_value gate.Pick us vs (carry_value r s true)) ≡ number vs = ap (λ b. number (each_value gate.Pick us vs b)) c.0 ∙ ap number (pick-false us vs (vl ∙ sym ul)) in
          let bit : truth_word (carry_value r s true) ≡ 0 = ap truth_word c.0 in
          subst (λ n. DividesBy (number (x ∷ xs)) y (n + 2 * q) (number (each_value gate.Pick us vs (carry_value r s true)))) (sym bit)
          (record { small = omega (arith, picked, kept, under); whole = omega (arith, picked, kept, ih.whole, doubled) })
    ]

pub number-quotient : (xs ys : List Bool) → 0 < number ys → number (quotient_value xs ys) ≡ number xs / number ys
number-quotient xs ys h = let d : DividesBy (number xs) (number ys) (number (quotient_value xs ys)) (number (rest_value xs ys)) = divides xs ys h in sym (ap (λ k. k / number ys) (sym d.whole) ∙ digits_div (number (quotient_value xs ys)) d.small)

pub number-rest : (xs ys : List Bool) → 0 < number ys → number (rest_value xs ys) ≡ number xs % number ys
number-rest xs ys h = let d : DividesBy (number xs) (number ys) (number (quotient_value xs ys)) (number (rest_value xs ys)) = divides xs ys h in sym (ap (λ k. k % number ys) (sym d.whole) ∙ digits_mod (number (quotient_value xs ys)) d.small)

-- a sign
xor-ones : (xs : List Bool) (n : ℕ) (z : Bool) → n ≡ length xs → each_value gate.Xor xs (replicate n true) z ≡ map not xs
xor-ones [] zero z e = refl
xor-ones [] (suc n) z e = absurd (omega arith)
xor-ones (x ∷ xs) zero z e = absurd (omega arith)
xor-ones (true ∷ xs) (suc n) z e = ap (λ ys. false ∷ ys) (xor-ones xs n z (omega arith))
xor-ones (false ∷ xs) (suc n) z e = ap (λ ys. true ∷ ys) (xor-ones xs n z (omega arith))

xor-zeros : (xs : List Bool) (n : ℕ) (z : Bool) → n ≡ length xs → each_value gate.Xor xs (replicate n false) z ≡ xs
xor-zeros [] zero z e = refl
xor-zeros [] (suc n) z e = absurd (omega arith)
xor-zeros (x ∷ xs) zero z e = absurd (omega arith)
xor-zeros (true ∷ xs) (suc n) z e = ap (λ ys. true ∷ ys) (xor-zeros xs n z (omega arith))
xor-zeros (false ∷ xs) (suc n) z e = ap (λ ys. false ∷ ys) (xor-zeros xs n z (omega arith))

pub length-signed_value : (s : Bool) (xs : List Bool) → length (signed_value s xs) ≡ length xs
length-signed_value s xs =
    let f : List Bool = each_value gate.Xor xs (replicate (length xs) s) false in
    let fl : length f ≡ length xs = length-each-value gate.Xor xs (replicate (length xs) s) false (length-replicate (length xs) s) in
    length-sum (replicate (length xs) false) f s (fl ∙ sym (length-replicate (length xs) false)) ∙ length-replicate (length xs) false

pub number-signed : (s : Bool) (xs : List Bool) → number (signed_value s xs) ≡ (if s then (2 ^ length xs - number xs) % 2 ^ length xs else number xs)
number-signed s xs =
    let w : ℕ = length xs in
    let f : List Bool = each_value gate.Xor xs (replicate w s) false in
    let fl : length f ≡ w = length-each-value gate.Xor xs (replicate w s) false (length-replicate w s) in
    number-sum-mod (replicate w false) f s (fl ∙ sym (length-replicate w false))
    ∙ ap (λ n. (number (replicate w false) + number f + truth_word s) % 2 ^ n) (length-replicate w false)
    ∙ ap (λ n. (n + number f + truth_word s) % 2 ^ w) (number-zeros w)
    ∙ by s
  where
    by : (b : Bool) → (0 + number (each_value gate.Xor xs (replicate (length xs) b) false) + truth_word b) % 2 ^ length xs ≡ (if b then (2 ^ length xs - number xs) % 2 ^ length xs else number xs)
    by true =
        ap (λ ys. (0 + number ys + 1) % 2 ^ length xs) (xor-ones xs (length xs) false refl)
        ∙ ap (λ n. n % 2 ^ length xs) (let e : 0 + number (map not xs) + 1 ≡ 2 ^ length xs - number xs = omega (arith, number-not xs) in e)
    by false =
        ap (λ ys. (0 + number ys + 0) % 2 ^ length xs) (xor-zeros xs (length xs) false refl)
        ∙ ap (λ n. n % 2 ^ length xs) (let e : 0 + number xs + 0 ≡ number xs = omega arith in e) ∙ mod-eq_of_lt (number-lt xs)

-- the order of words of 32 bits is that of their numbers with the greatest bits flipped
pub less-by-halves : (a b x y : ℕ) → a < 2 ^ 32 → b < 2 ^ 32
    → ((2 ^ 31 ≤ a) × (x + 2 ^ 31 ≡ a)) ⊎ ((a < 2 ^ 31) × (x ≡ a + 2 ^ 31)) → ((2 ^ 31 ≤ b) × (y + 2 ^ 31 ≡ b)) ⊎ ((b < 2 ^ 31) × (y ≡ b + 2 ^ 31))
    → ((y ≤ x) × (word_less a b ≡ false)) ⊎ ((x < y) × (word_less a b ≡ true))
less-by-halves a b x y ah bh p q = grind (arith, ints)
