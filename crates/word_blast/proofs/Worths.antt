-- What each operator's bits are worth is the operator of what its parts are worth.
use Rattle.std.proofs.Common.{◌≡◌, ◌≢◌, ℕ, ◌+◌, ◌-◌, ◌*◌, ◌/◌, ◌%◌, ◌^◌, ◌<◌, ◌≤◌, Bool, true, false, not, if◌then◌else◌, eqb, List, [], ◌∷◌, map, length, take, replicate, refl, sym, ◌∙◌, ap, subst, arith, ◌⊎◌, inl, inr}
use Rattle.std.proofs.lemmas.List.{length-replicate}
use Rattle.std.proofs.lemmas.Bool.{lt-ltb, le-ltb}
use Rattle.std.proofs.lemmas.Bool.Decides.{eqb_tells}
use Rattle.std.proofs.Math.Nat.{mod-eq_of_lt}
use Rattle.gc0_base.specs.Words.{word_sum, word_difference, word_product, word_quotient, word_remainder, word_negation, word_complement, word_less, word_left, word_right, word_magnitude, is_negative, with_sign}
use Rattle.gc0_base.specs.Words.{differ as signs_differ}
use Rattle.word_terms.specs.Terms.{truth_word, flipped, binary_value, chosen_value}
use Rattle.word_terms.specs.declared.node.Op2.TheVariants as op2
use Rattle.word_blast.specs.declared.gate.Gate.TheVariants as gate
use Rattle.word_blast.specs.Gates.{differ}
use Rattle.word_blast.specs.Bits.{number, greatest, least, top_changed, moved_up, moved_down, each_value, sum_value, carry_value, all_value, barrel_value, product_value, rest_value, quotient_value, signed_value}
use Rattle.word_blast.proofs.Numbers.{number-lt, number-sum-mod, carry-tells, number-not, length-not, not-not, number-zeros, pick-true, pick-false, all-same}
use Rattle.word_blast.proofs.Moved.{number-take, greatest-tells, number-top, length-top_changed, not-barrel, number-barrel_up, number-barrel_down, length-barrel}
use Rattle.word_blast.proofs.Products.{and-ones, and-zeros, number-product, number-quotient, number-rest, length-rest, length-quotient_value, length-signed_value, number-signed, less-by-halves}
use Rattle.word_blast.proofs.Signed.{magnitude_value, unless_zero, signed_quotient, signed_remainder}

-- words of 32 bits
module _ (xs ys : List Bool) (xl : length xs ≡ 32) (yl : length ys ≡ 32) where
  even : length ys ≡ length xs
  even = yl ∙ sym xl

  xs-lt : number xs < 2 ^ 32
  xs-lt = subst (λ n. number xs < 2 ^ n) xl (number-lt xs)

  ys-lt : number ys < 2 ^ 32
  ys-lt = subst (λ n. number ys < 2 ^ n) yl (number-lt ys)

  pub sum-worth : number (sum_value xs ys false) ≡ word_sum (number xs) (number ys)
  sum-worth = number-sum-mod xs ys false even ∙ ap (λ n. (number xs + number ys + 0) % 2 ^ n) xl ∙ ap (λ n. n % 2 ^ 32) (let e : number xs + number ys + 0 ≡ number xs + number ys = omega arith in e)

  pub difference-worth : number (sum_value xs (map not ys) true) ≡ word_difference (number xs) (number ys)
  difference-worth =
      number-sum-mod xs (map not ys) true (length-not ys ∙ even) ∙ ap (λ n. (number xs + number (map not ys) + 1) % 2 ^ n) xl
      ∙ ap (λ n. n % 2 ^ 32) (let e : number xs + number (map not ys) + 1 ≡ number xs + (2 ^ 32 - number ys) = omega (arith, number-not ys, ap (λ n. 2 ^ n) yl) in e)

  pub product-worth : number (product_value xs ys) ≡ word_product (number xs) (number ys)
  product-worth = number-product xs ys (omega arith) ∙ ap (λ n. (number xs * number ys) % 2 ^ n) yl

  -- the carry of a difference tells that there is none to borrow
  pub less-worth : number (not (carry_value (top_changed not xs) (map not (top_changed not ys)) true) ∷ []) ≡ truth_word (word_less (number xs) (number ys))
  less-worth =
      let us : List Bool = top_changed not xs in
      let vs : List Bool = top_changed not ys in
      let ul : length us ≡ 32 = length-top_changed xs ∙ xl in
      let vl : length vs ≡ 32 = length-top_changed ys ∙ yl in
      let flips : number (map not vs) + number vs + 1 ≡ 2 ^ 32 = number-not vs ∙ ap (λ n. 2 ^ n) vl in
      let c : Bool = carry_value us (map not vs) true in
      let long : length (map not vs) ≡ length us = length-not vs ∙ vl ∙ sym ul in
      let width : 2 ^ length us ≡ 2 ^ 32 = ap (λ n. 2 ^ n) ul in
      let order : ((number vs ≤ number us) × (word_less (number xs) (number ys) ≡ false)) ⊎ ((number us < number vs) × (word_less (number xs) (number ys) ≡ true)) =
      less-by-halves (number xs) (number ys) (number us) (number vs) xs-lt ys-lt (number-top false xs 31 xl) (number-top false ys 31 yl) in
      let same : not c ≡ word_less (number xs) (number ys) =
      elim (carry-tells us (map not vs) true long) as (λ _. not c ≡ word_less (number xs) (number ys)) [
        | inl h ↦ elim order as (λ _. not c ≡ word_less (number xs) (number ys)) [
          | inl o ↦ ap not h.0 ∙ sym o.1
          | inr o ↦ absurd (omega (arith, h.1, o.0, flips, width))
        ]
        | inr h ↦ elim order as (λ _. not c ≡ word_less (number xs) (number ys)) [
          | inl o ↦ absurd (omega (arith, h.1, o.0, flips, width))
          | inr o ↦ ap not h.0 ∙ sym o.1
        ]
      ] in
      (let e : truth_word (not c) + 2 * 0 ≡ truth_word (not c) = omega arith in e) ∙ ap truth_word same

  -- an amount modulo 32
  amount : number (take 5 ys) ≡ number ys % 32
  amount = number-take 5 ys (omega arith)

  pub left-worth : number (barrel_value (moved_up false) 0 (take 5 ys) xs) ≡ word_left (number xs) (number ys % 32)
  left-worth =
      number-barrel_up 0 (take 5 ys) xs ∙ ap (λ n. (number xs * 2 ^ (1 * number (take 5 ys))) % 2 ^ n) xl
      ∙ ap (λ n. (number xs * 2 ^ n) % 2 ^ 32) (let e : 1 * number (take 5 ys) ≡ number ys % 32 = omega (arith, amount) in e)

  down-worth : (us : List Bool) → number (barrel_value (moved_down false) 0 (take 5 ys) us) ≡ number us / 2 ^ (number ys % 32)
  down-worth us = number-barrel_down 0 (take 5 ys) us ∙ ap (λ n. number us / 2 ^ n) (let e : 1 * number (take 5 ys) ≡ number ys % 32 = omega (arith, amount) in e)

  -- the complement of the bits
  complement-worth : (us : List Bool) → length us ≡ 32 → number (map not us) ≡ word_complement (number us)
  complement-worth us ul = omega (arith, number-not us, ap (λ n. 2 ^ n) ul)

  pub right-worth : number (barrel_value (moved_down (greatest false xs)) 0 (take 5 ys) xs) ≡ word_right (number xs) (number ys % 32)
  right-worth = elim (greatest-tells false xs 31 xl) as (λ _. number (barrel_value (moved_down (greatest false xs)) 0 (take 5 ys) xs) ≡ word_right (number xs) (number ys % 32)) [
    | inl h ↦
        let negative : is_negative (number xs) ≡ true = ap not (le-ltb (number xs) (2 ^ 31) h.1) in
        let moved : List Bool = barrel_value (moved_down true) 0 (take 5 ys) xs in
        let ml : length moved ≡ 32 = length-barrel true 0 (take 5 ys) xs ∙ xl in
        let back : map not moved ≡ barrel_value (moved_down false) 0 (take 5 ys) (map not xs) = not-barrel 0 (take 5 ys) xs in
        ap (λ b. number (barrel_value (moved_down b) 0 (take 5 ys) xs)) h.0
        ∙ sym (ap number (not-not moved))
        ∙ complement-worth (map not moved) (length-not moved ∙ ml)
        ∙ ap (λ us. word_complement (number us)) back
        ∙ ap word_complement (down-worth (map not xs) ∙ ap (λ n. n / 2 ^ (number ys % 32)) (complement-worth xs xl))
        ∙ sym (ap (λ b. if b then word_complement (word_complement (number xs) / 2 ^ (number ys % 32)) else number xs / 2 ^ (number ys % 32)) negative)
    | inr h ↦
        let positive : is_negative (number xs) ≡ false = ap not (lt-ltb (number xs) (2 ^ 31) h.1) in
        ap (λ b. number (barrel_value (moved_down b) 0 (take 5 ys) xs)) h.0
        ∙ down-worth xs
        ∙ sym (ap (λ b. if b then word_complement (word_complement (number xs) / 2 ^ (number ys % 32)) else number xs / 2 ^ (number ys % 32)) positive)
  ]

-- the greatest bit is the sign
pub sign-worth : (xs : List Bool) → length xs ≡ 32 → greatest false xs ≡ is_negative (number xs)
sign-worth xs xl = elim (greatest-tells false xs 31 xl) as (λ _. greatest false xs ≡ is_negative (number xs)) [
  | inl h ↦ h.0 ∙ sym (ap not (le-ltb (number xs) (2 ^ 31) h.1))
  | inr h ↦ h.0 ∙ sym (ap not (lt-ltb (number xs) (2 ^ 31) h.1))
]

pub signed-worth : (s : Bool) (xs : List Bool) → length xs ≡ 32 → number (signed_value s xs) ≡ with_sign s (number xs)
signed-worth s xs xl = number-signed s xs ∙ ap (λ n. if s then (2 ^ n - number xs) % 2 ^ n else number xs) xl

pub magnitude-worth : (xs : List Bool) → length xs ≡ 32 → number (magnitude_value xs) ≡ word_magnitude (number xs)
magnitude-worth xs xl = elim (greatest-tells false xs 31 xl) as (λ _. number (magnitude_value xs) ≡ word_magnitude (number xs)) [
  | inl h ↦
      let negative : is_negative (number xs) ≡ true = ap not (le-ltb (number xs) (2 ^ 31) h.1) in
      let small : 2 ^ 32 - number xs < 2 ^ 32 = omega arith in
      signed-worth (greatest false xs) xs xl ∙ ap (λ b. with_sign b (number xs)) h.0 ∙ mod-eq_of_lt small
      ∙ sym (ap (λ b. if b then 2 ^ 32 - number xs else number xs) negative)
  | inr h ↦
      let positive : is_negative (number xs) ≡ false = ap not (lt-ltb (number xs) (2 ^ 31) h.1) in
      signed-worth (greatest false xs) xs xl ∙ ap (λ b. with_sign b (number xs)) h.0
      ∙ sym (ap (λ b. if b then 2 ^ 32 - number xs else number xs) positive)
]

-- whether a word isn't 0
zero-tells : (ys : List Bool) → all_value true (map not ys) ≡ eqb (number ys) 0
zero-tells ys =
    let zeros : List Bool = replicate (length ys) false in
    ap (λ us. all_value true (map not us)) (same ys) ∙ all-same ys zeros (length-replicate (length ys) false) ∙ ap (eqb (number ys)) (number-zeros (length ys))
  where
    same : (ys : List Bool) → ys ≡ each_value gate.Xor ys (replicate (length ys) false) false
    same [] = refl
    same (true ∷ ys) = ap (λ us. true ∷ us) (same ys)
    same (false ∷ ys) = ap (λ us. false ∷ us) (same ys)

unless-worth : (ys zs : List Bool) → number (unless_zero ys zs) ≡ (if eqb (number ys) 0 then 0 else number zs)
unless-worth ys zs =
    ap (λ b. number (each_value gate.And zs (replicate (length zs) (not b)) false)) (zero-tells ys) ∙ by (eqb (number ys) 0)
  where
    by : (b : Bool) → number (each_value gate.And zs (replicate (length zs) (not b)) false) ≡ (if b then 0 else number zs)
    by true = ap number (and-zeros zs (length zs) false refl) ∙ number-zeros (length zs)
    by false = ap number (and-ones zs (length zs) false refl)

-- the magnitude of a word that isn't 0 isn't 0
magnitude-pos : (n : ℕ) → n < 2 ^ 32 → 0 < n → 0 < word_magnitude n
magnitude-pos n h p = by (is_negative n)
  where
    by : (b : Bool) → 0 < (if b then 2 ^ 32 - n else n)
    by true = omega arith
    by false = p

module _ (xs ys : List Bool) (xl : length xs ≡ 32) (yl : length ys ≡ 32) where
  divided : 0 < number ys → 0 < number (magnitude_value ys)
  divided h = subst (λ n. 0 < n) (sym (magnitude-worth ys yl)) (magnitude-pos (number ys) (subst (λ n. number ys < 2 ^ n) yl (number-lt ys)) h)

  signs : differ (greatest false xs) (greatest false ys) ≡ signs_differ (is_negative (number xs)) (is_negative (number ys))
  signs = ap (λ b. differ b (greatest false ys)) (sign-worth xs xl) ∙ ap (differ (is_negative (number xs))) (sign-worth ys yl) ∙ by (is_negative (number xs)) (is_negative (number ys))
    where
      by : (a b : Bool) → differ a b ≡ signs_differ a b
      by true b = refl
      by false b = refl

  pub quotient-worth : number (signed_quotient xs ys) ≡ binary_value op2.Div (number xs) (number ys)
  quotient-worth =
      let s : Bool = differ (greatest false xs) (greatest false ys) in
      let q : List Bool = quotient_value (magnitude_value xs) (magnitude_value ys) in
      let ql : length q ≡ 32 = length-quotient_value (magnitude_value xs) (magnitude_value ys) ∙ length-signed_value (greatest false xs) xs ∙ xl in
      unless-worth ys (signed_value s q)
      ∙ (elim (eqb_tells (number ys) 0) as (λ _. (if eqb (number ys) 0 then 0 else number (signed_value s q)) ≡ (if eqb (number ys) 0 then 0 else word_quotient (number xs) (number ys))) [
        | inl e ↦ ap (λ b. if b then 0 else number (signed_value s q)) e.0 ∙ sym (ap (λ b. if b then 0 else word_quotient (number xs) (number ys)) e.0)
        | inr e ↦ ap (λ n. if eqb (number ys) 0 then 0 else n)
            (signed-worth s q ql
            ∙ ap (with_sign s) (number-quotient (magnitude_value xs) (magnitude_value ys) (divided (let p : number ys ≢ 0 = e.1 in omega arith))
            ∙ ap (λ n. n / number (magnitude_value ys)) (magnitude-worth xs xl) ∙ ap (λ n. word_magnitude (number xs) / n) (magnitude-worth ys yl))
            ∙ ap (λ b. with_sign b (word_magnitude (number xs) / word_magnitude (number ys))) signs)
      ])

  pub remainder-worth : number (signed_remainder xs ys) ≡ binary_value op2.Rem (number xs) (number ys)
  remainder-worth =
      let s : Bool = greatest false xs in
      let r : List Bool = rest_value (magnitude_value xs) (magnitude_value ys) in
      let rl : length r ≡ 32 = length-rest (magnitude_value xs) (magnitude_value ys) ∙ length-signed_value (greatest false ys) ys ∙ yl in
      unless-worth ys (signed_value s r)
      ∙ (elim (eqb_tells (number ys) 0) as (λ _. (if eqb (number ys) 0 then 0 else number (signed_value s r)) ≡ (if eqb (number ys) 0 then 0 else word_remainder (number xs) (number ys))) [
        | inl e ↦ ap (λ b. if b then 0 else number (signed_value s r)) e.0 ∙ sym (ap (λ b. if b then 0 else word_remainder (number xs) (number ys)) e.0)
        | inr e ↦ ap (λ n. if eqb (number ys) 0 then 0 else n)
            (signed-worth s r rl
            ∙ ap (with_sign s) (number-rest (magnitude_value xs) (magnitude_value ys) (divided (let p : number ys ≢ 0 = e.1 in omega arith))
            ∙ ap (λ n. n % number (magnitude_value ys)) (magnitude-worth xs xl) ∙ ap (λ n. word_magnitude (number xs) % n) (magnitude-worth ys yl))
            ∙ ap (λ b. with_sign b (word_magnitude (number xs) % word_magnitude (number ys))) (sign-worth xs xl))
      ])

-- words of one part
pub negation-worth : (xs : List Bool) → length xs ≡ 32 → number (sum_value (replicate (length xs) false) (map not xs) true) ≡ word_negation (number xs)
negation-worth xs xl =
    number-sum-mod (replicate (length xs) false) (map not xs) true (length-not xs ∙ sym (length-replicate (length xs) false))
    ∙ ap (λ n. (number (replicate (length xs) false) + number (map not xs) + 1) % 2 ^ n) (length-replicate (length xs) false ∙ xl)
    ∙ ap (λ n. n % 2 ^ 32) (let e : number (replicate (length xs) false) + number (map not xs) + 1 ≡ 2 ^ 32 - number xs = omega (arith, number-zeros (length xs), number-not xs, ap (λ n. 2 ^ n) xl) in e)

pub not-worth : (xs : List Bool) → length xs ≡ 32 → number (map not xs) ≡ word_complement (number xs)
not-worth xs xl = omega (arith, number-not xs, ap (λ n. 2 ^ n) xl)

-- truths
pub flip-worth : (xs : List Bool) → length xs ≡ 1 → number (map not xs) ≡ flipped (number xs)
flip-worth [] e = absurd (omega arith)
flip-worth (true ∷ []) e = refl
flip-worth (false ∷ []) e = refl
flip-worth (x ∷ y ∷ ys) e = absurd (omega arith)

pub both-worth : (xs ys : List Bool) → length xs ≡ 1 → length ys ≡ 1 → number (each_value gate.And xs ys false) ≡ binary_value op2.Both (number xs) (number ys)
both-worth [] ys xl yl = absurd (omega arith)
both-worth (x ∷ y ∷ xs) ys xl yl = absurd (omega arith)
both-worth (x ∷ []) [] xl yl = absurd (omega arith)
both-worth (x ∷ []) (y ∷ z ∷ ys) xl yl = absurd (omega arith)
both-worth (true ∷ []) (true ∷ []) xl yl = refl
both-worth (true ∷ []) (false ∷ []) xl yl = refl
both-worth (false ∷ []) (true ∷ []) xl yl = refl
both-worth (false ∷ []) (false ∷ []) xl yl = refl

pub either-worth : (xs ys : List Bool) → length xs ≡ 1 → length ys ≡ 1 → number (map not (each_value gate.And (map not xs) (map not ys) false)) ≡ binary_value op2.Either (number xs) (number ys)
either-worth [] ys xl yl = absurd (omega arith)
either-worth (x ∷ y ∷ xs) ys xl yl = absurd (omega arith)
either-worth (x ∷ []) [] xl yl = absurd (omega arith)
either-worth (x ∷ []) (y ∷ z ∷ ys) xl yl = absurd (omega arith)
either-worth (true ∷ []) (true ∷ []) xl yl = refl
either-worth (true ∷ []) (false ∷ []) xl yl = refl
either-worth (false ∷ []) (true ∷ []) xl yl = refl
either-worth (false ∷ []) (false ∷ []) xl yl = refl

pub equal-worth : (xs ys : List Bool) → length ys ≡ length xs → number (all_value true (map not (each_value gate.Xor xs ys false)) ∷ []) ≡ binary_value op2.Equal (number xs) (number ys)
equal-worth xs ys e =
    let b : Bool = all_value true (map not (each_value gate.Xor xs ys false)) in
    (let o : truth_word b + 2 * 0 ≡ truth_word b = omega arith in o) ∙ ap truth_word (all-same xs ys e)

-- a choice by a truth
pub choice-worth : (cs xs ys : List Bool) → length cs ≡ 1 → length ys ≡ length xs → number (each_value gate.Pick xs ys (least false cs)) ≡ chosen_value (number cs) (number xs) (number ys)
choice-worth [] xs ys cl e = absurd (omega arith)
choice-worth (c ∷ d ∷ cs) xs ys cl e = absurd (omega arith)
choice-worth (true ∷ []) xs ys cl e = ap number (pick-true xs ys e)
choice-worth (false ∷ []) xs ys cl e = ap number (pick-false xs ys e)
