-- A number's word is that of its decimal digits, and no other.
use Rattle.std.proofs.Common.{◌≡◌, ℕ, ◌+◌, ◌-◌, ◌*◌, ◌^◌, ◌<◌, ◌≤◌, Bool, true, false, ◌&&◌, ◌||◌, not, cond, List, [], ◌∷◌, length, get_or, fold, Some, None, refl, sym, subst, ap, ◌∙◌, arith, rules, inl, inr}
use Rattle.std.specs.Prelude.{nat_le, nat_eq, if◌then◌else◌}
use Rattle.std.specs.List.{list_all}
use Rattle.std.specs.Fmt.{decimal}
use Rattle.std.proofs.lemmas.Bool.{leb-true, le-leb, eqb-true, cases_lt}
use Rattle.std.proofs.lemmas.Str.Parse.{IsNumeralModel, numerals_by_fold}
use Rattle.std.proofs.lemmas.Fmt.{decimal_nonempty, first_decimal, digits_decimal, digits_value-decimal, decimal-digits_value, decimal_digit}
use Rattle.sat_text.specs.Reading.{is_digit, is_numeral, begins_with_zero, decimal_value, number_in}

pub own : IsNumeralModel (λ ds. list_all is_digit ds ≡ true) decimal_value
own = numerals_by_fold (λ ds. list_all is_digit ds ≡ true) (search rules) (λ n ds. fold (λ n d. n * 10 + (d - 48)) n ds) (search rules)

pub chosen_some : {A : Type 0} (b : Bool) (x y : A) → (if b then Some x else None) ≡ Some y → (b ≡ true) × (x ≡ y)
chosen_some true x y e = (refl, cc)
chosen_some false x y e = let n : ⊥ = cc in absurd n

pub both_true : (a b : Bool) → a && b ≡ true → (a ≡ true) × (b ≡ true)
both_true true b e = (refl, e)
both_true false b e = let n : ⊥ = cc in absurd n

pub and_true : (a b : Bool) → a ≡ true → b ≡ true → a && b ≡ true
and_true true b e f = f
and_true false b e f = let n : ⊥ = cc in absurd n

or_right : (a b : Bool) → b ≡ true → a || b ≡ true
or_right true b e = refl
or_right false b e = e

or_left : (a b : Bool) → a ≡ true → a || b ≡ true
or_left true b e = refl
or_left false b e = let n : ⊥ = cc in absurd n

-- a first byte above 48 is no zero
no_zero : (ds : List ℕ) → 48 < get_or ds 0 0 → not (begins_with_zero ds) ≡ true
no_zero [] l = refl
no_zero (d ∷ ds) l =
    (elim (nat_eq 48 d) as (λ b. nat_eq 48 d ≡ b → not (b && true) ≡ true) [
      | true ↦ λ e. absurd (omega (arith, eqb-true 48 d e, l))
      | false ↦ λ e. refl
    ]) refl

-- a first byte 48 is one
is_zero : (ds : List ℕ) → get_or ds 0 0 ≡ 48 → not (begins_with_zero ds) ≡ true → ⊥
is_zero [] e h = omega (arith, e)
is_zero (d ∷ ds) e h = let x : not (nat_eq 48 48 && true) ≡ true = subst (λ d. not (nat_eq 48 d && true) ≡ true) e h in cc

plain : (n : ℕ) → n < 2 ^ 64 → nat_le (length (decimal n)) 1 || not (begins_with_zero (decimal n)) ≡ true
plain n f =
    elim (cases_lt n 10) [
      | inl lt ↦ or_left (nat_le (length (decimal n)) 1) _ (ap (λ ds. nat_le (length ds) 1) (decimal_digit n lt))
      | inr ge ↦ or_right (nat_le (length (decimal n)) 1) _ (no_zero (decimal n) (first_decimal n (omega arith) f))
    ]

pub decimal_is_numeral : (n : ℕ) → n < 2 ^ 64 → is_numeral (decimal n) ≡ true
decimal_is_numeral n f =
    and_true _ _ (le-leb 1 (length (decimal n)) (decimal_nonempty n f)) (and_true _ _ (digits_decimal own n f) (plain n f))

pub number_decimal : (most n : ℕ) → most < 2 ^ 64 → n ≤ most → number_in most (decimal n) ≡ Some n
number_decimal most n m l =
    let f : n < 2 ^ 64 = omega (arith, m, l) in
    let v : decimal_value (decimal n) ≡ n = digits_value-decimal own n f in
    let t : is_numeral (decimal n) && nat_le (decimal_value (decimal n)) most ≡ true = and_true _ _ (decimal_is_numeral n f) (ap (λ k. nat_le k most) v ∙ le-leb n most l) in
    ap (λ b. cond b (Some (decimal_value (decimal n))) None) t ∙ ap Some v

one_zero : (ds : List ℕ) → nat_le 1 (length ds) ≡ true → nat_le (length ds) 1 || not (begins_with_zero ds) ≡ true → get_or ds 0 0 ≡ 48 → length ds ≡ 1
one_zero ds some h z =
    (elim (nat_le (length ds) 1) as (λ b. nat_le (length ds) 1 ≡ b → b || not (begins_with_zero ds) ≡ true → length ds ≡ 1) [
      | true ↦ λ e h. omega (arith, leb-true (length ds) 1 e, leb-true 1 (length ds) some)
      | false ↦ λ e h. absurd (is_zero ds z h)
    ]) refl h

-- the number that a word writes
pub record Writes (most : ℕ) (word : List ℕ) (n : ℕ) : Type 0 where
  pub is : word ≡ decimal n
  pub within : n ≤ most

pub number_word : (most n : ℕ) (word : List ℕ) → most < 2 ^ 64 → number_in most word ≡ Some n → Writes most word n
number_word most n word m e =
    let t = chosen_some (is_numeral word && nat_le (decimal_value word) most) (decimal_value word) n e in
    let b = both_true (is_numeral word) (nat_le (decimal_value word) most) t.0 in
    let p = both_true (nat_le 1 (length word)) _ b.0 in
    let q = both_true (list_all is_digit word) _ p.1 in
    let l : decimal_value word ≤ most = leb-true (decimal_value word) most b.1 in
    let s : 0 < length word = leb-true 1 (length word) p.0 in
    let d = decimal-digits_value own word q.0 s (one_zero word p.0 q.1) (omega (arith, l, m)) in
    record { is = sym d ∙ ap decimal t.1; within = omega (arith, l, t.1) }
