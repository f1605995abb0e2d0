-- The literals of numbers are read as the numbers that they were printed for.
use Rattle.std.proofs.Common.{◌≡◌, ◌<◌, ◌≤◌, ◌+◌, ◌-◌, ◌*◌, ◌/◌, ◌%◌, ◌^◌, ℕ, Bool, true, false, List, [], ◌∷◌, ◌++◌, map, length, Some, cond, refl, ap, ◌∙◌, arith, decimal}
use Rattle.std.specs.Prelude.{◌==◌, ◌||◌, not, nat_le, nat_lt, codes, fold}
use Rattle.std.specs.List.{list_all}
use Rattle.std.proofs.lemmas.Bool.{and_parts, and_from, or_left, or_right, le-leb, leb-true, ltb-true, ne_eqb, cond-true, cond-false}
use Rattle.std.proofs.lemmas.Bool.Decides.{nat_tests}
use Rattle.std.proofs.lemmas.Grind.{fold-append}
use Rattle.std.proofs.lemmas.Fmt.{decimal_by_steps}
use Rattle.c0_lex.specs.Bytes.{is_digit, is_hexadecimal_digit, is_word_byte, begins_with}
use Rattle.c0_lex.specs.Words.{decimal_value, is_decimal, digit_value, is_hexadecimal, number_of}
use Rattle.c0_lex.specs.Pieces.{is_digit_run}
use Rattle.c0_layout.specs.Literals.{capital_digit, eight_digits, literal_text}

abbrev pub is_zero : ℕ → Bool
is_zero b = b == 48

abbrev pub one_digit : ℕ → ℕ → ℕ
one_digit n d = 10 * n + (d - 48)

-- ---- in decimal
pub record IsDecimal (n : ℕ) (ds : List ℕ) : Type 0 where
  pub first : begins_with is_digit ds ≡ true
  pub all : list_all is_digit ds ≡ true
  pub value : fold one_digit 0 ds ≡ n
  pub lead : 0 < n → begins_with is_zero ds ≡ false
  pub short : n < 10 → length ds ≡ 1

digit_fits : (n : ℕ) → n < 10 → is_digit (48 + n) ≡ true
digit_fits n h = and_from (nat_le 48 (48 + n)) (nat_le (48 + n) 57) (le-leb 48 (48 + n) (omega arith)) (le-leb (48 + n) 57 (omega arith))

first_kept : (p q : ℕ → Bool) (b : Bool) (l rest : List ℕ) → begins_with p l ≡ true → begins_with q l ≡ b → begins_with q (l ++ rest) ≡ b
first_kept p q b [] rest h e = absurd cc
first_kept p q b (x ∷ l) rest h e = e

all_append : (p : ℕ → Bool) (xs : List ℕ) (y : ℕ) → list_all p xs ≡ true → p y ≡ true → list_all p (xs ++ y ∷ []) ≡ true
all_append p [] y h e = and_from (p y) true e refl
all_append p (x ∷ xs) y h e = let both = and_parts (p x) (list_all p xs) h in and_from (p x) (list_all p (xs ++ y ∷ [])) both.0 (all_append p xs y both.1 e)

one_is_decimal : (n : ℕ) → n < 10 → IsDecimal n ((48 + n) ∷ [])
one_is_decimal n h = record {
  first = digit_fits n h;
  all = and_from (is_digit (48 + n)) true (digit_fits n h) refl;
  value = omega arith;
  lead = λ some. ne_eqb (48 + n) 48 (λ e. omega arith);
  short = λ l. refl;
}

more_is_decimal : (n : ℕ) (ds : List ℕ) → 10 ≤ n → IsDecimal (n / 10) ds → IsDecimal n (ds ++ ((48 + n % 10) ∷ []))
more_is_decimal n ds h d =
    let last : is_digit (48 + n % 10) ≡ true = digit_fits (n % 10) (omega arith) in
    let split : fold one_digit 0 (ds ++ ((48 + n % 10) ∷ [])) ≡ one_digit (fold one_digit 0 ds) (48 + n % 10) = fold-append one_digit 0 ds ((48 + n % 10) ∷ []) in
    let front : one_digit (fold one_digit 0 ds) (48 + n % 10) ≡ one_digit (n / 10) (48 + n % 10) = ap (λ m. one_digit m (48 + n % 10)) d.value in
    let whole : one_digit (n / 10) (48 + n % 10) ≡ n = omega arith in
    record {
      first = first_kept is_digit is_digit true ds ((48 + n % 10) ∷ []) d.first d.first;
      all = all_append is_digit ds (48 + n % 10) d.all last;
      value = split ∙ front ∙ whole;
      lead = λ some. first_kept is_digit is_zero false ds ((48 + n % 10) ∷ []) d.first (d.lead (omega arith));
      short = λ l. absurd (omega arith);
    }

decimal_is : (n : ℕ) → n < 2 ^ 64 → IsDecimal n (decimal n)
decimal_is n h = decimal_by_steps IsDecimal one_is_decimal more_is_decimal n h

no_lead : (n : ℕ) (ds : List ℕ) → IsDecimal n ds → (nat_le (length ds) 1 || not (begins_with is_zero ds)) ≡ true
no_lead n ds d =
    elim (nat_le n 9) as (λ t. nat_le n 9 ≡ t → (nat_le (length ds) 1 || not (begins_with is_zero ds)) ≡ true) [
      | true ↦ λ e. let small = leb-true n 9 e in let one = d.short (omega arith) in or_left (nat_le (length ds) 1) _ (le-leb (length ds) 1 (omega arith))
      | false ↦ λ e. or_right (nat_le (length ds) 1) _ (ap not (d.lead (grind (arith, nat_tests))))
    ] refl

decimal_read : (n : ℕ) (ds : List ℕ) → n ≤ 2 ^ 31 → IsDecimal n ds → number_of ds ≡ Some n
decimal_read n ds h d =
    let fits : nat_le (decimal_value ds) (2 ^ 31) ≡ true = ap (λ m. nat_le m (2 ^ 31)) d.value ∙ le-leb n (2 ^ 31) h in
    let is : is_decimal ds ≡ true = and_from _ _ (and_from _ _ d.all (no_lead n ds d)) fits in
    cond-true (is_decimal ds) _ _ is ∙ ap Some d.value

-- ---- in hexadecimal
abbrev pub AreBelow : List ℕ → Type 0
AreBelow [] = Unit {0}
AreBelow (d ∷ ds) = (d < 16) × AreBelow ds

capital_cases : (P : ℕ → Type 0) (d : ℕ) → (d < 10 → P (48 + d)) → (10 ≤ d → P (55 + d)) → P (capital_digit d)
capital_cases P d few many =
    elim (nat_lt d 10) as (λ t. nat_lt d 10 ≡ t → P (cond t (48 + d) (55 + d))) [
      | true ↦ λ e. few (ltb-true d 10 e)
      | false ↦ λ e. many (grind (arith, nat_tests))
    ] refl

capital_is_digit : (d : ℕ) → d < 16 → is_hexadecimal_digit (capital_digit d) ≡ true
capital_is_digit d h = capital_cases (λ b. is_hexadecimal_digit b ≡ true) d (λ l. grind (arith, nat_tests)) (λ l. grind (arith, nat_tests))

capital_is_word : (d : ℕ) → d < 16 → is_word_byte (capital_digit d) ≡ true
capital_is_word d h = capital_cases (λ b. is_word_byte b ≡ true) d (λ l. grind (arith, nat_tests)) (λ l. grind (arith, nat_tests))

few_value : (d : ℕ) → d < 10 → digit_value (48 + d) ≡ d
few_value d h = cond-true (is_digit (48 + d)) _ _ (digit_fits d h) ∙ omega arith

many_value : (d : ℕ) → 10 ≤ d → d < 16 → digit_value (55 + d) ≡ d
many_value d l h =
    let no : is_digit (55 + d) ≡ false = grind (arith, nat_tests) in
    let capital : nat_le 97 (55 + d) ≡ false = grind (arith, nat_tests) in
    cond-false (is_digit (55 + d)) _ _ no ∙ cond-false (nat_le 97 (55 + d)) _ _ capital ∙ omega arith

capital_value : (d : ℕ) → d < 16 → digit_value (capital_digit d) ≡ d
capital_value d h = capital_cases (λ b. digit_value b ≡ d) d (λ l. few_value d l) (λ l. many_value d l h)

all_capital : (p : ℕ → Bool) → ((d : ℕ) → d < 16 → p (capital_digit d) ≡ true) → (ds : List ℕ) → AreBelow ds → list_all p (map capital_digit ds) ≡ true
all_capital p one [] h = refl
all_capital p one (d ∷ ds) h = and_from (p (capital_digit d)) _ (one d h.0) (all_capital p one ds h.1)

capital_fold : (n : ℕ) (ds : List ℕ) → AreBelow ds → fold (λ n d. 16 * n + digit_value d) n (map capital_digit ds) ≡ fold (λ n d. 16 * n + d) n ds
capital_fold n [] h = refl
capital_fold n (d ∷ ds) h =
    ap (λ v. fold (λ n d. 16 * n + digit_value d) (16 * n + v) (map capital_digit ds)) (capital_value d h.0) ∙ capital_fold (16 * n + d) ds h.1

abbrev pub eight : ℕ → List ℕ
eight n = n / 268435456 ∷ n / 16777216 % 16 ∷ n / 1048576 % 16 ∷ n / 65536 % 16 ∷ n / 4096 % 16 ∷ n / 256 % 16 ∷ n / 16 % 16 ∷ n % 16 ∷ []

eight_below : (n : ℕ) → n < 2 ^ 32 → AreBelow (eight n)
eight_below n h = (omega arith, (omega arith, (omega arith, (omega arith, (omega arith, (omega arith, (omega arith, (omega arith, tt))))))))

eight_value : (n : ℕ) → fold (λ n d. 16 * n + d) 0 (eight n) ≡ n
eight_value n =
    let a : 16 * 0 + n / 268435456 ≡ n / 268435456 = omega arith in
    let b : 16 * (n / 268435456) + n / 16777216 % 16 ≡ n / 16777216 = omega arith in
    let c : 16 * (n / 16777216) + n / 1048576 % 16 ≡ n / 1048576 = omega arith in
    let d : 16 * (n / 1048576) + n / 65536 % 16 ≡ n / 65536 = omega arith in
    let e : 16 * (n / 65536) + n / 4096 % 16 ≡ n / 4096 = omega arith in
    let f : 16 * (n / 4096) + n / 256 % 16 ≡ n / 256 = omega arith in
    let g : 16 * (n / 256) + n / 16 % 16 ≡ n / 16 = omega arith in
    let i : 16 * (n / 16) + n % 16 ≡ n = omega arith in
    let step : ℕ → ℕ → ℕ = λ m d. 16 * m + d in
    ap (λ m. fold step m (n / 16777216 % 16 ∷ n / 1048576 % 16 ∷ n / 65536 % 16 ∷ n / 4096 % 16 ∷ n / 256 % 16 ∷ n / 16 % 16 ∷ n % 16 ∷ [])) a
    ∙ ap (λ m. fold step m (n / 1048576 % 16 ∷ n / 65536 % 16 ∷ n / 4096 % 16 ∷ n / 256 % 16 ∷ n / 16 % 16 ∷ n % 16 ∷ [])) b
    ∙ ap (λ m. fold step m (n / 65536 % 16 ∷ n / 4096 % 16 ∷ n / 256 % 16 ∷ n / 16 % 16 ∷ n % 16 ∷ [])) c
    ∙ ap (λ m. fold step m (n / 4096 % 16 ∷ n / 256 % 16 ∷ n / 16 % 16 ∷ n % 16 ∷ [])) d
    ∙ ap (λ m. fold step m (n / 256 % 16 ∷ n / 16 % 16 ∷ n % 16 ∷ [])) e
    ∙ ap (λ m. fold step m (n / 16 % 16 ∷ n % 16 ∷ [])) f
    ∙ ap (λ m. fold step m (n % 16 ∷ [])) g
    ∙ i

hexadecimal_read : (n : ℕ) → n < 2 ^ 32 → number_of (codes "0x" ++ eight_digits n) ≡ Some n
hexadecimal_read n h =
    let all : list_all is_hexadecimal_digit (eight_digits n) ≡ true = all_capital is_hexadecimal_digit capital_is_digit (eight n) (eight_below n h) in
    let is : is_hexadecimal (codes "0x" ++ eight_digits n) ≡ true = and_from _ _ refl all in
    cond-true (is_hexadecimal (codes "0x" ++ eight_digits n)) _ _ is ∙ ap Some (capital_fold 0 (eight n) (eight_below n h) ∙ eight_value n)

-- ---- both
all_more : (p q : ℕ → Bool) → ((b : ℕ) → p b ≡ true → q b ≡ true) → (xs : List ℕ) → list_all p xs ≡ true → list_all q xs ≡ true
all_more p q more [] h = refl
all_more p q more (x ∷ xs) h = let both = and_parts (p x) (list_all p xs) h in and_from (q x) (list_all q xs) (more x both.0) (all_more p q more xs both.1)

digit_is_word : (b : ℕ) → is_digit b ≡ true → is_word_byte b ≡ true
digit_is_word b h = or_left (is_digit b) _ h

pub record IsLiteral (n : ℕ) (text : List ℕ) : Type 0 where
  pub run : is_digit_run text ≡ true
  pub value : number_of text ≡ Some n

decimal_literal : (n : ℕ) (ds : List ℕ) → n ≤ 2 ^ 31 → IsDecimal n ds → IsLiteral n ds
decimal_literal n ds h d = record { run = and_from _ _ d.first (all_more is_digit is_word_byte digit_is_word ds d.all); value = decimal_read n ds h d }

hexadecimal_literal : (n : ℕ) → n < 2 ^ 32 → IsLiteral n (codes "0x" ++ eight_digits n)
hexadecimal_literal n h = record { run = all_capital is_word_byte capital_is_word (eight n) (eight_below n h); value = hexadecimal_read n h }

pub literal_is : (n : ℕ) → n < 2 ^ 32 → IsLiteral n (literal_text n)
literal_is n h =
    elim (nat_le n 2147483648) as (λ t. nat_le n 2147483648 ≡ t → IsLiteral n (cond t (decimal n) (codes "0x" ++ eight_digits n))) [
      | true ↦ λ e. let few = leb-true n 2147483648 e in decimal_literal n (decimal n) (omega arith) (decimal_is n (omega arith))
      | false ↦ λ e. hexadecimal_literal n h
    ] refl
