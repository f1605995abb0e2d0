-- A word that is no number stays none when it grows, but for `0x` and `0X`.
use Rattle.std.proofs.Common.{◌≡◌, ◌≤◌, ◌+◌, ◌-◌, ◌*◌, ◌^◌, ℕ, Bool, true, false, List, [], ◌∷◌, ◌++◌, length, drop, Some, None, sym, refl, ap, ◌∙◌, cond, arith, length-append, ⊎_elim}
use Rattle.std.specs.Prelude.{◌==◌, ◌&&◌, ◌||◌, not, codes, fold, nat_le}
use Rattle.std.specs.List.{list_all}
use Rattle.std.specs.Str.{bytes_eq}
use Rattle.std.proofs.lemmas.Bool.{and_parts, and_from, or_cases, or_left, or_right, both_ways, false_from_ne_true, leb-true, le-leb, cond-false}
use Rattle.std.proofs.lemmas.Grind.{fold-append}
use Rattle.c0_lex.specs.Bytes.{is_digit, is_hexadecimal_digit, begins_with, begins}
use Rattle.c0_lex.specs.Words.{decimal_value, is_decimal, hexadecimal_value, is_hexadecimal, number_of}
use Rattle.c0_lex.proofs.Runs.{begins_split}

-- `0x` or `0X` alone
abbrev pub is_open_hexadecimal : List ℕ → Bool
is_open_hexadecimal run = bytes_eq run (codes "0x") || bytes_eq run (codes "0X")

none_parts : (t : List ℕ) → number_of t ≡ None → (is_decimal t ≡ false) × (is_hexadecimal t ≡ false)
none_parts t e =
    elim (is_decimal t) as (λ x. is_decimal t ≡ x → cond x (Some (decimal_value t)) (cond (is_hexadecimal t) (Some (hexadecimal_value (drop 2 t))) None) ≡ None → (is_decimal t ≡ false) × (is_hexadecimal t ≡ false)) [
      | true ↦ λ d f. absurd cc
      | false ↦ λ d f.
          elim (is_hexadecimal t) as (λ x. is_hexadecimal t ≡ x → cond x (Some (hexadecimal_value (drop 2 t))) None ≡ None → (is_decimal t ≡ false) × (is_hexadecimal t ≡ false)) [
            | true ↦ λ h g. absurd cc
            | false ↦ λ h g. (d, h)
          ] refl f
    ] refl e

front_all : (test : ℕ → Bool) (xs ys : List ℕ) → list_all test (xs ++ ys) ≡ true → list_all test xs ≡ true
front_all test [] ys h = refl
front_all test (x ∷ xs) ys h = let both = and_parts (test x) (list_all test (xs ++ ys)) h in and_from (test x) (list_all test xs) both.0 (front_all test xs ys both.1)

grows : (n : ℕ) (w : List ℕ) → n ≤ fold (λ n d. 10 * n + (d - 48)) n w
grows n [] = omega arith
grows n (d ∷ ds) = let more = grows (10 * n + (d - 48)) ds in omega (arith, more)

decimal_front : (run w : List ℕ) → is_decimal (run ++ w) ≡ true → is_decimal run ≡ true
decimal_front [] w e = refl
decimal_front (b ∷ bs) w e =
    let run = b ∷ bs in
    let value = and_parts (list_all is_digit (run ++ w) && (nat_le (length (run ++ w)) 1 || not (begins_with (λ b. b == 48) (run ++ w)))) (nat_le (decimal_value (run ++ w)) (2 ^ 31)) e in
    let shape = and_parts (list_all is_digit (run ++ w)) (nat_le (length (run ++ w)) 1 || not (begins_with (λ b. b == 48) (run ++ w))) value.0 in
    let small = leb-true (decimal_value (run ++ w)) (2 ^ 31) value.1 in
    let split : decimal_value (run ++ w) ≡ fold (λ n d. 10 * n + (d - 48)) (decimal_value run) w = fold-append (λ n d. 10 * n + (d - 48)) 0 run w in
    let more = grows (decimal_value run) w in
    let fits : decimal_value run ≤ 2 ^ 31 = omega (arith, small, split, more) in
    let zeros : (nat_le (length run) 1 || not (begins_with (λ b. b == 48) run)) ≡ true =
    ⊎_elim
    (λ short. let le = leb-true (length (run ++ w)) 1 short in or_left (nat_le (length run) 1) _ (le-leb (length run) 1 (omega (arith, le, length-append run w))))
    (λ first. or_right (nat_le (length run) 1) _ first)
    (or_cases (nat_le (length (run ++ w)) 1) (not (begins_with (λ b. b == 48) (run ++ w))) shape.1)
    in
    and_from _ _ (and_from _ _ (front_all is_digit run w shape.0) zeros) (le-leb (decimal_value run) (2 ^ 31) fits)

hexadecimal_front : (run w : List ℕ) → begins_with is_digit run ≡ true → number_of run ≡ None → is_open_hexadecimal run ≡ false → is_hexadecimal run ≡ false → is_hexadecimal (run ++ w) ≡ true → ⊥
hexadecimal_front [] w d n o f e = absurd cc
hexadecimal_front (a ∷ []) w d n o f e =
    let parts = and_parts _ _ (and_parts _ _ (and_parts _ _ e).0).0 in
    let first : a ≡ 48 = ⊎_elim (λ x. let s = begins_split (a ∷ w) (codes "0x") x in cc) (λ x. let s = begins_split (a ∷ w) (codes "0X") x in cc) (or_cases (begins (a ∷ w) (codes "0x")) (begins (a ∷ w) (codes "0X")) parts.0) in
    let zeroed : number_of (48 ∷ []) ≡ None = ap (λ x. number_of (x ∷ [])) (sym first) ∙ n in
    let some : number_of (48 ∷ []) ≡ Some 0 = refl in
    cc
hexadecimal_front (a ∷ b ∷ []) w d n o f e =
    let parts = and_parts _ _ (and_parts _ _ (and_parts _ _ e).0).0 in
    ⊎_elim
    (λ x. let s = begins_split (a ∷ b ∷ w) (codes "0x") x in let p : a ≡ 48 = cc in let q : b ≡ 120 = cc in both_ways true (sym (ap (λ u. is_open_hexadecimal (u ∷ b ∷ [])) p ∙ ap (λ u. is_open_hexadecimal (48 ∷ u ∷ [])) q) ∙ o) refl)
    (λ x. let s = begins_split (a ∷ b ∷ w) (codes "0X") x in let p : a ≡ 48 = cc in let q : b ≡ 88 = cc in both_ways true (sym (ap (λ u. is_open_hexadecimal (u ∷ b ∷ [])) p ∙ ap (λ u. is_open_hexadecimal (48 ∷ u ∷ [])) q) ∙ o) refl)
    (or_cases (begins (a ∷ b ∷ w) (codes "0x")) (begins (a ∷ b ∷ w) (codes "0X")) parts.0)
hexadecimal_front (a ∷ b ∷ c ∷ cs) w d n o f e =
    let run = a ∷ b ∷ c ∷ cs in
    let digits = and_parts _ _ e in
    let short = and_parts _ _ digits.0 in
    let long = and_parts _ _ short.0 in
    let le = leb-true (length (run ++ w)) 10 short.1 in
    both_ways (is_hexadecimal run) f
    (and_from _ _ (and_from _ _ (and_from _ _ long.0 (le-leb 3 (length run) (omega arith))) (le-leb (length run) 10 (omega (arith, le, length-append run w)))) (front_all is_hexadecimal_digit (c ∷ cs) w digits.1))

pub bad_grows : (run w : List ℕ) → begins_with is_digit run ≡ true → number_of run ≡ None → is_open_hexadecimal run ≡ false → number_of (run ++ w) ≡ None
bad_grows run w d n o =
    let parts = none_parts run n in
    let decimal : is_decimal (run ++ w) ≡ false = false_from_ne_true _ (λ e. both_ways (is_decimal run) parts.0 (decimal_front run w e)) in
    let hexadecimal : is_hexadecimal (run ++ w) ≡ false = false_from_ne_true _ (λ e. hexadecimal_front run w d n o parts.1 e) in
    cond-false _ _ _ decimal ∙ cond-false _ _ _ hexadecimal
