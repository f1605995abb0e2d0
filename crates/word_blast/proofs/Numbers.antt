-- What the bits of the groups are as numbers, at every width.
use Rattle.std.proofs.Common.{◌≡◌, ℕ, zero, suc, ◌+◌, ◌*◌, ◌%◌, ◌^◌, ◌<◌, ◌≤◌, Bool, true, false, not, ◌&&◌, eqb, List, [], ◌∷◌, map, length, replicate, refl, sym, ◌∙◌, ap, subst, arith, ◌⊎◌, inl, inr, bit_and, bit_or, bit_xor}
use Rattle.std.proofs.lemmas.Nat.{and_block, or_block, xor_block}
use Rattle.std.proofs.Math.Nat.{mod-eq_of_lt, pow-suc, add-mul-mod_self_left}
use Rattle.std.proofs.lemmas.Bool.Decides.{eqb_tells}
use Rattle.word_terms.specs.Terms.{truth_word}
use Rattle.word_blast.specs.declared.gate.Gate.{Gate}
use Rattle.word_blast.specs.declared.gate.Gate.TheVariants as gate
use Rattle.word_blast.specs.Gates.{differ, gate_value}
use Rattle.word_blast.specs.Bits.{number, each_value, sum_value, carry_value, all_value}

pub truth_word-le : (b : Bool) → truth_word b ≤ 1
truth_word-le true = omega arith
truth_word-le false = omega arith

-- twice a power
pub pow-double : (n : ℕ) → 2 ^ suc n ≡ 2 * 2 ^ n
pow-double n = omega (arith, pow-suc 2 n)

pub pow-double-times : (n k : ℕ) → 2 ^ suc n * k ≡ 2 * (2 ^ n * k)
pow-double-times n k = ap (λ m. m * k) (pow-double n) ∙ omega arith

pub number-lt : (bs : List Bool) → number bs < 2 ^ length bs
number-lt [] = omega arith
number-lt (b ∷ bs) = omega (arith, number-lt bs, truth_word-le b, pow-double (length bs))

-- one place of a sum
pub adds : (x y c : Bool) → truth_word (gate_value gate.Sum x y c) + 2 * truth_word (gate_value gate.Carry x y c) ≡ truth_word x + truth_word y + truth_word c
adds true true true = refl
adds true true false = refl
adds true false true = refl
adds true false false = refl
adds false true true = refl
adds false true false = refl
adds false false true = refl
adds false false false = refl

pub length-sum : (xs ys : List Bool) (c : Bool) → length ys ≡ length xs → length (sum_value xs ys c) ≡ length xs
length-sum [] ys c e = refl
length-sum (x ∷ xs) [] c e = absurd (omega arith)
length-sum (x ∷ xs) (y ∷ ys) c e = ap suc (length-sum xs ys (gate_value gate.Carry x y c) (omega arith))

-- a sum with its carry
pub number-sum : (xs ys : List Bool) (c : Bool) → length ys ≡ length xs → number (sum_value xs ys c) + 2 ^ length xs * truth_word (carry_value xs ys c) ≡ number xs + number ys + truth_word c
number-sum [] [] c e = omega arith
number-sum [] (y ∷ ys) c e = absurd (omega arith)
number-sum (x ∷ xs) [] c e = absurd (omega arith)
number-sum (x ∷ xs) (y ∷ ys) c e =
    let d : Bool = gate_value gate.Carry x y c in
    omega (arith, number-sum xs ys d (omega arith), adds x y c, pow-double-times (length xs) (truth_word (carry_value xs ys d)))

-- what is below m and a multiple of m off is the rest by m
pub mod-from : (m n r q : ℕ) → r < m → r + m * q ≡ n → n % m ≡ r
mod-from m n r q h e = ap (λ k. k % m) (sym e) ∙ add-mul-mod_self_left r m q ∙ mod-eq_of_lt h

pub number-sum-mod : (xs ys : List Bool) (c : Bool) → length ys ≡ length xs → number (sum_value xs ys c) ≡ (number xs + number ys + truth_word c) % 2 ^ length xs
number-sum-mod xs ys c e =
    let small : number (sum_value xs ys c) < 2 ^ length xs = subst (λ n. number (sum_value xs ys c) < 2 ^ n) (length-sum xs ys c e) (number-lt (sum_value xs ys c)) in
    sym (mod-from (2 ^ length xs) (number xs + number ys + truth_word c) (number (sum_value xs ys c)) (truth_word (carry_value xs ys c)) small (number-sum xs ys c e))

-- the carry tells whether the sum passes the width
pub carry-tells : (xs ys : List Bool) (c : Bool) → length ys ≡ length xs
    → ((carry_value xs ys c ≡ true) × (2 ^ length xs ≤ number xs + number ys + truth_word c)) ⊎ ((carry_value xs ys c ≡ false) × (number xs + number ys + truth_word c < 2 ^ length xs))
carry-tells xs ys c e = by (carry_value xs ys c) refl
  where
    small : number (sum_value xs ys c) < 2 ^ length xs
    small = subst (λ n. number (sum_value xs ys c) < 2 ^ n) (length-sum xs ys c e) (number-lt (sum_value xs ys c))

    by : (b : Bool) → carry_value xs ys c ≡ b → ((carry_value xs ys c ≡ true) × (2 ^ length xs ≤ number xs + number ys + truth_word c)) ⊎ ((carry_value xs ys c ≡ false) × (number xs + number ys + truth_word c < 2 ^ length xs))
    by true h = inl (h, omega (arith, number-sum xs ys c e, ap (λ b. 2 ^ length xs * truth_word b) h))
    by false h = inr (h, omega (arith, small, number-sum xs ys c e, ap (λ b. 2 ^ length xs * truth_word b) h))

-- flips, zeros and copies
pub number-not : (bs : List Bool) → number (map not bs) + number bs + 1 ≡ 2 ^ length bs
number-not [] = refl
number-not (true ∷ bs) = omega (arith, number-not bs, pow-double (length bs))
number-not (false ∷ bs) = omega (arith, number-not bs, pow-double (length bs))

pub length-not : (bs : List Bool) → length (map not bs) ≡ length bs
length-not [] = refl
length-not (b ∷ bs) = ap suc (length-not bs)

pub not-not : (bs : List Bool) → map not (map not bs) ≡ bs
not-not [] = refl
not-not (true ∷ bs) = ap (λ xs. true ∷ xs) (not-not bs)
not-not (false ∷ bs) = ap (λ xs. false ∷ xs) (not-not bs)

pub number-zeros : (n : ℕ) → number (replicate n false) ≡ 0
number-zeros zero = refl
number-zeros (suc n) = omega (arith, number-zeros n)

-- bit by bit
pub length-each-value : (g : Gate) (xs ys : List Bool) (z : Bool) → length ys ≡ length xs → length (each_value g xs ys z) ≡ length xs
length-each-value g [] ys z e = refl
length-each-value g (x ∷ xs) [] z e = absurd (omega arith)
length-each-value g (x ∷ xs) (y ∷ ys) z e = ap suc (length-each-value g xs ys z (omega arith))

truth_word-lt : (b : Bool) → truth_word b < 2 ^ 1
truth_word-lt true = omega arith
truth_word-lt false = omega arith

-- one bit and the others, as the laws of bits have them
block : (b : Bool) (n : ℕ) → truth_word b + 2 * n ≡ n * 2 ^ 1 + truth_word b
block b n = omega arith

and-bit : (x y : Bool) → bit_and (truth_word x) (truth_word y) ≡ truth_word (x && y)
and-bit true true = refl
and-bit true false = refl
and-bit false true = refl
and-bit false false = refl

or-bit : (x y : Bool) → bit_or (truth_word x) (truth_word y) ≡ truth_word (not (not x && not y))
or-bit true true = refl
or-bit true false = refl
or-bit false true = refl
or-bit false false = refl

xor-bit : (x y : Bool) → bit_xor (truth_word x) (truth_word y) ≡ truth_word (differ x y)
xor-bit true true = refl
xor-bit true false = refl
xor-bit false true = refl
xor-bit false false = refl

pub number-and : (xs ys : List Bool) (z : Bool) → length ys ≡ length xs → number (each_value gate.And xs ys z) ≡ bit_and (number xs) (number ys)
number-and [] [] z e = refl
number-and [] (y ∷ ys) z e = absurd (omega arith)
number-and (x ∷ xs) [] z e = absurd (omega arith)
number-and (x ∷ xs) (y ∷ ys) z e =
    let split : bit_and (truth_word x + 2 * number xs) (truth_word y + 2 * number ys) ≡ bit_and (number xs) (number ys) * 2 ^ 1 + bit_and (truth_word x) (truth_word y) =
    ap (λ n. bit_and n (truth_word y + 2 * number ys)) (block x (number xs)) ∙ ap (bit_and (number xs * 2 ^ 1 + truth_word x)) (block y (number ys))
    ∙ and_block 1 (number xs) (number ys) (truth_word x) (truth_word y) (truth_word-lt x) (truth_word-lt y) in
    omega (arith, number-and xs ys z (omega arith), split, and-bit x y)

pub number-or : (xs ys : List Bool) (z : Bool) → length ys ≡ length xs → number (map not (each_value gate.And (map not xs) (map not ys) z)) ≡ bit_or (number xs) (number ys)
number-or [] [] z e = refl
number-or [] (y ∷ ys) z e = absurd (omega arith)
number-or (x ∷ xs) [] z e = absurd (omega arith)
number-or (x ∷ xs) (y ∷ ys) z e =
    let split : bit_or (truth_word x + 2 * number xs) (truth_word y + 2 * number ys) ≡ bit_or (number xs) (number ys) * 2 ^ 1 + bit_or (truth_word x) (truth_word y) =
    ap (λ n. bit_or n (truth_word y + 2 * number ys)) (block x (number xs)) ∙ ap (bit_or (number xs * 2 ^ 1 + truth_word x)) (block y (number ys))
    ∙ or_block 1 (number xs) (number ys) (truth_word x) (truth_word y) (truth_word-lt x) (truth_word-lt y) in
    omega (arith, number-or xs ys z (omega arith), split, or-bit x y)

pub number-xor : (xs ys : List Bool) (z : Bool) → length ys ≡ length xs → number (each_value gate.Xor xs ys z) ≡ bit_xor (number xs) (number ys)
number-xor [] [] z e = refl
number-xor [] (y ∷ ys) z e = absurd (omega arith)
number-xor (x ∷ xs) [] z e = absurd (omega arith)
number-xor (x ∷ xs) (y ∷ ys) z e =
    let split : bit_xor (truth_word x + 2 * number xs) (truth_word y + 2 * number ys) ≡ bit_xor (number xs) (number ys) * 2 ^ 1 + bit_xor (truth_word x) (truth_word y) =
    ap (λ n. bit_xor n (truth_word y + 2 * number ys)) (block x (number xs)) ∙ ap (bit_xor (number xs * 2 ^ 1 + truth_word x)) (block y (number ys))
    ∙ xor_block 1 (number xs) (number ys) (truth_word x) (truth_word y) (truth_word-lt x) (truth_word-lt y) in
    omega (arith, number-xor xs ys z (omega arith), split, xor-bit x y)

-- a choice of words
pub pick-true : (xs ys : List Bool) → length ys ≡ length xs → each_value gate.Pick xs ys true ≡ xs
pick-true [] ys e = refl
pick-true (x ∷ xs) [] e = absurd (omega arith)
pick-true (x ∷ xs) (y ∷ ys) e = ap (λ zs. x ∷ zs) (pick-true xs ys (omega arith))

pub pick-false : (xs ys : List Bool) → length ys ≡ length xs → each_value gate.Pick xs ys false ≡ ys
pick-false [] [] e = refl
pick-false [] (y ∷ ys) e = absurd (omega arith)
pick-false (x ∷ xs) [] e = absurd (omega arith)
pick-false (x ∷ xs) (y ∷ ys) e = ap (λ zs. y ∷ zs) (pick-false xs ys (omega arith))

-- whether all of a word are
pub all_value-first : (b : Bool) (bs : List Bool) → all_value b bs ≡ (b && all_value true bs)
all_value-first true bs = refl
all_value-first false bs = no bs
  where
    no : (bs : List Bool) → all_value false bs ≡ false
    no [] = refl
    no (b ∷ bs) = no bs

-- two words are equal where no place differs
pub all-same : (xs ys : List Bool) → length ys ≡ length xs → all_value true (map not (each_value gate.Xor xs ys false)) ≡ eqb (number xs) (number ys)
all-same [] [] e = refl
all-same [] (y ∷ ys) e = absurd (omega arith)
all-same (x ∷ xs) [] e = absurd (omega arith)
all-same (x ∷ xs) (y ∷ ys) e =
    all_value-first (not (differ x y)) (map not (each_value gate.Xor xs ys false)) ∙ ap (λ b. not (differ x y) && b) (all-same xs ys (omega arith)) ∙ by x y
  where
    by : (x y : Bool) → (not (differ x y) && eqb (number xs) (number ys)) ≡ eqb (truth_word x + 2 * number xs) (truth_word y + 2 * number ys)
    by true true = grind (arith, eqb_tells (number xs) (number ys), eqb_tells (1 + 2 * number xs) (1 + 2 * number ys))
    by true false = grind (arith, eqb_tells (1 + 2 * number xs) (0 + 2 * number ys))
    by false true = grind (arith, eqb_tells (0 + 2 * number xs) (1 + 2 * number ys))
    by false false = grind (arith, eqb_tells (number xs) (number ys), eqb_tells (0 + 2 * number xs) (0 + 2 * number ys))
