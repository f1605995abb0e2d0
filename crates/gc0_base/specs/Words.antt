-- Words of 32 bits: the integers modulo 2^32, their signed reading, and the operators of C0.
-- A word is a number below 2^32. Source: C0 Reference, "Integers" and "Operators".
use Rattle.std.specs.Prelude.{ℕ, ℤ, Bool, true, false, not, ◌&&◌, ◌+◌, ◌-◌, ◌*◌, ◌/◌, ◌%◌, ◌^◌, eqb, nat_lt, int_lt, if◌then◌else◌, Option, Some, None, bit_and, bit_or, bit_xor}
use Rattle.std.specs.Int.{w32, cast_signed}
use Rattle.gc0_base.specs.declared.word.Word.{Word}

abbrev pub word_sum : ℕ → ℕ → ℕ
word_sum a b = (a + b) % 2 ^ 32

abbrev pub word_difference : ℕ → ℕ → ℕ
word_difference a b = (a + (2 ^ 32 - b)) % 2 ^ 32

abbrev pub word_product : ℕ → ℕ → ℕ
word_product a b = (a * b) % 2 ^ 32

abbrev pub word_negation : ℕ → ℕ
word_negation a = (2 ^ 32 - a) % 2 ^ 32

-- the operators that go bit by bit
abbrev pub word_and : ℕ → ℕ → ℕ
word_and a b = bit_and a b

abbrev pub word_or : ℕ → ℕ → ℕ
word_or a b = bit_or a b

abbrev pub word_xor : ℕ → ℕ → ℕ
word_xor a b = bit_xor a b

abbrev pub word_complement : ℕ → ℕ
word_complement a = 2 ^ 32 - 1 - a

-- two's complement
abbrev pub signed : ℕ → ℤ
signed a = cast_signed w32 a

abbrev pub word_less : ℕ → ℕ → Bool
word_less a b = int_lt (signed a) (signed b)

-- the upper half of the words stands for the numbers below 0
abbrev pub is_negative : ℕ → Bool
is_negative a = not (nat_lt a (2 ^ 31))

-- how far the number of a word is from 0
abbrev pub word_magnitude : ℕ → ℕ
word_magnitude a = if is_negative a then 2 ^ 32 - a else a

-- the word that is so far from 0, below it or above it
abbrev pub with_sign : Bool → ℕ → ℕ
with_sign negative n = if negative then word_negation n else n

abbrev pub differ : Bool → Bool → Bool
differ true b = not b
differ false b = b

-- there is no quotient by 0, and none of the least integer by -1
abbrev pub has_quotient : ℕ → ℕ → Bool
has_quotient a b = not (eqb b 0) && not (eqb a (2 ^ 31) && eqb b (2 ^ 32 - 1))

-- the quotient is cut off toward zero; its sign is negative where just one of the two is
abbrev pub word_quotient : ℕ → ℕ → ℕ
word_quotient a b = with_sign (differ (is_negative a) (is_negative b)) (word_magnitude a / word_magnitude b)

-- the remainder has the sign of the dividend
abbrev pub word_remainder : ℕ → ℕ → ℕ
word_remainder a b = with_sign (is_negative a) (word_magnitude a % word_magnitude b)

-- the amounts by which a word may be shifted
abbrev pub is_amount : ℕ → Bool
is_amount k = nat_lt k 32

abbrev pub word_left : ℕ → ℕ → ℕ
word_left a k = (a * 2 ^ k) % 2 ^ 32

-- what comes in from above are copies of the sign: zeros, or ones where the word is negative
abbrev pub word_right : ℕ → ℕ → ℕ
word_right a k = if is_negative a then word_complement (word_complement a / 2 ^ k) else a / 2 ^ k

-- the four partial operators, which have no value exactly where C0 has a fault
abbrev pub quotient_of : Word → Word → Option Word
quotient_of a b = if has_quotient a.0 b.0 then Some (record { 0 = word_quotient a.0 b.0 }) else None

abbrev pub remainder_of : Word → Word → Option Word
remainder_of a b = if has_quotient a.0 b.0 then Some (record { 0 = word_remainder a.0 b.0 }) else None

abbrev pub left_of : Word → Word → Option Word
left_of a k = if is_amount k.0 then Some (record { 0 = word_left a.0 k.0 }) else None

abbrev pub right_of : Word → Word → Option Word
right_of a k = if is_amount k.0 then Some (record { 0 = word_right a.0 k.0 }) else None
