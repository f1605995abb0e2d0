-- What is answered by hand of the proof of `hexadecimal_digits`.
use Rattle.std.proofs.Common.{◌≤◌, ◌<◌, ◌^◌, ℕ, sym, ◌∙◌, arith}
use Rattle.std.proofs.Math.Nat.{pow-le-pow_right}
use Rattle.c0_lex.proofs.words.hexadecimal_digits.Goals as goal

-- seven digits write a number below 2^28
small : (value n : ℕ) → value < 16 ^ n → n < 8 → value < 268435456
small value n v h =
    let some : 0 < 16 = omega arith in
    let seven : n ≤ 7 = omega arith in
    let top : 16 ^ n ≤ 16 ^ 7 = pow-le-pow_right some seven in
    omega (arith, top, v)

pub overflow_mul-value : goal.overflow_mul-value
overflow_mul-value c =
    let value = small c.loop-b.value c.loop-b.b-index c.loop-b.invariant.bound (omega (arith, c.requires)) in
    omega (arith, value)

pub overflow_add-value : goal.overflow_add-value
overflow_add-value c =
    let value = small c.loop-b.value c.loop-b.b-index c.loop-b.invariant.bound (omega (arith, c.requires)) in
    let digit = c.digit_value.ensures.below (sym c.is_hexadecimal_digit.ensures ∙ c.if-not-is_hexadecimal_digit.false) in
    omega (arith, value, digit, c.from.ensures)
