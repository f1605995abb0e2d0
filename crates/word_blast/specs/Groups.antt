-- The clauses of each kind of term, as gates one after another. Bits stand least first.
use Rattle.std.specs.Prelude.{ℕ, zero, suc, ◌^◌, true, false, List, [], ◌∷◌, ◌++◌, map, length, take, replicate}
use Rattle.sat_check.specs.declared.clause.Lit.{Lit}
use Rattle.sat_check.specs.Clauses.{opposite_of}
use Rattle.word_blast.specs.declared.gate.Gate.{Gate}
use Rattle.word_blast.specs.declared.gate.Gate.TheVariants as gate
use Rattle.word_blast.specs.Bits.{greatest, top_changed, moved_up, moved_down}
use Rattle.word_blast.specs.Gates.{Circuit, Made, Row, lit_of, constant_lit, emit}

abbrev pub zero_lit : Lit
zero_lit = constant_lit false

abbrev pub one_lit : Lit
one_lit = constant_lit true

-- the flips of bits
abbrev pub flips : List Lit → List Lit
flips ls = map opposite_of ls

-- so many copies of a bit as another word has bits
abbrev pub copies : List Lit → Lit → List Lit
copies xs l = replicate (length xs) l

-- so many new variables
abbrev pub lits_from : ℕ → ℕ → List Lit
lits_from v zero = []
lits_from v (suc n) = lit_of v ∷ lits_from (suc v) n

-- the same gate at each place of two words, and a third bit
unfoldable pub each : Gate → List Lit → List Lit → Lit → Circuit → Row
each g [] ys z k = record { bits = []; circuit = k }
each g (x ∷ xs) [] z k = record { bits = []; circuit = k }
each g (x ∷ xs) (y ∷ ys) z k =
    let first = emit g x y z k in
    let rest = each g xs ys z first.circuit in
    record { bits = first.lit ∷ rest.bits; circuit = rest.circuit }

-- the sum of two words and a carry, with the carry out of the last place
pub record Added : Type 0 where
  pub bits : List Lit
  pub carry : Lit
  pub circuit : Circuit

unfoldable pub add : List Lit → List Lit → Lit → Circuit → Added
add [] ys c k = record { bits = []; carry = c; circuit = k }
add (x ∷ xs) [] c k = record { bits = []; carry = c; circuit = k }
add (x ∷ xs) (y ∷ ys) c k =
    let sum = emit gate.Sum x y c k in
    let over = emit gate.Carry x y c sum.circuit in
    let rest = add xs ys over.lit over.circuit in
    record { bits = sum.lit ∷ rest.bits; carry = rest.carry; circuit = rest.circuit }

-- the carry out of the last place alone
unfoldable pub carry : List Lit → List Lit → Lit → Circuit → Made
carry [] ys c k = record { lit = c; circuit = k }
carry (x ∷ xs) [] c k = record { lit = c; circuit = k }
carry (x ∷ xs) (y ∷ ys) c k =
    let over = emit gate.Carry x y c k in
    carry xs ys over.lit over.circuit

-- whether a bit is true and all of a word are
unfoldable pub all : Lit → List Lit → Circuit → Made
all b [] k = record { lit = b; circuit = k }
all b (x ∷ xs) k =
    let first = emit gate.And b x x k in
    all first.lit xs first.circuit

-- the word of one bit
abbrev pub single : Made → Row
single m = record { bits = m.lit ∷ []; circuit = m.circuit }

abbrev pub summed : Added → Row
summed s = record { bits = s.bits; circuit = s.circuit }

-- bit by bit
abbrev pub and_of : List Lit → List Lit → Circuit → Row
and_of xs ys k = each gate.And xs ys zero_lit k

abbrev pub xor_of : List Lit → List Lit → Circuit → Row
xor_of xs ys k = each gate.Xor xs ys zero_lit k

abbrev pub or_of : List Lit → List Lit → Circuit → Row
or_of xs ys k =
    let both = and_of (flips xs) (flips ys) k in
    record { bits = flips both.bits; circuit = both.circuit }

-- the first word where the bit is true, else the second
abbrev pub pick_of : Lit → List Lit → List Lit → Circuit → Row
pick_of z xs ys k = each gate.Pick xs ys z k

-- no place differs
abbrev pub equal_of : List Lit → List Lit → Circuit → Row
equal_of xs ys k =
    let apart = xor_of xs ys k in
    single (all one_lit (flips apart.bits) apart.circuit)

-- sums, and differences by the complement
abbrev pub sum_of : List Lit → List Lit → Circuit → Row
sum_of xs ys k = summed (add xs ys zero_lit k)

abbrev pub difference_of : List Lit → List Lit → Circuit → Row
difference_of xs ys k = summed (add xs (flips ys) one_lit k)

abbrev pub negation_of : List Lit → Circuit → Row
negation_of xs k = summed (add (copies xs zero_lit) (flips xs) one_lit k)

-- below, by the signed order, which is the order of the numbers with the greatest bits flipped: their
-- difference has no carry
abbrev pub less_of : List Lit → List Lit → Circuit → Row
less_of xs ys k =
    let over = carry (top_changed opposite_of xs) (flips (top_changed opposite_of ys)) one_lit k in
    record { bits = opposite_of over.lit ∷ []; circuit = over.circuit }

-- moved by 2^j where the bit of 2^j is true, from a first j on
unfoldable pub barrel : (ℕ → List Lit → List Lit) → ℕ → List Lit → List Lit → Circuit → Row
barrel move j [] xs k = record { bits = xs; circuit = k }
barrel move j (y ∷ ys) xs k =
    let first = pick_of y (move (2 ^ j) xs) xs k in
    barrel move (suc j) ys first.bits first.circuit

-- an amount counts modulo 32
abbrev pub left_of : List Lit → List Lit → Circuit → Row
left_of xs ys k = barrel (moved_up zero_lit) 0 (take 5 ys) xs k

abbrev pub right_of : List Lit → List Lit → Circuit → Row
right_of xs ys k = barrel (moved_down (greatest zero_lit xs)) 0 (take 5 ys) xs k

-- a row of a product: twice what is so far, and the first word where the bit is true
abbrev pub product_row : List Lit → Lit → ℕ → List Lit → Circuit → Row
product_row xs y n high k =
    let row = and_of (take n xs) (replicate n y) k in
    summed (add (zero_lit ∷ high) row.bits zero_lit row.circuit)

-- the product, from the last bit of the second word to its first. It has so many bits as the second word.
unfoldable pub product_of : List Lit → List Lit → Circuit → Row
product_of xs [] k = record { bits = []; circuit = k }
product_of xs (y ∷ ys) k =
    let high = product_of xs ys k in
    product_row xs y (suc (length ys)) high.bits high.circuit

-- quotient and remainder of numbers without sign
pub record Divided : Type 0 where
  pub quotient : List Lit
  pub remainder : List Lit
  pub circuit : Circuit

-- a bit of a quotient, and the remainder after it
pub record Quotient : Type 0 where
  pub bit : Lit
  pub remainder : List Lit
  pub circuit : Circuit

-- the complement of a divisor, with one place more
abbrev pub subtrahend_of : List Lit → List Lit
subtrahend_of ys = flips (ys ++ zero_lit ∷ [])

-- a row of a division: the remainder doubled with the next bit, less the divisor where that fits
abbrev pub divide_row : Lit → List Lit → List Lit → ℕ → Circuit → Quotient
divide_row x remainder subtrahend n k =
    let rest = x ∷ remainder in
    let less = add rest subtrahend one_lit k in
    let kept = pick_of less.carry (take n less.bits) (take n rest) less.circuit in
    record { bit = less.carry; remainder = kept.bits; circuit = kept.circuit }

-- from the last bit of the dividend to its first
unfoldable pub divide : List Lit → List Lit → Circuit → Divided
divide [] ys k = record { quotient = []; remainder = copies ys zero_lit; circuit = k }
divide (x ∷ xs) ys k =
    let high = divide xs ys k in
    let row = divide_row x high.remainder (subtrahend_of ys) (length ys) high.circuit in
    record { quotient = row.bit ∷ high.quotient; remainder = row.remainder; circuit = row.circuit }

-- a number with its sign flipped where the bit is true
abbrev pub signed_of : Lit → List Lit → Circuit → Row
signed_of s xs k =
    let flipped = xor_of xs (copies xs s) k in
    summed (add (copies xs zero_lit) flipped.bits s flipped.circuit)

-- the word where the bit is true, and else 0
abbrev pub masked : Lit → List Lit → Circuit → Row
masked b xs k = and_of xs (copies xs b) k

-- whether a word isn't 0
abbrev pub nonzero : List Lit → Circuit → Made
nonzero xs k =
    let none = all one_lit (flips xs) k in
    record { lit = opposite_of none.lit; circuit = none.circuit }

-- a number with its sign, or 0 where the other word is 0
abbrev pub signed_unless_zero : Lit → List Lit → List Lit → Circuit → Row
signed_unless_zero s zs ys k =
    let whole = signed_of s zs k in
    let some = nonzero ys whole.circuit in
    masked some.lit whole.bits some.circuit

-- the quotient and the remainder of the magnitudes
abbrev pub magnitudes_divided : List Lit → List Lit → Circuit → Divided
magnitudes_divided xs ys k =
    let left = signed_of (greatest zero_lit xs) xs k in
    let right = signed_of (greatest zero_lit ys) ys left.circuit in
    divide left.bits right.bits right.circuit

-- the quotient is negative where one of the two is, and 0 by 0
abbrev pub quotient_of : List Lit → List Lit → Circuit → Row
quotient_of xs ys k =
    let parts = magnitudes_divided xs ys k in
    let sign = emit gate.Xor (greatest zero_lit xs) (greatest zero_lit ys) zero_lit parts.circuit in
    signed_unless_zero sign.lit parts.quotient ys sign.circuit

-- the remainder has the sign of the dividend, and is 0 by 0
abbrev pub remainder_of : List Lit → List Lit → Circuit → Row
remainder_of xs ys k =
    let parts = magnitudes_divided xs ys k in
    signed_unless_zero (greatest zero_lit xs) parts.remainder ys parts.circuit
