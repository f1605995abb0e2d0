-- Each kind of term: a group of few enough variables, of the sort's width, that is worth what the operator is.
use Rattle.std.proofs.Common.{◌≡◌, ℕ, suc, ◌+◌, ◌*◌, ◌^◌, ◌≤◌, Bool, false, not, List, [], ◌∷◌, map, length, take, refl, sym, ◌∙◌, ap, subst, arith}
use Rattle.std.proofs.lemmas.List.{length-take}
use Rattle.sat_check.specs.declared.clause.Lit.{Lit}
use Rattle.word_terms.specs.declared.node.Sort.{Sort}
use Rattle.word_terms.specs.declared.node.Sort.TheVariants.{Word32, Truth}
use Rattle.word_terms.specs.declared.node.Op1.{Op1}
use Rattle.word_terms.specs.declared.node.Op1.TheVariants as op1
use Rattle.word_terms.specs.declared.node.Op2.{Op2}
use Rattle.word_terms.specs.declared.node.Op2.TheVariants as op2
use Rattle.word_terms.specs.Terms.{sort_of_unary, sort_of_binary, TakesTwo, unary_value, binary_value, chosen_value}
use Rattle.word_terms.specs.Weights.{unary_weight, binary_weight}
use Rattle.word_blast.specs.declared.gate.Gate.TheVariants as gate
use Rattle.word_blast.specs.Gates.{Circuit, Row, bit, bits, Holds}
use Rattle.word_blast.specs.Bits.{number, greatest, least, moved_up, moved_down, product_value}
use Rattle.word_blast.specs.Groups.{zero_lit, one_lit, flips, copies, and_of, xor_of, or_of, pick_of, equal_of, sum_of, difference_of, negation_of, less_of, barrel, left_of, right_of, product_of, signed_of, quotient_of, remainder_of}
use Rattle.word_blast.specs.Circuits.{width_of, unary_group, binary_group}
use Rattle.word_blast.proofs.Building.{LitsBelow, Formed, Builds, Builds-none, Gives}
use Rattle.word_blast.proofs.Chains.{length-each, length-add, length-flips, bits-flips, below-flips, length-bits}
use Rattle.word_blast.proofs.Grouped.{and_of-gives, xor_of-gives, or_of-gives, sum_of-gives, difference_of-gives, equal_of-gives, pick_of-gives, negation_of-gives, less_of-gives, length-copies, below-greatest}
use Rattle.word_blast.proofs.Rowed.{Moves, moved_up-moves, moved_down-moves, left_of-gives, right_of-gives, product_of-gives, length-product, length-quotient, length-remainder, product_count}
use Rattle.word_blast.proofs.Signed.{length-signed, magnitudes_count, signed_quotient, signed_remainder, quotient_of-gives, remainder_of-gives}
use Rattle.word_blast.proofs.Numbers.{number-and, number-or, number-xor}
use Rattle.word_blast.proofs.Worths.{sum-worth, difference-worth, product-worth, less-worth, left-worth, right-worth, quotient-worth, remainder-worth, negation-worth, not-worth, flip-worth, both-worth, either-worth, equal-worth, choice-worth}

-- a group on a circuit: how many variables it has at most, its width, and the number of its bits
pub record Works (k : Circuit) (r : Row) (most width : ℕ) (f : (ℕ → Bool) → ℕ) : Type 0 where
  pub cost : ℕ
  pub cheap : cost ≤ most
  pub builds : Builds k r.circuit cost
  pub inside : LitsBelow r.circuit.variables r.bits
  pub long : length r.bits ≡ width
  pub worth : (a : ℕ → Bool) → Holds a r.circuit → number (bits a r.bits) ≡ f a

from_gives : (k : Circuit) (r : Row) (n most width : ℕ) (f : (ℕ → Bool) → List Bool) (g : (ℕ → Bool) → ℕ) → Gives k r n f → n ≤ most → length r.bits ≡ width → ((a : ℕ → Bool) → number (f a) ≡ g a) → Works k r most width g
from_gives k r n most width f g h c l w = record { cost = n; cheap = c; builds = h.builds; inside = h.inside; long = l; worth = λ a held. ap number (h.worth a held) ∙ w a }

-- flips cost nothing
flips-works : (k : Circuit) (xs : List Lit) (most width : ℕ) (g : (ℕ → Bool) → ℕ) → LitsBelow k.variables xs → length xs ≡ width → ((a : ℕ → Bool) → number (map not (bits a xs)) ≡ g a)
    → Works k (record { bits = flips xs; circuit = k }) most width g
flips-works k xs most width g xb xl w = record {
  cost = 0;
  cheap = omega arith;
  builds = Builds-none k;
  inside = below-flips k.variables xs xb;
  long = length-flips xs ∙ xl;
  worth = λ a h. ap number (bits-flips a xs) ∙ w a;
}

bits-long : (a : ℕ → Bool) (xs : List Lit) (w : ℕ) → length xs ≡ w → length (bits a xs) ≡ w
bits-long a xs w e = length-bits a xs ∙ e

pub unary_group-works : (op : Op1) (xs : List Lit) (k : Circuit) → Formed k → LitsBelow k.variables xs → length xs ≡ width_of (sort_of_unary op)
    → Works k (unary_group op xs k) (4 * unary_weight op) (width_of (sort_of_unary op)) (λ a. unary_value op (number (bits a xs)))
unary_group-works op1.Neg xs k f xb xl =
    from_gives k (negation_of xs k) (2 * length xs) 640 32 _ (λ a. unary_value op1.Neg (number (bits a xs))) (negation_of-gives xs k f xb) (omega arith)
    (length-add (copies xs zero_lit) (flips xs) one_lit k (length-flips xs ∙ sym (length-copies xs zero_lit)) ∙ length-copies xs zero_lit ∙ xl)
    (λ a. negation-worth (bits a xs) (bits-long a xs 32 xl))
unary_group-works op1.Not xs k f xb xl = flips-works k xs 0 32 (λ a. unary_value op1.Not (number (bits a xs))) xb xl (λ a. not-worth (bits a xs) (bits-long a xs 32 xl))
unary_group-works op1.Flip xs k f xb xl = flips-works k xs 0 1 (λ a. unary_value op1.Flip (number (bits a xs))) xb xl (λ a. flip-worth (bits a xs) (bits-long a xs 1 xl))

-- how long what is moved is
length-barrel_of : (base : Circuit) (move : ℕ → List Lit → List Lit) (moved : (ℕ → Bool) → ℕ → List Bool → List Bool) → Moves base move moved
    → (j : ℕ) (ys xs : List Lit) (k : Circuit) → length (barrel move j ys xs k).bits ≡ length xs
unfolding barrel
length-barrel_of base move moved ms j [] xs k = refl
length-barrel_of base move moved ms j (y ∷ ys) xs k =
    let us : List Lit = move (2 ^ j) xs in
    length-barrel_of base move moved ms (suc j) ys (pick_of y us xs k).bits (pick_of y us xs k).circuit
    ∙ length-each gate.Pick us xs y k (sym (ms.long (2 ^ j) xs)) ∙ ms.long (2 ^ j) xs

-- words of 32 bits
module _ (xs ys : List Lit) (k : Circuit) (f : Formed k) (xb : LitsBelow k.variables xs) (yb : LitsBelow k.variables ys) (xl : length xs ≡ 32) (yl : length ys ≡ 32) where
  even : length ys ≡ length xs
  even = yl ∙ sym xl

  xbits : (a : ℕ → Bool) → length (bits a xs) ≡ 32
  xbits a = bits-long a xs 32 xl

  ybits : (a : ℕ → Bool) → length (bits a ys) ≡ 32
  ybits a = bits-long a ys 32 yl

  bits-even : (a : ℕ → Bool) → length (bits a ys) ≡ length (bits a xs)
  bits-even a = ybits a ∙ sym (xbits a)

  add-works : Works k (binary_group op2.Add xs ys k) 640 32 (λ a. binary_value op2.Add (number (bits a xs)) (number (bits a ys)))
  add-works =
      from_gives k (sum_of xs ys k) (2 * length xs) 640 32 _ (λ a. binary_value op2.Add (number (bits a xs)) (number (bits a ys))) (sum_of-gives xs ys k f xb yb even) (omega arith)
      (length-add xs ys zero_lit k even ∙ xl) (λ a. sum-worth (bits a xs) (bits a ys) (xbits a) (ybits a))

  sub-works : Works k (binary_group op2.Sub xs ys k) 640 32 (λ a. binary_value op2.Sub (number (bits a xs)) (number (bits a ys)))
  sub-works =
      from_gives k (difference_of xs ys k) (2 * length xs) 640 32 _ (λ a. binary_value op2.Sub (number (bits a xs)) (number (bits a ys))) (difference_of-gives xs ys k f xb yb even) (omega arith)
      (length-add xs (flips ys) one_lit k (length-flips ys ∙ even) ∙ xl) (λ a. difference-worth (bits a xs) (bits a ys) (xbits a) (ybits a))

  mul-works : Works k (binary_group op2.Mul xs ys k) 24000 32 (λ a. binary_value op2.Mul (number (bits a xs)) (number (bits a ys)))
  mul-works =
      from_gives k (product_of xs ys k) 1584 24000 32 (λ a. product_value (bits a xs) (bits a ys)) (λ a. binary_value op2.Mul (number (bits a xs)) (number (bits a ys)))
      (subst (λ n. Gives k (product_of xs ys k) n (λ a. product_value (bits a xs) (bits a ys))) (count yl) (product_of-gives xs ys k f xb yb (omega arith))) (omega arith)
      (length-product xs ys k (omega arith) ∙ yl) (λ a. product-worth (bits a xs) (bits a ys) (xbits a) (ybits a))
    where
      count : length ys ≡ 32 → product_count (length ys) ≡ 1584
      count e = ap product_count e

  div-works : Works k (binary_group op2.Div xs ys k) 40000 32 (λ a. binary_value op2.Div (number (bits a xs)) (number (bits a ys)))
  div-works =
      from_gives k (quotient_of xs ys k) 3489 40000 32 (λ a. signed_quotient (bits a xs) (bits a ys)) (λ a. binary_value op2.Div (number (bits a xs)) (number (bits a ys)))
      (subst (λ n. Gives k (quotient_of xs ys k) n (λ a. signed_quotient (bits a xs) (bits a ys))) (ap (λ w. magnitudes_count w + 1 + 5 * w) xl) (quotient_of-gives xs ys k f xb yb even)) (omega arith)
      (length-each gate.And _ _ zero_lit _ (length-copies _ _) ∙ length-signed _ _ _ ∙ length-quotient _ _ _ ∙ length-signed (greatest zero_lit xs) xs k ∙ xl)
      (λ a. quotient-worth (bits a xs) (bits a ys) (xbits a) (ybits a))

  rem-works : Works k (binary_group op2.Rem xs ys k) 40000 32 (λ a. binary_value op2.Rem (number (bits a xs)) (number (bits a ys)))
  rem-works =
      from_gives k (remainder_of xs ys k) 3488 40000 32 (λ a. signed_remainder (bits a xs) (bits a ys)) (λ a. binary_value op2.Rem (number (bits a xs)) (number (bits a ys)))
      (subst (λ n. Gives k (remainder_of xs ys k) n (λ a. signed_remainder (bits a xs) (bits a ys))) (ap (λ w. magnitudes_count w + 5 * w) xl) (remainder_of-gives xs ys k f xb yb even)) (omega arith)
      (length-each gate.And _ _ zero_lit _ (length-copies _ _) ∙ length-signed _ _ _ ∙ length-remainder _ _ _ ∙ length-signed (greatest zero_lit ys) ys (signed_of (greatest zero_lit xs) xs k).circuit ∙ yl)
      (λ a. remainder-worth (bits a xs) (bits a ys) (xbits a) (ybits a))

  and-works : Works k (binary_group op2.And xs ys k) 128 32 (λ a. binary_value op2.And (number (bits a xs)) (number (bits a ys)))
  and-works =
      from_gives k (and_of xs ys k) (length xs) 128 32 _ (λ a. binary_value op2.And (number (bits a xs)) (number (bits a ys))) (and_of-gives xs ys k f xb yb even) (omega arith)
      (length-each gate.And xs ys zero_lit k even ∙ xl) (λ a. number-and (bits a xs) (bits a ys) false (bits-even a))

  or-works : Works k (binary_group op2.Or xs ys k) 128 32 (λ a. binary_value op2.Or (number (bits a xs)) (number (bits a ys)))
  or-works =
      from_gives k (or_of xs ys k) (length xs) 128 32 _ (λ a. binary_value op2.Or (number (bits a xs)) (number (bits a ys))) (or_of-gives xs ys k f xb yb even) (omega arith)
      (length-flips (and_of (flips xs) (flips ys) k).bits ∙ length-each gate.And (flips xs) (flips ys) zero_lit k (length-flips ys ∙ even ∙ sym (length-flips xs)) ∙ length-flips xs ∙ xl)
      (λ a. number-or (bits a xs) (bits a ys) false (bits-even a))

  xor-works : Works k (binary_group op2.Xor xs ys k) 128 32 (λ a. binary_value op2.Xor (number (bits a xs)) (number (bits a ys)))
  xor-works =
      from_gives k (xor_of xs ys k) (length xs) 128 32 _ (λ a. binary_value op2.Xor (number (bits a xs)) (number (bits a ys))) (xor_of-gives xs ys k f xb yb even) (omega arith)
      (length-each gate.Xor xs ys zero_lit k even ∙ xl) (λ a. number-xor (bits a xs) (bits a ys) false (bits-even a))

  five : length (take 5 ys) * length xs ≡ 160
  five = ap (λ n. length (take 5 ys) * n) xl ∙ ap (λ n. n * 32) (let e : length (take 5 ys) ≡ 5 = omega (arith, length-take 5 ys) in e)

  shl-works : Works k (binary_group op2.Shl xs ys k) 2000 32 (λ a. binary_value op2.Shl (number (bits a xs)) (number (bits a ys)))
  shl-works =
      from_gives k (left_of xs ys k) (length (take 5 ys) * length xs) 2000 32 _ (λ a. binary_value op2.Shl (number (bits a xs)) (number (bits a ys))) (left_of-gives xs ys k f xb yb) (omega (arith, five))
      (length-barrel_of k (moved_up zero_lit) (λ a. moved_up false) (moved_up-moves k f) 0 (take 5 ys) xs k ∙ xl) (λ a. left-worth (bits a xs) (bits a ys) (xbits a) (ybits a))

  shr-works : Works k (binary_group op2.Shr xs ys k) 2000 32 (λ a. binary_value op2.Shr (number (bits a xs)) (number (bits a ys)))
  shr-works =
      let s : Lit = greatest zero_lit xs in
      from_gives k (right_of xs ys k) (length (take 5 ys) * length xs) 2000 32 _ (λ a. binary_value op2.Shr (number (bits a xs)) (number (bits a ys))) (right_of-gives xs ys k f xb yb) (omega (arith, five))
      (length-barrel_of k (moved_down s) (λ a. moved_down (bit a s)) (moved_down-moves s k (below-greatest k.variables zero_lit xs f.some xb)) 0 (take 5 ys) xs k ∙ xl)
      (λ a. right-worth (bits a xs) (bits a ys) (xbits a) (ybits a))

  less-works : Works k (binary_group op2.Less xs ys k) 640 1 (λ a. binary_value op2.Less (number (bits a xs)) (number (bits a ys)))
  less-works =
      from_gives k (less_of xs ys k) (length xs) 640 1 _ (λ a. binary_value op2.Less (number (bits a xs)) (number (bits a ys))) (less_of-gives xs ys k f xb yb even) (omega arith) refl
      (λ a. less-worth (bits a xs) (bits a ys) (xbits a) (ybits a))

-- truths
module _ (xs ys : List Lit) (k : Circuit) (f : Formed k) (xb : LitsBelow k.variables xs) (yb : LitsBelow k.variables ys) (xl : length xs ≡ 1) (yl : length ys ≡ 1) where
  both-works : Works k (binary_group op2.Both xs ys k) 4 1 (λ a. binary_value op2.Both (number (bits a xs)) (number (bits a ys)))
  both-works =
      from_gives k (and_of xs ys k) (length xs) 4 1 _ (λ a. binary_value op2.Both (number (bits a xs)) (number (bits a ys))) (and_of-gives xs ys k f xb yb (yl ∙ sym xl)) (omega arith)
      (length-each gate.And xs ys zero_lit k (yl ∙ sym xl) ∙ xl) (λ a. both-worth (bits a xs) (bits a ys) (bits-long a xs 1 xl) (bits-long a ys 1 yl))

  either-works : Works k (binary_group op2.Either xs ys k) 4 1 (λ a. binary_value op2.Either (number (bits a xs)) (number (bits a ys)))
  either-works =
      from_gives k (or_of xs ys k) (length xs) 4 1 _ (λ a. binary_value op2.Either (number (bits a xs)) (number (bits a ys))) (or_of-gives xs ys k f xb yb (yl ∙ sym xl)) (omega arith)
      (length-flips (and_of (flips xs) (flips ys) k).bits ∙ length-each gate.And (flips xs) (flips ys) zero_lit k (length-flips ys ∙ (yl ∙ sym xl) ∙ sym (length-flips xs)) ∙ length-flips xs ∙ xl)
      (λ a. either-worth (bits a xs) (bits a ys) (bits-long a xs 1 xl) (bits-long a ys 1 yl))

width-le : (s : Sort) → width_of s ≤ 32
width-le Word32 = omega arith
width-le Truth = omega arith

-- two of one sort
module _ (s : Sort) (xs ys : List Lit) (k : Circuit) (f : Formed k) (xb : LitsBelow k.variables xs) (yb : LitsBelow k.variables ys) (xl : length xs ≡ width_of s) (yl : length ys ≡ width_of s) where
  equal-works : Works k (binary_group op2.Equal xs ys k) 256 1 (λ a. binary_value op2.Equal (number (bits a xs)) (number (bits a ys)))
  equal-works =
      from_gives k (equal_of xs ys k) (2 * length xs) 256 1 _ (λ a. binary_value op2.Equal (number (bits a xs)) (number (bits a ys))) (equal_of-gives xs ys k f xb yb (yl ∙ sym xl)) (omega (arith, width-le s)) refl
      (λ a. equal-worth (bits a xs) (bits a ys) (bits-long a ys (width_of s) yl ∙ sym (bits-long a xs (width_of s) xl)))

  pub choice-works : (cs : List Lit) → LitsBelow k.variables cs → length cs ≡ 1
      → Works k (pick_of (least zero_lit cs) xs ys k) 384 (width_of s) (λ a. chosen_value (number (bits a cs)) (number (bits a xs)) (number (bits a ys)))
  choice-works [] cb cl = absurd (omega arith)
  choice-works (c ∷ cs) cb cl =
      from_gives k (pick_of c xs ys k) (length xs) 384 (width_of s) _ (λ a. chosen_value (number (bits a (c ∷ cs))) (number (bits a xs)) (number (bits a ys)))
      (pick_of-gives c xs ys k xb yb cb.0 (yl ∙ sym xl)) (omega (arith, width-le s))
      (length-each gate.Pick xs ys c k (yl ∙ sym xl) ∙ xl)
      (λ a. choice-worth (bits a (c ∷ cs)) (bits a xs) (bits a ys) (length-bits a (c ∷ cs) ∙ cl) (bits-long a ys (width_of s) yl ∙ sym (bits-long a xs (width_of s) xl)))

-- the group of each operator of two parts
pub binary_group-works : (op : Op2) (s t : Sort) (xs ys : List Lit) (k : Circuit) → TakesTwo op s t → Formed k → LitsBelow k.variables xs → LitsBelow k.variables ys
    → length xs ≡ width_of s → length ys ≡ width_of t
    → Works k (binary_group op xs ys k) (4 * binary_weight op) (width_of (sort_of_binary op)) (λ a. binary_value op (number (bits a xs)) (number (bits a ys)))
binary_group-works op2.Add s t xs ys k h f xb yb xl yl = add-works xs ys k f xb yb (xl ∙ ap width_of h.0) (yl ∙ ap width_of h.1)
binary_group-works op2.Sub s t xs ys k h f xb yb xl yl = sub-works xs ys k f xb yb (xl ∙ ap width_of h.0) (yl ∙ ap width_of h.1)
binary_group-works op2.Mul s t xs ys k h f xb yb xl yl = mul-works xs ys k f xb yb (xl ∙ ap width_of h.0) (yl ∙ ap width_of h.1)
binary_group-works op2.Div s t xs ys k h f xb yb xl yl = div-works xs ys k f xb yb (xl ∙ ap width_of h.0) (yl ∙ ap width_of h.1)
binary_group-works op2.Rem s t xs ys k h f xb yb xl yl = rem-works xs ys k f xb yb (xl ∙ ap width_of h.0) (yl ∙ ap width_of h.1)
binary_group-works op2.And s t xs ys k h f xb yb xl yl = and-works xs ys k f xb yb (xl ∙ ap width_of h.0) (yl ∙ ap width_of h.1)
binary_group-works op2.Or s t xs ys k h f xb yb xl yl = or-works xs ys k f xb yb (xl ∙ ap width_of h.0) (yl ∙ ap width_of h.1)
binary_group-works op2.Xor s t xs ys k h f xb yb xl yl = xor-works xs ys k f xb yb (xl ∙ ap width_of h.0) (yl ∙ ap width_of h.1)
binary_group-works op2.Shl s t xs ys k h f xb yb xl yl = shl-works xs ys k f xb yb (xl ∙ ap width_of h.0) (yl ∙ ap width_of h.1)
binary_group-works op2.Shr s t xs ys k h f xb yb xl yl = shr-works xs ys k f xb yb (xl ∙ ap width_of h.0) (yl ∙ ap width_of h.1)
binary_group-works op2.Less s t xs ys k h f xb yb xl yl = less-works xs ys k f xb yb (xl ∙ ap width_of h.0) (yl ∙ ap width_of h.1)
binary_group-works op2.Equal s t xs ys k h f xb yb xl yl = equal-works s xs ys k f xb yb xl (yl ∙ ap width_of (sym h))
binary_group-works op2.Both s t xs ys k h f xb yb xl yl = both-works xs ys k f xb yb (xl ∙ ap width_of h.0) (yl ∙ ap width_of h.1)
binary_group-works op2.Either s t xs ys k h f xb yb xl yl = either-works xs ys k f xb yb (xl ∙ ap width_of h.0) (yl ∙ ap width_of h.1)
