-- Terms as trees: their sorts, and what they are worth under a valuation. The operators are those
-- of C0 on words (C0 Reference, "Operators"), made total: by this project's own choice a quotient
-- and a remainder by 0 are 0, and an amount of a shift counts modulo 32.
use Rattle.std.specs.Prelude.{◌≡◌, ℕ, ◌<◌, ◌%◌, ◌^◌, Bool, true, false, not, ◌&&◌, ◌||◌, eqb, List, map, length, slice_index, slice_get, Some, if◌then◌else◌}
use Rattle.gc0_base.specs.declared.word.Word.{Word}
use Rattle.gc0_base.specs.Words.{word_sum, word_difference, word_product, word_quotient, word_remainder, word_and, word_or, word_xor, word_negation, word_complement, word_less, word_left, word_right}
use Rattle.word_terms.specs.declared.node.Sort.{Sort}
use Rattle.word_terms.specs.declared.node.Sort.TheVariants.{Word32, Truth}
use Rattle.word_terms.specs.declared.node.Op1.{Op1}
use Rattle.word_terms.specs.declared.node.Op1.TheVariants as op1
use Rattle.word_terms.specs.declared.node.Op2.{Op2}
use Rattle.word_terms.specs.declared.node.Op2.TheVariants as op2

pub data Term : Type 0 where
  symbol : ℕ → Sort → Term
  constant : ℕ → Term
  truth : Bool → Term
  unary : Op1 → Term → Term
  binary : Op2 → Term → Term → Term
  choose : Term → Term → Term → Term

-- the sort of what an operator gives
abbrev pub sort_of_unary : Op1 → Sort
sort_of_unary op1.Neg = Word32
sort_of_unary op1.Not = Word32
sort_of_unary op1.Flip = Truth

abbrev pub sort_of_binary : Op2 → Sort
sort_of_binary op2.Add = Word32
sort_of_binary op2.Sub = Word32
sort_of_binary op2.Mul = Word32
sort_of_binary op2.Div = Word32
sort_of_binary op2.Rem = Word32
sort_of_binary op2.And = Word32
sort_of_binary op2.Or = Word32
sort_of_binary op2.Xor = Word32
sort_of_binary op2.Shl = Word32
sort_of_binary op2.Shr = Word32
sort_of_binary op2.Less = Truth
sort_of_binary op2.Equal = Truth
sort_of_binary op2.Both = Truth
sort_of_binary op2.Either = Truth

abbrev pub sort_of : Term → Sort
sort_of (symbol i s) = s
sort_of (constant w) = Word32
sort_of (truth b) = Truth
sort_of (unary op a) = sort_of_unary op
sort_of (binary op a b) = sort_of_binary op
sort_of (choose c a b) = sort_of a

-- the sorts that an operator takes
abbrev pub TakesOne : Op1 → Sort → Type 0
TakesOne op s = s ≡ sort_of_unary op

abbrev pub TakesTwo : Op2 → Sort → Sort → Type 0
TakesTwo op2.Equal s t = s ≡ t
TakesTwo op2.Both s t = (s ≡ Truth) × (t ≡ Truth)
TakesTwo op2.Either s t = (s ≡ Truth) × (t ≡ Truth)
TakesTwo _ s t = (s ≡ Word32) × (t ≡ Word32)

abbrev pub TakesThree : Sort → Sort → Sort → Type 0
TakesThree c s t = (c ≡ Truth) × (s ≡ t)

-- a truth as a word
abbrev pub truth_word : Bool → ℕ
truth_word true = 1
truth_word false = 0

-- the flip of a truth's word
abbrev pub flipped : ℕ → ℕ
flipped a = truth_word (eqb a 0)

abbrev pub unary_value : Op1 → ℕ → ℕ
unary_value op1.Neg a = word_negation a
unary_value op1.Not a = word_complement a
unary_value op1.Flip a = flipped a

abbrev pub binary_value : Op2 → ℕ → ℕ → ℕ
binary_value op2.Add a b = word_sum a b
binary_value op2.Sub a b = word_difference a b
binary_value op2.Mul a b = word_product a b
binary_value op2.Div a b = if eqb b 0 then 0 else word_quotient a b
binary_value op2.Rem a b = if eqb b 0 then 0 else word_remainder a b
binary_value op2.And a b = word_and a b
binary_value op2.Or a b = word_or a b
binary_value op2.Xor a b = word_xor a b
binary_value op2.Shl a b = word_left a (b % 32)
binary_value op2.Shr a b = word_right a (b % 32)
binary_value op2.Less a b = truth_word (word_less a b)
binary_value op2.Equal a b = truth_word (eqb a b)
binary_value op2.Both a b = truth_word (not (eqb a 0) && not (eqb b 0))
binary_value op2.Either a b = truth_word (not (eqb a 0) || not (eqb b 0))

-- the second where the first is true, and else the third
abbrev pub chosen_value : ℕ → ℕ → ℕ → ℕ
chosen_value c a b = if eqb c 0 then b else a

-- what a term is worth, where each symbol stands for the word at its number
abbrev pub value : List Word → Term → ℕ
value words (symbol i s) = slice_index (map (λ w. w.0) words) i
value words (constant w) = w
value words (truth b) = truth_word b
value words (unary op a) = unary_value op (value words a)
value words (binary op a b) = binary_value op (value words a) (value words b)
value words (choose c a b) = chosen_value (value words c) (value words a) (value words b)

-- the numbers that fit a sort: words of 32 bits, and 0 and 1 for truths
abbrev pub bound_of : Sort → ℕ
bound_of Word32 = 2 ^ 32
bound_of Truth = 2

-- a word for each symbol, in the range of its sort
abbrev pub IsValuation : List Sort → List Word → Type 0
IsValuation sorts words = (length words ≡ length sorts) × ((i : ℕ) (s : Sort) → slice_get sorts i ≡ Some s → slice_index (map (λ w. w.0) words) i < bound_of s)
