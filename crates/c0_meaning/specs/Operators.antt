-- What the operators do with words. A truth is the word 0 or 1, and `NULL` is the word 0.
-- Source: C0 Reference, "Operators"; the words themselves are those of the base crate.
use Rattle.std.specs.Prelude.{ℕ, zero, suc, Bool, true, false, not, eqb, List, Option, Some, None, if◌then◌else◌, codes}
use Rattle.std.specs.Fmt.{signed_decimal}
use Rattle.gc0_base.specs.declared.site.TrapKind.{TrapKind}
use Rattle.gc0_base.specs.declared.site.TrapKind.TheVariants as trap
use Rattle.gc0_base.specs.Words.{word_sum, word_difference, word_product, word_negation, word_and, word_or, word_xor, word_complement, word_less, signed, has_quotient, word_quotient, word_remainder, is_amount, word_left, word_right}
use Rattle.gc0_tree.specs.declared.UnaryOp.{UnaryOp}
use Rattle.gc0_tree.specs.declared.UnaryOp.TheVariants as unary
use Rattle.gc0_tree.specs.declared.ExprOp.{ExprOp}
use Rattle.gc0_tree.specs.declared.ExprOp.TheVariants as op

abbrev pub truth_word : Bool → ℕ
truth_word true = 1
truth_word false = 0

-- the first where a word is 0, and the second where it is not
abbrev pub pick : {A : Type 0} → ℕ → A → A → A
pick zero a b = a
pick (suc n) a b = b

abbrev pub unary_word : UnaryOp → ℕ → ℕ
unary_word unary.Neg x = word_negation x
unary_word unary.Not x = word_complement x
unary_word unary.Flip x = truth_word (eqb x 0)

-- the value, and none where C0 has a fault
abbrev pub binary_word : ExprOp → ℕ → ℕ → Option ℕ
binary_word op.Add x y = Some (word_sum x y)
binary_word op.Sub x y = Some (word_difference x y)
binary_word op.Mul x y = Some (word_product x y)
binary_word op.Div x y = if has_quotient x y then Some (word_quotient x y) else None
binary_word op.Rem x y = if has_quotient x y then Some (word_remainder x y) else None
binary_word op.Shl x y = if is_amount y then Some (word_left x y) else None
binary_word op.Shr x y = if is_amount y then Some (word_right x y) else None
binary_word op.And x y = Some (word_and x y)
binary_word op.Or x y = Some (word_or x y)
binary_word op.Xor x y = Some (word_xor x y)
binary_word op.Less x y = Some (truth_word (word_less x y))
binary_word op.LessEq x y = Some (truth_word (not (word_less y x)))
binary_word op.Greater x y = Some (truth_word (word_less y x))
binary_word op.GreaterEq x y = Some (truth_word (not (word_less x y)))
binary_word op.Equal x y = Some (truth_word (eqb x y))
binary_word op.NotEqual x y = Some (truth_word (not (eqb x y)))

-- the fault of the operators that have no value
abbrev pub fault_of : ExprOp → TrapKind
fault_of op.Shl = trap.Shift
fault_of op.Shr = trap.Shift
fault_of o = trap.Division

-- what `printint` writes
abbrev pub number_text : ℕ → List ℕ
number_text x = signed_decimal (signed x)

-- what `printbool` writes
abbrev pub truth_text : ℕ → List ℕ
truth_text x = pick x (codes "false") (codes "true")
