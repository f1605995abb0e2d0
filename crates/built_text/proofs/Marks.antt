-- Keywords, symbols and operators as tests on tokens.
use Rattle.std.proofs.Common.{◌≡◌, ◌≢◌, ℕ, zero, suc, ◌≤◌, true, false, cond, ◌==◌, List, ◌∷◌, Option, Some, None, refl, sym, ap, ◌∙◌, arith, eq-eqb, eqb→eq, ne_eqb}
use Rattle.std.proofs.lemmas.Float.{T_from_true}
use Rattle.built_text.specs.declared.token.Token.{Token}
use Rattle.built_text.specs.declared.token.Kind.{Kind}
use Rattle.built_text.specs.declared.token.Kind.TheVariants.{Known, Name, Number, Foreign, End}
use Rattle.built_text.specs.declared.token.Fixed.{Fixed}
use Rattle.built_text.specs.declared.token.Fixed.TheVariants as mark
use Rattle.built_text.specs.declared.tree.Operator.{Operator}
use Rattle.built_text.specs.declared.tree.Operator.TheVariants as op
use Rattle.built_text.specs.Grammar.{token, fixed, operator_mark, Written, digits, truth_word, word, result_word, before, between, round, rank, height}
use Rattle.built_text.specs.Plan.{fixed_code, is, operator_of, operator_at, of_rank}

fixed_at : ℕ → Fixed
fixed_at zero = mark.Int
fixed_at (suc zero) = mark.Bool
fixed_at (suc (suc zero)) = mark.If
fixed_at (suc (suc (suc zero))) = mark.Else
fixed_at (suc (suc (suc (suc zero)))) = mark.While
fixed_at (suc (suc (suc (suc (suc zero))))) = mark.Return
fixed_at (suc (suc (suc (suc (suc (suc zero)))))) = mark.Assert
fixed_at (suc (suc (suc (suc (suc (suc (suc zero))))))) = mark.True
fixed_at (suc (suc (suc (suc (suc (suc (suc (suc zero)))))))) = mark.False
fixed_at (suc (suc (suc (suc (suc (suc (suc (suc (suc zero))))))))) = mark.PrintInt
fixed_at (suc (suc (suc (suc (suc (suc (suc (suc (suc (suc zero)))))))))) = mark.PrintBool
fixed_at (suc (suc (suc (suc (suc (suc (suc (suc (suc (suc (suc zero))))))))))) = mark.Requires
fixed_at (suc (suc (suc (suc (suc (suc (suc (suc (suc (suc (suc (suc zero)))))))))))) = mark.Ensures
fixed_at (suc (suc (suc (suc (suc (suc (suc (suc (suc (suc (suc (suc (suc zero))))))))))))) = mark.LoopInvariant
fixed_at (suc (suc (suc (suc (suc (suc (suc (suc (suc (suc (suc (suc (suc (suc zero)))))))))))))) = mark.Outcome
fixed_at (suc (suc (suc (suc (suc (suc (suc (suc (suc (suc (suc (suc (suc (suc (suc zero))))))))))))))) = mark.Open
fixed_at (suc (suc (suc (suc (suc (suc (suc (suc (suc (suc (suc (suc (suc (suc (suc (suc zero)))))))))))))))) = mark.Close
fixed_at (suc (suc (suc (suc (suc (suc (suc (suc (suc (suc (suc (suc (suc (suc (suc (suc (suc zero))))))))))))))))) = mark.Comma
fixed_at (suc (suc (suc (suc (suc (suc (suc (suc (suc (suc (suc (suc (suc (suc (suc (suc (suc (suc zero)))))))))))))))))) = mark.OpenBrace
fixed_at (suc (suc (suc (suc (suc (suc (suc (suc (suc (suc (suc (suc (suc (suc (suc (suc (suc (suc (suc zero))))))))))))))))))) = mark.CloseBrace
fixed_at (suc (suc (suc (suc (suc (suc (suc (suc (suc (suc (suc (suc (suc (suc (suc (suc (suc (suc (suc (suc zero)))))))))))))))))))) = mark.Semicolon
fixed_at (suc (suc (suc (suc (suc (suc (suc (suc (suc (suc (suc (suc (suc (suc (suc (suc (suc (suc (suc (suc (suc zero))))))))))))))))))))) = mark.Assign
fixed_at (suc (suc (suc (suc (suc (suc (suc (suc (suc (suc (suc (suc (suc (suc (suc (suc (suc (suc (suc (suc (suc (suc zero)))))))))))))))))))))) = mark.Plus
fixed_at (suc (suc (suc (suc (suc (suc (suc (suc (suc (suc (suc (suc (suc (suc (suc (suc (suc (suc (suc (suc (suc (suc (suc zero))))))))))))))))))))))) = mark.Minus
fixed_at (suc (suc (suc (suc (suc (suc (suc (suc (suc (suc (suc (suc (suc (suc (suc (suc (suc (suc (suc (suc (suc (suc (suc (suc zero)))))))))))))))))))))))) = mark.Star
fixed_at (suc (suc (suc (suc (suc (suc (suc (suc (suc (suc (suc (suc (suc (suc (suc (suc (suc (suc (suc (suc (suc (suc (suc (suc (suc zero))))))))))))))))))))))))) = mark.Not
fixed_at (suc (suc (suc (suc (suc (suc (suc (suc (suc (suc (suc (suc (suc (suc (suc (suc (suc (suc (suc (suc (suc (suc (suc (suc (suc (suc zero)))))))))))))))))))))))))) = mark.And
fixed_at (suc (suc (suc (suc (suc (suc (suc (suc (suc (suc (suc (suc (suc (suc (suc (suc (suc (suc (suc (suc (suc (suc (suc (suc (suc (suc (suc zero))))))))))))))))))))))))))) = mark.Question
fixed_at (suc (suc (suc (suc (suc (suc (suc (suc (suc (suc (suc (suc (suc (suc (suc (suc (suc (suc (suc (suc (suc (suc (suc (suc (suc (suc (suc (suc zero)))))))))))))))))))))))))))) = mark.Equal
fixed_at (suc (suc (suc (suc (suc (suc (suc (suc (suc (suc (suc (suc (suc (suc (suc (suc (suc (suc (suc (suc (suc (suc (suc (suc (suc (suc (suc (suc (suc zero))))))))))))))))))))))))))))) = mark.NotEqual
fixed_at (suc (suc (suc (suc (suc (suc (suc (suc (suc (suc (suc (suc (suc (suc (suc (suc (suc (suc (suc (suc (suc (suc (suc (suc (suc (suc (suc (suc (suc (suc zero)))))))))))))))))))))))))))))) = mark.Less
fixed_at (suc (suc (suc (suc (suc (suc (suc (suc (suc (suc (suc (suc (suc (suc (suc (suc (suc (suc (suc (suc (suc (suc (suc (suc (suc (suc (suc (suc (suc (suc (suc zero))))))))))))))))))))))))))))))) = mark.LessEq
fixed_at (suc (suc (suc (suc (suc (suc (suc (suc (suc (suc (suc (suc (suc (suc (suc (suc (suc (suc (suc (suc (suc (suc (suc (suc (suc (suc (suc (suc (suc (suc (suc (suc zero)))))))))))))))))))))))))))))))) = mark.Greater
fixed_at (suc (suc (suc (suc (suc (suc (suc (suc (suc (suc (suc (suc (suc (suc (suc (suc (suc (suc (suc (suc (suc (suc (suc (suc (suc (suc (suc (suc (suc (suc (suc (suc (suc zero))))))))))))))))))))))))))))))))) = mark.GreaterEq
fixed_at (suc (suc (suc (suc (suc (suc (suc (suc (suc (suc (suc (suc (suc (suc (suc (suc (suc (suc (suc (suc (suc (suc (suc (suc (suc (suc (suc (suc (suc (suc (suc (suc (suc (suc zero)))))))))))))))))))))))))))))))))) = mark.Annotation
fixed_at n = mark.LineEnd

fixed_back : (f : Fixed) → fixed_at (fixed_code f) ≡ f
unfolding fixed_at
fixed_back mark.Int = refl
fixed_back mark.Bool = refl
fixed_back mark.If = refl
fixed_back mark.Else = refl
fixed_back mark.While = refl
fixed_back mark.Return = refl
fixed_back mark.Assert = refl
fixed_back mark.True = refl
fixed_back mark.False = refl
fixed_back mark.PrintInt = refl
fixed_back mark.PrintBool = refl
fixed_back mark.Requires = refl
fixed_back mark.Ensures = refl
fixed_back mark.LoopInvariant = refl
fixed_back mark.Outcome = refl
fixed_back mark.Open = refl
fixed_back mark.Close = refl
fixed_back mark.Comma = refl
fixed_back mark.OpenBrace = refl
fixed_back mark.CloseBrace = refl
fixed_back mark.Semicolon = refl
fixed_back mark.Assign = refl
fixed_back mark.Plus = refl
fixed_back mark.Minus = refl
fixed_back mark.Star = refl
fixed_back mark.Not = refl
fixed_back mark.And = refl
fixed_back mark.Question = refl
fixed_back mark.Equal = refl
fixed_back mark.NotEqual = refl
fixed_back mark.Less = refl
fixed_back mark.LessEq = refl
fixed_back mark.Greater = refl
fixed_back mark.GreaterEq = refl
fixed_back mark.Annotation = refl
fixed_back mark.LineEnd = refl

fixed_same : (f g : Fixed) → (fixed_code f == fixed_code g) ≡ true → f ≡ g
fixed_same f g e = let n : fixed_code f ≡ fixed_code g = eqb→eq (fixed_code f) (fixed_code g) (T_from_true _ e) in sym (fixed_back f) ∙ ap fixed_at n ∙ fixed_back g

pub is_kind : (f : Fixed) (k : Kind) → is f k ≡ true → k ≡ Known f
is_kind f (Known g) e = ap Known (sym (fixed_same f g e))
is_kind f (Name n) e = cc
is_kind f (Number n) e = cc
is_kind f Foreign e = cc
is_kind f End e = cc

pub is_same : (f : Fixed) → is f (Known f) ≡ true
is_same f = eq-eqb (fixed_code f) (fixed_code f) refl

-- a token with this kind
pub is_token : (f : Fixed) (t : Token) (ts : List Token) → is f t.kind ≡ true → ◌≡◌ {A = List Token} (t ∷ ts) (fixed f t.place ∷ ts)
is_token f t ts e = ap (λ k. token k t.place ∷ ts) (is_kind f t.kind e)

some_same : (a b : Operator) → ◌≡◌ {A = Option Operator} (Some a) (Some b) → a ≡ b
some_same a b e = cc

mark_is : (f : Fixed) (o : Operator) → operator_of f ≡ Some o → f ≡ operator_mark o
mark_is mark.Star o e = ap operator_mark (some_same op.Mul o e)
mark_is mark.Plus o e = ap operator_mark (some_same op.Add o e)
mark_is mark.Minus o e = ap operator_mark (some_same op.Sub o e)
mark_is mark.Less o e = ap operator_mark (some_same op.Less o e)
mark_is mark.LessEq o e = ap operator_mark (some_same op.LessEq o e)
mark_is mark.Greater o e = ap operator_mark (some_same op.Greater o e)
mark_is mark.GreaterEq o e = ap operator_mark (some_same op.GreaterEq o e)
mark_is mark.Equal o e = ap operator_mark (some_same op.Equal o e)
mark_is mark.NotEqual o e = ap operator_mark (some_same op.NotEqual o e)
mark_is f o e = cc

kind_is : (k : Kind) (o : Operator) → operator_at k ≡ Some o → k ≡ Known (operator_mark o)
kind_is (Known f) o e = ap Known (mark_is f o e)
kind_is (Name n) o e = cc
kind_is (Number n) o e = cc
kind_is Foreign o e = cc
kind_is End o e = cc

rank_is : (r : ℕ) (p : Option Operator) (o : Operator) → of_rank r p ≡ Some o → (p ≡ Some o) × (rank o ≡ r)
rank_is r None o e = cc
rank_is r (Some q) o e =
    elim (rank q == r) as (λ b. (rank q == r) ≡ b → ◌≡◌ {A = Option Operator} (cond b (Some q) None) (Some o) → (◌≡◌ {A = Option Operator} (Some q) (Some o)) × (rank o ≡ r)) [
      | true ↦ λ i z. let same : q ≡ o = cc in (ap Some same, ap rank (sym same) ∙ eqb→eq (rank q) r (T_from_true _ i))
      | false ↦ λ i z. cc
    ] refl e

-- what is taken for an operator of a rank is one
pub op_is : (r : ℕ) (k : Kind) (o : Operator) → of_rank r (operator_at k) ≡ Some o → (k ≡ Known (operator_mark o)) × (rank o ≡ r)
op_is r k o e = let p = rank_is r (operator_at k) o e in (kind_is k o p.0, p.1)

pub op_of_mark : (o : Operator) → operator_of (operator_mark o) ≡ Some o
op_of_mark op.Mul = refl
op_of_mark op.Add = refl
op_of_mark op.Sub = refl
op_of_mark op.Less = refl
op_of_mark op.LessEq = refl
op_of_mark op.Greater = refl
op_of_mark op.GreaterEq = refl
op_of_mark op.Equal = refl
op_of_mark op.NotEqual = refl

-- an operator is of its rank, and of no other
pub rank_at : (r : ℕ) (o : Operator) → rank o ≡ r → of_rank r (operator_of (operator_mark o)) ≡ Some o
rank_at r o e = ap (of_rank r) (op_of_mark o) ∙ ap (λ b. cond b (Some o) None) (eq-eqb (rank o) r e)

pub no_rank : (r : ℕ) (o : Operator) → rank o ≢ r → of_rank r (operator_of (operator_mark o)) ≡ None
no_rank r o ne = ap (of_rank r) (op_of_mark o) ∙ ap (λ b. cond b (Some o) None) (ne_eqb (rank o) r ne)

pub rank_low : (o : Operator) → suc (rank o) ≤ 4
rank_low op.Mul = omega arith
rank_low op.Add = omega arith
rank_low op.Sub = omega arith
rank_low op.Less = omega arith
rank_low op.LessEq = omega arith
rank_low op.Greater = omega arith
rank_low op.GreaterEq = omega arith
rank_low op.Equal = omega arith
rank_low op.NotEqual = omega arith

pub height_low : (x : Written) → height x ≤ 4
height_low (digits at w) = omega arith
height_low (truth_word at b) = omega arith
height_low (word at n) = omega arith
height_low (result_word at) = omega arith
height_low (before at o x) = omega arith
height_low (between x at o y) = rank_low o
height_low (round a x b) = omega arith
