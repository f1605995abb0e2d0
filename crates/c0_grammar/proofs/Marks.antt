-- Keywords, symbols, operators and libraries as tests on tokens.
use Rattle.std.proofs.Common.{◌≡◌, ◌≢◌, ℕ, zero, suc, ◌≤◌, true, false, cond, ◌==◌, List, [], ◌∷◌, Option, Some, None, refl, sym, ap, ◌∙◌, arith, eq-eqb, eqb→eq, ne_eqb, nat_le}
use Rattle.std.proofs.lemmas.Float.{T_from_true}
use Rattle.std.proofs.lemmas.Bool.{le-leb}
use Rattle.std.specs.Str.{bytes_eq}
use Rattle.std.proofs.lemmas.Slice.Eq.{bytes_eq-Decides}
use Rattle.c0_lex.specs.declared.token.Keyword.{Keyword}
use Rattle.c0_lex.specs.declared.token.Keyword.TheVariants as key
use Rattle.c0_lex.specs.declared.token.Symbol.{Symbol}
use Rattle.c0_lex.specs.declared.token.Symbol.TheVariants as mark
use Rattle.parsed_tree.specs.declared.expressions.Operator.{Operator}
use Rattle.parsed_tree.specs.declared.expressions.Operator.TheVariants as op
use Rattle.parsed_tree.specs.declared.statements.UpdateOperator.{UpdateOperator}
use Rattle.parsed_tree.specs.declared.statements.UpdateOperator.TheVariants as update
use Rattle.parsed_tree.specs.declared.statements.StepOperator.{StepOperator}
use Rattle.parsed_tree.specs.declared.statements.StepOperator.TheVariants as by_one
use Rattle.parsed_tree.specs.declared.items.Library.{Library}
use Rattle.parsed_tree.specs.declared.items.Library.TheVariants as library
use Rattle.c0_grammar.specs.Tokens.{Fixed, word_mark, sign_mark, use_mark, open_mark, close_mark, end_mark, What, fixed, name_what, number_what, text_what, Token, token}
use Rattle.c0_grammar.specs.Written.{operator_symbol, Written, digits, truth_token, null_token, word, result_word, before, between, choice, round, called, called_text, allocated, arrow_to, permission}
use Rattle.c0_grammar.specs.Allowed.{rank, ranks, height}
use Rattle.c0_grammar.specs.Texts.{update_symbol, step_symbol, library_name}
use Rattle.c0_grammar.specs.Plan.{keyword_code, symbol_code, same_fixed, is, operator_of, operator_at, of_rank, update_of, update_at, step_of, step_at, library_of}

-- ---- the codes of keywords and symbols, read back
nth : {A : Type 0} → A → List A → ℕ → A
nth z [] n = z
nth z (x ∷ xs) zero = x
nth z (x ∷ xs) (suc n) = nth z xs n

keywords : List Keyword
keywords = key.Int ∷ key.Bool ∷ key.Void ∷ key.Struct ∷ key.Typedef ∷ key.If ∷ key.Else ∷ key.While ∷ key.For ∷ key.Return ∷ key.Assert ∷ key.Error ∷ key.True ∷ key.False ∷ key.Null ∷ key.Alloc ∷ key.String ∷ key.Char ∷ key.Break ∷ key.Continue ∷ key.AllocArray ∷ key.Requires ∷ key.Ensures ∷ key.LoopInvariant ∷ key.Fold ∷ key.Unfold ∷ key.Predicate ∷ key.Acc ∷ key.Outcome ∷ []

symbols : List Symbol
symbols = mark.OpenParen ∷ mark.CloseParen ∷ mark.OpenBrace ∷ mark.CloseBrace ∷ mark.Comma ∷ mark.Semicolon ∷ mark.Arrow ∷ mark.Assign ∷ mark.AddAssign ∷ mark.SubAssign ∷ mark.MulAssign ∷ mark.DivAssign ∷ mark.RemAssign ∷ mark.AndAssign ∷ mark.XorAssign ∷ mark.OrAssign ∷ mark.ShlAssign ∷ mark.ShrAssign ∷ mark.Increment ∷ mark.Decrement ∷ mark.Not ∷ mark.Tilde ∷ mark.Minus ∷ mark.Star ∷ mark.Slash ∷ mark.Percent ∷ mark.Plus ∷ mark.ShiftLeft ∷ mark.ShiftRight ∷ mark.Less ∷ mark.LessEq ∷ mark.Greater ∷ mark.GreaterEq ∷ mark.Equal ∷ mark.NotEqual ∷ mark.And ∷ mark.Xor ∷ mark.Or ∷ mark.Both ∷ mark.Either ∷ mark.Question ∷ mark.Colon ∷ []

keyword_back : (k : Keyword) → nth key.Int keywords (keyword_code k) ≡ k
unfolding nth keywords
keyword_back key.Int = refl
keyword_back key.Bool = refl
keyword_back key.Void = refl
keyword_back key.Struct = refl
keyword_back key.Typedef = refl
keyword_back key.If = refl
keyword_back key.Else = refl
keyword_back key.While = refl
keyword_back key.For = refl
keyword_back key.Return = refl
keyword_back key.Assert = refl
keyword_back key.Error = refl
keyword_back key.True = refl
keyword_back key.False = refl
keyword_back key.Null = refl
keyword_back key.Alloc = refl
keyword_back key.String = refl
keyword_back key.Char = refl
keyword_back key.Break = refl
keyword_back key.Continue = refl
keyword_back key.AllocArray = refl
keyword_back key.Requires = refl
keyword_back key.Ensures = refl
keyword_back key.LoopInvariant = refl
keyword_back key.Fold = refl
keyword_back key.Unfold = refl
keyword_back key.Predicate = refl
keyword_back key.Acc = refl
keyword_back key.Outcome = refl

symbol_back : (s : Symbol) → nth mark.OpenParen symbols (symbol_code s) ≡ s
unfolding nth symbols
symbol_back mark.OpenParen = refl
symbol_back mark.CloseParen = refl
symbol_back mark.OpenBrace = refl
symbol_back mark.CloseBrace = refl
symbol_back mark.Comma = refl
symbol_back mark.Semicolon = refl
symbol_back mark.Arrow = refl
symbol_back mark.Assign = refl
symbol_back mark.AddAssign = refl
symbol_back mark.SubAssign = refl
symbol_back mark.MulAssign = refl
symbol_back mark.DivAssign = refl
symbol_back mark.RemAssign = refl
symbol_back mark.AndAssign = refl
symbol_back mark.XorAssign = refl
symbol_back mark.OrAssign = refl
symbol_back mark.ShlAssign = refl
symbol_back mark.ShrAssign = refl
symbol_back mark.Increment = refl
symbol_back mark.Decrement = refl
symbol_back mark.Not = refl
symbol_back mark.Tilde = refl
symbol_back mark.Minus = refl
symbol_back mark.Star = refl
symbol_back mark.Slash = refl
symbol_back mark.Percent = refl
symbol_back mark.Plus = refl
symbol_back mark.ShiftLeft = refl
symbol_back mark.ShiftRight = refl
symbol_back mark.Less = refl
symbol_back mark.LessEq = refl
symbol_back mark.Greater = refl
symbol_back mark.GreaterEq = refl
symbol_back mark.Equal = refl
symbol_back mark.NotEqual = refl
symbol_back mark.And = refl
symbol_back mark.Xor = refl
symbol_back mark.Or = refl
symbol_back mark.Both = refl
symbol_back mark.Either = refl
symbol_back mark.Question = refl
symbol_back mark.Colon = refl

pub keyword_same : (k l : Keyword) → (keyword_code k == keyword_code l) ≡ true → k ≡ l
keyword_same k l e = sym (keyword_back k) ∙ ap (nth key.Int keywords) (eqb→eq (keyword_code k) (keyword_code l) (T_from_true _ e)) ∙ keyword_back l

pub symbol_same : (s t : Symbol) → (symbol_code s == symbol_code t) ≡ true → s ≡ t
symbol_same s t e = sym (symbol_back s) ∙ ap (nth mark.OpenParen symbols) (eqb→eq (symbol_code s) (symbol_code t) (T_from_true _ e)) ∙ symbol_back t

fixed_same : (f g : Fixed) → same_fixed f g ≡ true → g ≡ f
fixed_same (word_mark k) (word_mark l) e = ap word_mark (sym (keyword_same k l e))
fixed_same (sign_mark s) (sign_mark t) e = ap sign_mark (sym (symbol_same s t e))
fixed_same use_mark use_mark e = refl
fixed_same open_mark open_mark e = refl
fixed_same close_mark close_mark e = refl
fixed_same end_mark end_mark e = refl
fixed_same f g e = cc

-- what is taken for this fixed token is it
pub is_fixed : (f : Fixed) (w : What) → is f w ≡ true → w ≡ fixed f
is_fixed f (fixed g) e = ap fixed (fixed_same f g e)
is_fixed f (name_what n) e = cc
is_fixed f (number_what n) e = cc
is_fixed f (text_what b) e = cc

pub is_self : (f : Fixed) → is f (fixed f) ≡ true
is_self (word_mark k) = eq-eqb (keyword_code k) (keyword_code k) refl
is_self (sign_mark s) = eq-eqb (symbol_code s) (symbol_code s) refl
is_self use_mark = refl
is_self open_mark = refl
is_self close_mark = refl
is_self end_mark = refl

-- a token that is this fixed one
pub is_token : (f : Fixed) (t : Token) (ts : List Token) → is f t.what ≡ true → ◌≡◌ {A = List Token} (t ∷ ts) (token (fixed f) t.place ∷ ts)
is_token f t ts e = ap (λ w. token w t.place ∷ ts) (is_fixed f t.what e)

-- ---- operators
some_same : {A : Type 0} (a b : A) → ◌≡◌ {A = Option A} (Some a) (Some b) → a ≡ b
some_same a b e = cc

operator_symbol_is : (s : Symbol) (o : Operator) → operator_of s ≡ Some o → s ≡ operator_symbol o
operator_symbol_is mark.Star o e = ap operator_symbol (some_same op.Mul o e)
operator_symbol_is mark.Slash o e = ap operator_symbol (some_same op.Div o e)
operator_symbol_is mark.Percent o e = ap operator_symbol (some_same op.Rem o e)
operator_symbol_is mark.Plus o e = ap operator_symbol (some_same op.Add o e)
operator_symbol_is mark.Minus o e = ap operator_symbol (some_same op.Sub o e)
operator_symbol_is mark.ShiftLeft o e = ap operator_symbol (some_same op.Shl o e)
operator_symbol_is mark.ShiftRight o e = ap operator_symbol (some_same op.Shr o e)
operator_symbol_is mark.Less o e = ap operator_symbol (some_same op.Less o e)
operator_symbol_is mark.LessEq o e = ap operator_symbol (some_same op.LessEq o e)
operator_symbol_is mark.Greater o e = ap operator_symbol (some_same op.Greater o e)
operator_symbol_is mark.GreaterEq o e = ap operator_symbol (some_same op.GreaterEq o e)
operator_symbol_is mark.Equal o e = ap operator_symbol (some_same op.Equal o e)
operator_symbol_is mark.NotEqual o e = ap operator_symbol (some_same op.NotEqual o e)
operator_symbol_is mark.And o e = ap operator_symbol (some_same op.And o e)
operator_symbol_is mark.Xor o e = ap operator_symbol (some_same op.Xor o e)
operator_symbol_is mark.Or o e = ap operator_symbol (some_same op.Or o e)
operator_symbol_is mark.Both o e = ap operator_symbol (some_same op.Both o e)
operator_symbol_is mark.Either o e = ap operator_symbol (some_same op.Either o e)
operator_symbol_is s o e = cc

operator_what : (w : What) (o : Operator) → operator_at w ≡ Some o → w ≡ fixed (sign_mark (operator_symbol o))
operator_what (fixed (sign_mark s)) o e = ap (λ t. fixed (sign_mark t)) (operator_symbol_is s o e)
operator_what w o e = cc

rank_is : (r : ℕ) (p : Option Operator) (o : Operator) → of_rank r p ≡ Some o → (p ≡ Some o) × (rank o ≡ r)
rank_is r None o e = cc
rank_is r (Some q) o e =
    elim (rank q == r) as (λ b. (rank q == r) ≡ b → ◌≡◌ {A = Option Operator} (cond b (Some q) None) (Some o) → (◌≡◌ {A = Option Operator} (Some q) (Some o)) × (rank o ≡ r)) [
      | true ↦ λ i z. let same : q ≡ o = cc in (ap Some same, ap rank (sym same) ∙ eqb→eq (rank q) r (T_from_true _ i))
      | false ↦ λ i z. cc
    ] refl e

-- what is taken for an operator of a rank is one
pub operator_is : (r : ℕ) (w : What) (o : Operator) → of_rank r (operator_at w) ≡ Some o → (w ≡ fixed (sign_mark (operator_symbol o))) × (rank o ≡ r)
operator_is r w o e = let p = rank_is r (operator_at w) o e in (operator_what w o p.0, p.1)

pub operator_back : (o : Operator) → operator_of (operator_symbol o) ≡ Some o
operator_back op.Mul = refl
operator_back op.Div = refl
operator_back op.Rem = refl
operator_back op.Add = refl
operator_back op.Sub = refl
operator_back op.Shl = refl
operator_back op.Shr = refl
operator_back op.Less = refl
operator_back op.LessEq = refl
operator_back op.Greater = refl
operator_back op.GreaterEq = refl
operator_back op.Equal = refl
operator_back op.NotEqual = refl
operator_back op.And = refl
operator_back op.Xor = refl
operator_back op.Or = refl
operator_back op.Both = refl
operator_back op.Either = refl

-- an operator is of its rank, and of no other
pub rank_at : (r : ℕ) (o : Operator) → rank o ≡ r → of_rank r (operator_of (operator_symbol o)) ≡ Some o
rank_at r o e = ap (of_rank r) (operator_back o) ∙ ap (λ b. cond b (Some o) None) (eq-eqb (rank o) r e)

pub no_rank : (r : ℕ) (o : Operator) → rank o ≢ r → of_rank r (operator_of (operator_symbol o)) ≡ None
no_rank r o ne = ap (of_rank r) (operator_back o) ∙ ap (λ b. cond b (Some o) None) (ne_eqb (rank o) r ne)

pub rank_low : (o : Operator) → suc (rank o) ≤ ranks
rank_low op.Mul = omega arith
rank_low op.Div = omega arith
rank_low op.Rem = omega arith
rank_low op.Add = omega arith
rank_low op.Sub = omega arith
rank_low op.Shl = omega arith
rank_low op.Shr = omega arith
rank_low op.Less = omega arith
rank_low op.LessEq = omega arith
rank_low op.Greater = omega arith
rank_low op.GreaterEq = omega arith
rank_low op.Equal = omega arith
rank_low op.NotEqual = omega arith
rank_low op.And = omega arith
rank_low op.Xor = omega arith
rank_low op.Or = omega arith
rank_low op.Both = omega arith
rank_low op.Either = omega arith

pub height_low : (x : Written) → height x ≤ suc ranks
height_low (digits at w) = omega arith
height_low (truth_token at b) = omega arith
height_low (null_token at) = omega arith
height_low (word at n) = omega arith
height_low (result_word at) = omega arith
height_low (before at o x) = omega arith
height_low (between x at o y) = omega (arith, rank_low o)
height_low (choice x q y c z) = omega arith
height_low (round a x b) = omega arith
height_low (called at n a xs b) = omega arith
height_low (called_text at n a t bytes b) = omega arith
height_low (allocated at a t b) = omega arith
height_low (arrow_to x at f n) = omega arith
height_low (permission at a x p f n b) = omega arith

-- ---- what assigns, and what steps
update_symbol_is : (s : Symbol) (o : Option UpdateOperator) → update_of s ≡ Some o → s ≡ update_symbol o
update_symbol_is mark.Assign o e = ap update_symbol (some_same None o e)
update_symbol_is mark.AddAssign o e = ap update_symbol (some_same (Some update.Add) o e)
update_symbol_is mark.SubAssign o e = ap update_symbol (some_same (Some update.Sub) o e)
update_symbol_is mark.MulAssign o e = ap update_symbol (some_same (Some update.Mul) o e)
update_symbol_is mark.DivAssign o e = ap update_symbol (some_same (Some update.Div) o e)
update_symbol_is mark.RemAssign o e = ap update_symbol (some_same (Some update.Rem) o e)
update_symbol_is mark.AndAssign o e = ap update_symbol (some_same (Some update.And) o e)
update_symbol_is mark.XorAssign o e = ap update_symbol (some_same (Some update.Xor) o e)
update_symbol_is mark.OrAssign o e = ap update_symbol (some_same (Some update.Or) o e)
update_symbol_is mark.ShlAssign o e = ap update_symbol (some_same (Some update.Shl) o e)
update_symbol_is mark.ShrAssign o e = ap update_symbol (some_same (Some update.Shr) o e)
update_symbol_is s o e = cc

pub update_is : (w : What) (o : Option UpdateOperator) → update_at w ≡ Some o → w ≡ fixed (sign_mark (update_symbol o))
update_is (fixed (sign_mark s)) o e = ap (λ t. fixed (sign_mark t)) (update_symbol_is s o e)
update_is w o e = cc

pub update_back : (o : Option UpdateOperator) → update_of (update_symbol o) ≡ Some o
update_back None = refl
update_back (Some update.Add) = refl
update_back (Some update.Sub) = refl
update_back (Some update.Mul) = refl
update_back (Some update.Div) = refl
update_back (Some update.Rem) = refl
update_back (Some update.And) = refl
update_back (Some update.Xor) = refl
update_back (Some update.Or) = refl
update_back (Some update.Shl) = refl
update_back (Some update.Shr) = refl

step_symbol_is : (s : Symbol) (o : StepOperator) → step_of s ≡ Some o → s ≡ step_symbol o
step_symbol_is mark.Increment o e = ap step_symbol (some_same by_one.Increment o e)
step_symbol_is mark.Decrement o e = ap step_symbol (some_same by_one.Decrement o e)
step_symbol_is s o e = cc

pub step_is : (w : What) (o : StepOperator) → step_at w ≡ Some o → w ≡ fixed (sign_mark (step_symbol o))
step_is (fixed (sign_mark s)) o e = ap (λ t. fixed (sign_mark t)) (step_symbol_is s o e)
step_is w o e = cc

pub step_back : (o : StepOperator) → step_of (step_symbol o) ≡ Some o
step_back by_one.Increment = refl
step_back by_one.Decrement = refl

-- a step is no assignment
pub no_update : (o : StepOperator) → update_of (step_symbol o) ≡ None
no_update by_one.Increment = refl
no_update by_one.Decrement = refl

-- ---- libraries
pub library_is : (n : List ℕ) (l : Library) → library_of n ≡ Some l → n ≡ library_name l
library_is n l e =
    elim (bytes_eq n (library_name library.Conio)) as (λ b. bytes_eq n (library_name library.Conio) ≡ b → ◌≡◌ {A = Option Library} (cond b (Some library.Conio) (cond (bytes_eq n (library_name library.Intio)) (Some library.Intio) None)) (Some l) → n ≡ library_name l) [
      | true ↦ λ i z. (bytes_eq-Decides n (library_name library.Conio)).0 i ∙ ap library_name (some_same library.Conio l z)
      | false ↦ λ i z. elim (bytes_eq n (library_name library.Intio)) as (λ b. bytes_eq n (library_name library.Intio) ≡ b → ◌≡◌ {A = Option Library} (cond b (Some library.Intio) None) (Some l) → n ≡ library_name l) [
        | true ↦ λ j y. (bytes_eq-Decides n (library_name library.Intio)).0 j ∙ ap library_name (some_same library.Intio l y)
        | false ↦ λ j y. cc
      ] refl z
    ] refl e

pub library_back : (l : Library) → library_of (library_name l) ≡ Some l
library_back library.Conio = refl
library_back library.Intio = refl

-- ---- how many nodes there may be
pub within : (a limit : ℕ) → a ≤ limit → nat_le a limit ≡ true
within a limit e = le-leb a limit e
