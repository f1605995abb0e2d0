-- Worked examples: tokens, the tree that they are, and where they first go wrong. The trees and the
-- places were worked out by hand from the grammar of the C0 Reference.
use Rattle.std.specs.Prelude.{◌≡◌, ℕ, zero, suc, List, [], ◌∷◌, ◌++◌, Some, Ok, Err, refl}
use Rattle.gc0_base.specs.declared.place.Place.{Place}
use Rattle.gc0_base.specs.declared.word.Word.{Word}
use Rattle.c0_lex.specs.declared.token.Keyword.TheVariants as key
use Rattle.c0_lex.specs.declared.token.Symbol.TheVariants as mark
use Rattle.parsed_tree.specs.declared.expressions.Base.TheVariants as base
use Rattle.parsed_tree.specs.declared.expressions.UnaryOperator.TheVariants as unary_op
use Rattle.parsed_tree.specs.declared.expressions.Operator.TheVariants as op
use Rattle.parsed_tree.specs.declared.expressions.Spot.{Spot}
use Rattle.parsed_tree.specs.declared.items.ResultType.TheVariants as result
use Rattle.parsed_tree.specs.Tree.{local, unary, binary, choose, arrow, simple_stmt, plain, if_stmt, return_stmt, StmtTrees, no_stmts, stmt_and, function_item, ProgramTree}
use Rattle.c0_grammar.specs.Tokens.{Token, keyword, symbol, name_token, number_token, begins_annotation, end_token}
use Rattle.c0_grammar.specs.Written.{named_at}
use Rattle.c0_grammar.specs.Plan.{syntax_at, deep_at, run, start}

-- a place in the first line
abbrev at : ℕ → Place
at n = record { line = 1; column = n }

abbrev one : Word
one = record { 0 = 1 }

-- the names `main`, `a`, `b`, `c` and `f`
abbrev main_name : List ℕ
main_name = 109 ∷ 97 ∷ 105 ∷ 110 ∷ []

abbrev a_name : List ℕ
a_name = 97 ∷ []

abbrev b_name : List ℕ
b_name = 98 ∷ []

abbrev c_name : List ℕ
c_name = 99 ∷ []

abbrev f_name : List ℕ
f_name = 102 ∷ []

-- `int main() {`, and what stands behind it
abbrev in_main : List Token → List Token
in_main rest = keyword key.Int (at 1) ∷ name_token main_name (at 5) ∷ symbol mark.OpenParen (at 9) ∷ symbol mark.CloseParen (at 10) ∷ symbol mark.OpenBrace (at 12) ∷ rest

-- `}` and the end of the text
abbrev closed : List Token
closed = symbol mark.CloseBrace (at 98) ∷ end_token (at 99) ∷ []

abbrev program_of : StmtTrees → ProgramTree
program_of ss = record { uses = []; items = function_item (record { result = result.Typed (record { place = at 1; base = base.Int; stars = 0 }); name = named_at (at 5) main_name; params = [] }) [] ss (at 98) ∷ [] }

abbrev spot : ℕ → Spot
spot n = record { place = at n; first = at n }

-- an operator at a place, behind a left side that begins at another
abbrev behind : ℕ → ℕ → Spot
behind n first = record { place = at n; first = at first }

-- `return a - b - c;` is `return (a - b) - c;`
left_first : run 100 start (in_main (keyword key.Return (at 14) ∷ name_token a_name (at 21) ∷ symbol mark.Minus (at 23) ∷ name_token b_name (at 25) ∷ symbol mark.Minus (at 27) ∷ name_token c_name (at 29) ∷ symbol mark.Semicolon (at 30) ∷ closed))
    ≡ Ok (program_of (stmt_and (return_stmt (at 14) (Some (binary (behind 27 21) op.Sub (binary (behind 23 21) op.Sub (local (spot 21) a_name) (local (spot 25) b_name)) (local (spot 29) c_name)))) no_stmts))
left_first = refl

-- `return -a->f;` is `return -(a->f);`
arrow_first : run 100 start (in_main (keyword key.Return (at 14) ∷ symbol mark.Minus (at 21) ∷ name_token a_name (at 22) ∷ symbol mark.Arrow (at 23) ∷ name_token f_name (at 25) ∷ symbol mark.Semicolon (at 26) ∷ closed))
    ≡ Ok (program_of (stmt_and (return_stmt (at 14) (Some (unary (spot 21) unary_op.Negate (arrow (behind 23 22) (local (spot 22) a_name) (named_at (at 25) f_name))))) no_stmts))
arrow_first = refl

-- `return a ? b : c ? a : b;` is `return a ? b : (c ? a : b);`
right_first : run 100 start (in_main (keyword key.Return (at 14) ∷ name_token a_name (at 21) ∷ symbol mark.Question (at 23) ∷ name_token b_name (at 25) ∷ symbol mark.Colon (at 27) ∷ name_token c_name (at 29) ∷ symbol mark.Question (at 31) ∷ name_token a_name (at 33) ∷ symbol mark.Colon (at 35) ∷ name_token b_name (at 37) ∷ symbol mark.Semicolon (at 38) ∷ closed))
    ≡ Ok (program_of (stmt_and (return_stmt (at 14) (Some (choose (behind 23 21) (local (spot 21) a_name) (local (spot 25) b_name) (choose (behind 31 29) (local (spot 29) c_name) (local (spot 33) a_name) (local (spot 37) b_name))))) no_stmts))
right_first = refl

-- `if (a) if (b) ; else ..`: the `else` belongs to the nearest `if`
abbrev statement : ℕ → List ℕ → List Token → List Token
statement n name rest = name_token name (at n) ∷ symbol mark.Semicolon (at (suc n)) ∷ rest

abbrev condition : ℕ → List ℕ → List Token → List Token
condition n name rest = symbol mark.OpenParen (at n) ∷ name_token name (at (suc n)) ∷ symbol mark.CloseParen (at (suc (suc n))) ∷ rest

nearest_if : run 100 start (in_main (keyword key.If (at 14) ∷ condition 16 a_name (keyword key.If (at 20) ∷ condition 22 b_name (statement 26 a_name (keyword key.Else (at 29) ∷ statement 34 b_name closed)))))
    ≡ Ok (program_of (stmt_and (if_stmt (at 14) (local (spot 17) a_name) (if_stmt (at 20) (local (spot 23) b_name) (simple_stmt (plain (local (spot 26) a_name))) (stmt_and (simple_stmt (plain (local (spot 34) b_name))) no_stmts)) no_stmts) no_stmts))
nearest_if = refl

-- `int main() { return 1;` ends too soon
cut : run 100 start (in_main (keyword key.Return (at 14) ∷ number_token one (at 21) ∷ symbol mark.Semicolon (at 22) ∷ end_token (at 23) ∷ [])) ≡ Err (syntax_at (at 23))
cut = refl

-- `a + b = c;`: what isn't a place isn't assigned
no_place : run 100 start (in_main (name_token a_name (at 14) ∷ symbol mark.Plus (at 16) ∷ name_token b_name (at 18) ∷ symbol mark.Assign (at 20) ∷ name_token c_name (at 22) ∷ symbol mark.Semicolon (at 23) ∷ closed)) ≡ Err (syntax_at (at 20))
no_place = refl

-- `typedef int a;` and then `return a;`: the name is a type
type_name : run 100 start (keyword key.Typedef (at 1) ∷ keyword key.Int (at 2) ∷ name_token a_name (at 3) ∷ symbol mark.Semicolon (at 4) ∷ in_main (keyword key.Return (at 14) ∷ name_token a_name (at 21) ∷ symbol mark.Semicolon (at 22) ∷ closed)) ≡ Err (syntax_at (at 21))
type_name = refl

-- an annotation behind the head of a loop is an invariant if it says so, and else the body
annotation_first : run 100 start (in_main (keyword key.While (at 14) ∷ condition 20 a_name (begins_annotation (at 24) ∷ keyword key.Assert (at 27) ∷ name_token b_name (at 34) ∷ symbol mark.Semicolon (at 35) ∷ keyword key.LoopInvariant (at 37) ∷ closed))) ≡ Err (syntax_at (at 37))
annotation_first = refl

-- a call is no part of a formula's value: `//@assert a + b(`
no_call : run 100 start (in_main (begins_annotation (at 14) ∷ keyword key.Assert (at 17) ∷ name_token a_name (at 24) ∷ symbol mark.Plus (at 26) ∷ name_token b_name (at 28) ∷ symbol mark.OpenParen (at 29) ∷ closed)) ≡ Err (syntax_at (at 29))
no_call = refl

-- The body is one node and the statement one more, so that 98 parentheses fit and one more doesn't.
abbrev parens : ℕ → List Token
parens zero = []
parens (suc n) = symbol mark.OpenParen (at n) ∷ parens n

deep : run 100 start (in_main (parens 99 ++ [])) ≡ Err (deep_at (at 0))
deep = refl

not_deep : run 100 start (in_main (parens 98 ++ end_token (at 99) ∷ [])) ≡ Err (syntax_at (at 99))
not_deep = refl
