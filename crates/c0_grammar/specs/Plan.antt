-- How tokens are taken one by one: what may come next, how many nodes the text is sure to need so
-- far, and the tree that results. The parser's contracts say what it does by these plans; that they
-- take exactly the texts of the grammar is proved (this project's own).
use Rattle.std.specs.Prelude.{ℕ, zero, suc, ◌+◌, max, Bool, true, false, ◌==◌, ◌&&◌, not, cond, nat_le, List, [], ◌∷◌, length, Option, Some, None, Result, Ok, Err}
use Rattle.std.specs.Str.{bytes_eq}
use Rattle.gc0_base.specs.declared.place.Place.{Place}
use Rattle.c0_lex.specs.declared.token.Keyword.{Keyword}
use Rattle.c0_lex.specs.declared.token.Keyword.TheVariants as key
use Rattle.c0_lex.specs.declared.token.Symbol.{Symbol}
use Rattle.c0_lex.specs.declared.token.Symbol.TheVariants as mark
use Rattle.parsed_tree.specs.declared.expressions.Named.{Named}
use Rattle.parsed_tree.specs.declared.expressions.Text.{Text}
use Rattle.parsed_tree.specs.declared.expressions.Base.{Base}
use Rattle.parsed_tree.specs.declared.expressions.Base.TheVariants as base
use Rattle.parsed_tree.specs.declared.expressions.TypeName.{TypeName}
use Rattle.parsed_tree.specs.declared.expressions.UnaryOperator.{UnaryOperator}
use Rattle.parsed_tree.specs.declared.expressions.UnaryOperator.TheVariants as unary_op
use Rattle.parsed_tree.specs.declared.expressions.Operator.{Operator}
use Rattle.parsed_tree.specs.declared.expressions.Operator.TheVariants as op
use Rattle.parsed_tree.specs.declared.statements.UpdateOperator.{UpdateOperator}
use Rattle.parsed_tree.specs.declared.statements.UpdateOperator.TheVariants as update
use Rattle.parsed_tree.specs.declared.statements.StepOperator.{StepOperator}
use Rattle.parsed_tree.specs.declared.statements.StepOperator.TheVariants as by_one
use Rattle.parsed_tree.specs.declared.items.Library.{Library}
use Rattle.parsed_tree.specs.declared.items.Library.TheVariants as library
use Rattle.parsed_tree.specs.declared.items.Field.{Field}
use Rattle.parsed_tree.specs.declared.items.Param.{Param}
use Rattle.parsed_tree.specs.declared.items.ResultType.{ResultType}
use Rattle.parsed_tree.specs.declared.items.ResultType.TheVariants as result
use Rattle.parsed_tree.specs.declared.items.Head.{Head}
use Rattle.parsed_tree.specs.declared.items.Side.{Side}
use Rattle.parsed_tree.specs.declared.items.Side.TheVariants as side
use Rattle.parsed_tree.specs.Tree.{ExprTree, number, truth, null, local, outcome, unary, call, call_text, alloc, acc, ExprTrees, no_exprs, expr_and, from, FormulaTree, InstanceTree, NoteForm, assert_note, fold_note, unfold_note, NoteTree, InvariantTree, InvariantsTree, SimpleTree, declare, assign, stepped, plain, StmtTree, simple_stmt, block_stmt, if_stmt, while_stmt, for_stmt, return_stmt, assert_stmt, error_stmt, notes_stmt, StmtTrees, no_stmts, stmt_and, ClauseTree, ContractTree, PredicateTree, ItemTree, struct_name, struct_item, typedef_item, prototype_item, function_item, predicates_item, ProgramTree}
use Rattle.c0_grammar.specs.Tokens.{Fixed, word_mark, sign_mark, use_mark, open_mark, close_mark, end_mark, What, fixed, name_what, number_what, text_what, Token, is_among}
use Rattle.c0_grammar.specs.Written.{named_at, text_at, spot, joined, chosen, pointed}
use Rattle.c0_grammar.specs.Allowed.{rank, Mode, code, conjunct, value, is_code, is_conjunct, inside, right_of, has, left_fits, condition_fits}
use Rattle.c0_grammar.specs.Texts.{library_name}
use Rattle.c0_grammar.specs.Grammar.{is_place}
pub use Rattle.c0_grammar.specs.Faults.{Fault, syntax_at, deep_at}

-- ---- which fixed token it is
abbrev pub keyword_code : Keyword → ℕ
keyword_code key.Int = 0
keyword_code key.Bool = 1
keyword_code key.Void = 2
keyword_code key.Struct = 3
keyword_code key.Typedef = 4
keyword_code key.If = 5
keyword_code key.Else = 6
keyword_code key.While = 7
keyword_code key.For = 8
keyword_code key.Return = 9
keyword_code key.Assert = 10
keyword_code key.Error = 11
keyword_code key.True = 12
keyword_code key.False = 13
keyword_code key.Null = 14
keyword_code key.Alloc = 15
keyword_code key.String = 16
keyword_code key.Char = 17
keyword_code key.Break = 18
keyword_code key.Continue = 19
keyword_code key.AllocArray = 20
keyword_code key.Requires = 21
keyword_code key.Ensures = 22
keyword_code key.LoopInvariant = 23
keyword_code key.Fold = 24
keyword_code key.Unfold = 25
keyword_code key.Predicate = 26
keyword_code key.Acc = 27
keyword_code key.Outcome = 28

abbrev pub symbol_code : Symbol → ℕ
symbol_code mark.OpenParen = 0
symbol_code mark.CloseParen = 1
symbol_code mark.OpenBrace = 2
symbol_code mark.CloseBrace = 3
symbol_code mark.Comma = 4
symbol_code mark.Semicolon = 5
symbol_code mark.Arrow = 6
symbol_code mark.Assign = 7
symbol_code mark.AddAssign = 8
symbol_code mark.SubAssign = 9
symbol_code mark.MulAssign = 10
symbol_code mark.DivAssign = 11
symbol_code mark.RemAssign = 12
symbol_code mark.AndAssign = 13
symbol_code mark.XorAssign = 14
symbol_code mark.OrAssign = 15
symbol_code mark.ShlAssign = 16
symbol_code mark.ShrAssign = 17
symbol_code mark.Increment = 18
symbol_code mark.Decrement = 19
symbol_code mark.Not = 20
symbol_code mark.Tilde = 21
symbol_code mark.Minus = 22
symbol_code mark.Star = 23
symbol_code mark.Slash = 24
symbol_code mark.Percent = 25
symbol_code mark.Plus = 26
symbol_code mark.ShiftLeft = 27
symbol_code mark.ShiftRight = 28
symbol_code mark.Less = 29
symbol_code mark.LessEq = 30
symbol_code mark.Greater = 31
symbol_code mark.GreaterEq = 32
symbol_code mark.Equal = 33
symbol_code mark.NotEqual = 34
symbol_code mark.And = 35
symbol_code mark.Xor = 36
symbol_code mark.Or = 37
symbol_code mark.Both = 38
symbol_code mark.Either = 39
symbol_code mark.Question = 40
symbol_code mark.Colon = 41

abbrev pub same_fixed : Fixed → Fixed → Bool
same_fixed (word_mark k) (word_mark l) = keyword_code k == keyword_code l
same_fixed (sign_mark s) (sign_mark t) = symbol_code s == symbol_code t
same_fixed use_mark use_mark = true
same_fixed open_mark open_mark = true
same_fixed close_mark close_mark = true
same_fixed end_mark end_mark = true
same_fixed f g = false

-- the token is this fixed one
abbrev pub is : Fixed → What → Bool
is f (fixed g) = same_fixed f g
is f w = false

abbrev pub operator_of : Symbol → Option Operator
operator_of mark.Star = Some op.Mul
operator_of mark.Slash = Some op.Div
operator_of mark.Percent = Some op.Rem
operator_of mark.Plus = Some op.Add
operator_of mark.Minus = Some op.Sub
operator_of mark.ShiftLeft = Some op.Shl
operator_of mark.ShiftRight = Some op.Shr
operator_of mark.Less = Some op.Less
operator_of mark.LessEq = Some op.LessEq
operator_of mark.Greater = Some op.Greater
operator_of mark.GreaterEq = Some op.GreaterEq
operator_of mark.Equal = Some op.Equal
operator_of mark.NotEqual = Some op.NotEqual
operator_of mark.And = Some op.And
operator_of mark.Xor = Some op.Xor
operator_of mark.Or = Some op.Or
operator_of mark.Both = Some op.Both
operator_of mark.Either = Some op.Either
operator_of s = None

abbrev pub operator_at : What → Option Operator
operator_at (fixed (sign_mark s)) = operator_of s
operator_at w = None

-- an operator, if it is of this rank
abbrev pub of_rank : ℕ → Option Operator → Option Operator
of_rank r None = None
of_rank r (Some o) = cond (rank o == r) (Some o) None

-- what assigns: `=` alone, or with an operator
abbrev pub update_of : Symbol → Option (Option UpdateOperator)
update_of mark.Assign = Some None
update_of mark.AddAssign = Some (Some update.Add)
update_of mark.SubAssign = Some (Some update.Sub)
update_of mark.MulAssign = Some (Some update.Mul)
update_of mark.DivAssign = Some (Some update.Div)
update_of mark.RemAssign = Some (Some update.Rem)
update_of mark.AndAssign = Some (Some update.And)
update_of mark.XorAssign = Some (Some update.Xor)
update_of mark.OrAssign = Some (Some update.Or)
update_of mark.ShlAssign = Some (Some update.Shl)
update_of mark.ShrAssign = Some (Some update.Shr)
update_of s = None

abbrev pub update_at : What → Option (Option UpdateOperator)
update_at (fixed (sign_mark s)) = update_of s
update_at w = None

abbrev pub step_of : Symbol → Option StepOperator
step_of mark.Increment = Some by_one.Increment
step_of mark.Decrement = Some by_one.Decrement
step_of s = None

abbrev pub step_at : What → Option StepOperator
step_at (fixed (sign_mark s)) = step_of s
step_at w = None

-- ---- lists whose parts each begin with a token of their own
pub data Loop : Type 0 where
  star_loop : Loop
  invariant_loop : (names : List (List ℕ)) → (up : ℕ) → Loop
  note_loop : (names : List (List ℕ)) → (up : ℕ) → Loop
  clause_loop : (names : List (List ℕ)) → Loop
  contract_loop : (names : List (List ℕ)) → Loop
  predicate_loop : (names : List (List ℕ)) → Loop
  field_loop : (names : List (List ℕ)) → Loop
  param_loop : (names : List (List ℕ)) → Loop
  use_loop : Loop

abbrev pub Part : Loop → Type 0
Part star_loop = Place
Part (invariant_loop names up) = InvariantTree
Part (note_loop names up) = NoteTree
Part (clause_loop names) = ClauseTree
Part (contract_loop names) = ContractTree
Part (predicate_loop names) = PredicateTree
Part (field_loop names) = Field
Part (param_loop names) = Param
Part use_loop = Library

-- What is still to come; each goes on with what follows from the part that it reads. `up` nodes
-- stand above the part, a left side has `d` below it, and `names` are those of the typedefs above.
-- A `reach` is how many nodes some path has for certain once the token is read.
pub data Plan : Type 0 where
  -- this token
  await : (reach : ℕ) → Fixed → (Place → Plan) → Plan
  -- this token, and else something else
  peek : (reach : ℕ) → Fixed → (Place → Plan) → Plan → Plan
  -- a name that is no typedef's
  name : (names : List (List ℕ)) → (Named → Plan) → Plan
  -- a typedef's name, and else something else
  alias : (reach : ℕ) → (names : List (List ℕ)) → (Place → List ℕ → Plan) → Plan → Plan
  -- a string literal
  text : (Text → Plan) → Plan
  -- a string literal, and else something else
  peek_text : (Text → Plan) → Plan → Plan
  -- the name of a library
  library_name_of : (Library → Plan) → Plan
  -- a unary expression
  operand : (names : List (List ℕ)) → Mode → (up : ℕ) → (ExprTree → ℕ → Plan) → Plan
  -- { "->" id }
  arrows : (up : ℕ) → ExprTree → (d : ℕ) → (ExprTree → ℕ → Plan) → Plan
  -- behind the `-> id` of an `acc`, of which that may not have been the last
  acc_arrows : (up : ℕ) → ExprTree → (d : ℕ) → (p : Place) → Named → (ExprTree → ℕ → Place → Named → Plan) → Plan
  -- operators of one rank behind a left side
  ops : (r : ℕ) → (names : List (List ℕ)) → Mode → (up : ℕ) → ExprTree → (d : ℕ) → (ExprTree → ℕ → Plan) → Plan
  -- [ "?" expr ":" expr ]
  quest : (names : List (List ℕ)) → Mode → (up : ℕ) → ExprTree → (d : ℕ) → (ExprTree → ℕ → Plan) → Plan
  -- { "," expr } ")"
  more_args : (names : List (List ℕ)) → Mode → (up : ℕ) → (ExprTrees → ℕ → Plan) → Plan
  -- behind the expression with which a simple statement begins
  simple_end : (names : List (List ℕ)) → (up : ℕ) → ExprTree → (d : ℕ) → (SimpleTree → ℕ → Plan) → Plan
  -- a simple statement without its `;`, which may be a declaration where `declares` is true
  simple : (names : List (List ℕ)) → (declares : Bool) → (up : ℕ) → (SimpleTree → ℕ → Plan) → Plan
  -- the body of `if` or `else`
  body : (names : List (List ℕ)) → (up : ℕ) → (StmtTree → ℕ → Plan) → Plan
  -- { inv } stmt
  loop_body : (names : List (List ℕ)) → (up : ℕ) → (List InvariantsTree → ℕ → StmtTree → ℕ → Plan) → Plan
  -- { stmt } "}"
  lines : (names : List (List ℕ)) → (up : ℕ) → (StmtTrees → ℕ → Place → Plan) → Plan
  many : (l : Loop) → (List (Part l) → ℕ → Plan) → Plan
  -- { item } and the end of the text
  items : (names : List (List ℕ)) → (List ItemTree → ℕ → Plan) → Plan
  finished : ProgramTree → ℕ → Plan

abbrev pub word_of : Keyword → Fixed
word_of k = word_mark k

abbrev pub expect : Fixed → (Place → Plan) → Plan
expect f next = await 0 f next

abbrev pub expect_sign : Symbol → (Place → Plan) → Plan
expect_sign s next = await 0 (sign_mark s) next

abbrev pub peek_sign : Symbol → (Place → Plan) → Plan → Plan
peek_sign s these others = peek 0 (sign_mark s) these others

abbrev pub peek_word : Keyword → (Place → Plan) → Plan → Plan
peek_word k these others = peek 0 (word_mark k) these others

-- a step: how many nodes some path has for certain now, as far as this token tells, and what comes next
abbrev pub Step : Type 0
Step = Option (ℕ × Plan)

abbrev pub on : Plan → Step
on q = Some (0, q)

abbrev pub node : ℕ → Plan → Step
node reach q = Some (reach, q)

abbrev pub step_if : Bool → Step → Step
step_if b s = cond b s None

-- ---- types
abbrev pub stars : Place → Base → (TypeName → Plan) → Plan
stars at b next = many star_loop (λ ps d. next (record { place = at; base = b; stars = length ps }))

abbrev pub struct_type : (TypeName → Plan) → Place → Plan
struct_type next at = name [] (λ n. stars at (base.Struct n) next)

abbrev pub typed : List (List ℕ) → (TypeName → Plan) → Plan
typed names next =
    peek_word key.Bool (λ at. stars at base.Bool next)
    (peek_word key.Struct (struct_type next)
    (alias 0 names (λ at n. stars at (base.Alias n) next)
    (expect (word_mark key.Int) (λ at. stars at base.Int next))))

-- ---- expressions: behind a unary expression, operators of the ranks below r
abbrev pub behind : ℕ → List (List ℕ) → Mode → ℕ → (ExprTree → ℕ → Plan) → ExprTree → ℕ → Plan
behind zero names m up next = next
behind (suc r) names m up next = behind r names m up (λ e d. ops r names m up e d next)

abbrev pub climb : ℕ → List (List ℕ) → Mode → ℕ → (ExprTree → ℕ → Plan) → Plan
climb r names m up next = operand names m up (behind r names m up next)

-- behind a unary expression, the rest of a whole one
abbrev pub rest_of : List (List ℕ) → Mode → ℕ → (ExprTree → ℕ → Plan) → ExprTree → ℕ → Plan
rest_of names m up next = behind 10 names m up (λ e d. quest names m up e d next)

abbrev pub expr : List (List ℕ) → Mode → ℕ → (ExprTree → ℕ → Plan) → Plan
expr names m up next = operand names m up (rest_of names m up next)

-- behind what may stand before a `->` in the code alone
abbrev pub primary : Mode → ℕ → (ExprTree → ℕ → Plan) → ExprTree → ℕ → Plan
primary code up next e d = arrows up e d next
primary m up next e d = next e d

abbrev pub argument : List (List ℕ) → Mode → ℕ → (ExprTrees → ℕ → Plan) → ExprTree → ℕ → Plan
argument names m up next e d = more_args names m up (λ es d'. next (expr_and e es) (max d d'))

-- [ args ] ")"
abbrev pub arguments : List (List ℕ) → Mode → ℕ → (ExprTrees → ℕ → Plan) → Plan
arguments names m up next = peek_sign mark.CloseParen (λ b. next no_exprs 0) (expr names m up (argument names m up next))

-- behind the name of a call of the code and its parenthesis
abbrev pub called_plan : List (List ℕ) → ℕ → (ExprTree → ℕ → Plan) → Place → List ℕ → Plan
called_plan names up next at n =
    peek_text (λ t. expect_sign mark.CloseParen (λ b. arrows up (call_text (spot at) n t) 1 next))
    (arguments names code (up + 1) (λ es d. arrows up (call (spot at) n es) (d + 1) next))

abbrev pub behind_name : List (List ℕ) → Mode → ℕ → (ExprTree → ℕ → Plan) → Place → List ℕ → Plan
behind_name names code up next at n = peek (up + 1) (sign_mark mark.OpenParen) (λ a. called_plan names up next at n) (arrows up (local (spot at) n) 0 next)
behind_name names conjunct up next at n = peek (up + 1) (sign_mark mark.OpenParen) (λ a. arguments names value (up + 1) (λ es d. next (call (spot at) n es) (d + 1))) (arrows up (local (spot at) n) 0 next)
behind_name names value up next at n = arrows up (local (spot at) n) 0 next

-- alloc "(" type ")" behind its word
abbrev pub alloc_plan : List (List ℕ) → ℕ → (ExprTree → ℕ → Plan) → Place → Plan
alloc_plan names up next at = expect_sign mark.OpenParen (λ a. typed names (λ t. expect_sign mark.CloseParen (λ b. arrows up (alloc (spot at) t) 0 next)))

-- a local or `\result`, with which a path begins
abbrev pub path_start : List (List ℕ) → (ExprTree → Plan) → Plan
path_start names next = peek_word key.Outcome (λ at. next (outcome (spot at))) (name names (λ n. next (local (spot n.place) n.name)))

-- "(" path "->" id ")" behind the word `acc`
abbrev pub acc_plan : List (List ℕ) → ℕ → (ExprTree → ℕ → Plan) → Place → Plan
acc_plan names up next at =
    expect_sign mark.OpenParen (λ a. path_start names (λ x. expect_sign mark.Arrow (λ p. name [] (λ f.
    acc_arrows up x 0 p f (λ y d q g. next (acc (spot at) y q g) (d + 2))))))

abbrev pub unary_step : List (List ℕ) → Mode → ℕ → (ExprTree → ℕ → Plan) → UnaryOperator → Place → Step
unary_step names m up next o at = node (up + 1) (operand names (inside m) (up + 1) (λ e d. next (unary (spot at) o e) (d + 1)))

abbrev pub round_plan : List (List ℕ) → Mode → ℕ → (ExprTree → ℕ → Plan) → Place → Plan
round_plan names m up next at = expr names m (up + 1) (λ e d. expect_sign mark.CloseParen (λ b. primary m up next (from at e) (d + 1)))

abbrev pub word_step : List (List ℕ) → Mode → ℕ → (ExprTree → ℕ → Plan) → Keyword → Place → Step
word_step names m up next key.True at = node up (primary m up next (truth (spot at) true) 0)
word_step names m up next key.False at = node up (primary m up next (truth (spot at) false) 0)
word_step names m up next key.Null at = node up (primary m up next (null (spot at)) 0)
word_step names m up next key.Outcome at = step_if (not (is_code m)) (node up (arrows up (outcome (spot at)) 0 next))
word_step names m up next key.Alloc at = step_if (is_code m) (node up (alloc_plan names up next at))
word_step names m up next key.Acc at = step_if (is_conjunct m) (node (up + 2) (acc_plan names up next at))
word_step names m up next k at = None

abbrev pub sign_step : List (List ℕ) → Mode → ℕ → (ExprTree → ℕ → Plan) → Symbol → Place → Step
sign_step names m up next mark.Minus at = unary_step names m up next unary_op.Negate at
sign_step names m up next mark.Tilde at = unary_step names m up next unary_op.Not at
sign_step names m up next mark.Not at = unary_step names m up next unary_op.Flip at
sign_step names m up next mark.OpenParen at = node (up + 1) (round_plan names m up next at)
sign_step names m up next s at = None

abbrev pub operand_step : List (List ℕ) → Mode → ℕ → (ExprTree → ℕ → Plan) → What → Place → Step
operand_step names m up next (number_what w) at = node up (primary m up next (number (spot at) w) 0)
operand_step names m up next (name_what n) at = step_if (not (is_among names n)) (node up (behind_name names m up next at n))
operand_step names m up next (fixed (word_mark k)) at = word_step names m up next k at
operand_step names m up next (fixed (sign_mark s)) at = sign_step names m up next s at
operand_step names m up next w at = None

-- a step that is taken, and else another
abbrev pub or_step : Step → Step → Step
or_step (Some s) other = Some s
or_step None other = other

abbrev pub arrow_step : Bool → Step → Step → Step
arrow_step is_arrow these other = cond is_arrow these other

abbrev pub ops_step : ℕ → List (List ℕ) → Mode → ℕ → ExprTree → ℕ → (ExprTree → ℕ → Plan) → Step → Option Operator → Place → Step
ops_step r names m up e d next other None at = other
ops_step r names m up e d next other (Some o) at =
    step_if (has m o && left_fits m o e) (node (up + d + 1) (climb r names (right_of m o) (up + 1) (λ e' d'. ops r names m up (joined at o e e') (max d d' + 1) next)))

abbrev pub quest_plan : List (List ℕ) → Mode → ℕ → ExprTree → ℕ → (ExprTree → ℕ → Plan) → Place → Plan
quest_plan names m up e d next at =
    expr names m (up + 1) (λ y dy. expect_sign mark.Colon (λ c. expr names m (up + 1) (λ z dz. next (chosen at e y z) (max d (max dy dz) + 1))))

abbrev pub more_args_step : List (List ℕ) → Mode → ℕ → (ExprTrees → ℕ → Plan) → What → Step
more_args_step names m up next (fixed (sign_mark mark.CloseParen)) = on (next no_exprs 0)
more_args_step names m up next (fixed (sign_mark mark.Comma)) = on (expr names m up (argument names m up next))
more_args_step names m up next w = None

-- ---- formulas
abbrev pub formula : List (List ℕ) → ℕ → (FormulaTree → ℕ → Plan) → Plan
formula names up next =
    peek_sign mark.Question (λ q. peek_sign mark.Both (λ a. expr names conjunct up (λ e d. next (record { imprecise = true; parts = Some e }) d)) (next (record { imprecise = true; parts = None }) 0))
    (expr names conjunct up (λ e d. next (record { imprecise = false; parts = Some e }) d))

-- formula ";"
abbrev pub stated : List (List ℕ) → ℕ → (FormulaTree → ℕ → Plan) → Plan
stated names up next = formula names up (λ f d. expect_sign mark.Semicolon (λ c. next f d))

-- id "(" [ args ] ")" ";", which is a node
abbrev pub instance : List (List ℕ) → ℕ → (InstanceTree → ℕ → Plan) → Plan
instance names up next =
    name names (λ n. expect_sign mark.OpenParen (λ a. arguments names value (up + 1) (λ es d. expect_sign mark.Semicolon (λ c. next (record { name = n; arguments = es }) (d + 1)))))

abbrev pub note_at : Place → NoteForm → NoteTree
note_at at form = record { place = at; form = form }

-- behind the word of a note
abbrev pub assert_plan : List (List ℕ) → ℕ → (NoteTree → ℕ → Plan) → Place → Plan
assert_plan names up next at = stated names up (λ f d. next (note_at at (assert_note f)) d)

abbrev pub fold_plan : List (List ℕ) → ℕ → (NoteTree → ℕ → Plan) → Place → Plan
fold_plan names up next at = instance names up (λ i d. next (note_at at (fold_note i)) d)

abbrev pub unfold_plan : List (List ℕ) → ℕ → (NoteTree → ℕ → Plan) → Place → Plan
unfold_plan names up next at = instance names up (λ i d. next (note_at at (unfold_note i)) d)

-- the first `fold` or `unfold` of an annotation, which is a node, and else something else
abbrev pub folding : List (List ℕ) → ℕ → (NoteTree → ℕ → Plan) → Plan → Plan
folding names up next others =
    peek (up + 2) (word_mark key.Fold) (fold_plan names (up + 1) next)
    (peek (up + 2) (word_mark key.Unfold) (unfold_plan names (up + 1) next) others)

-- the notes of an annotation behind the first, and its end
abbrev pub other_notes : List (List ℕ) → ℕ → (StmtTree → ℕ → Plan) → Place → NoteTree → ℕ → Plan
other_notes names up next at n d = many (note_loop names (up + 1)) (λ ns d'. expect close_mark (λ e. next (notes_stmt at (n ∷ ns)) (max d d' + 1)))

-- the notes of an annotation that has one, and its end
abbrev pub notes_plan : List (List ℕ) → ℕ → (StmtTree → ℕ → Plan) → Place → Plan
notes_plan names up next at =
    folding names up (other_notes names up next at) (await (up + 1) (word_mark key.Assert) (assert_plan names (up + 1) (other_notes names up next at)))

-- the notes of an annotation that may have none, and its end
abbrev pub notes_or_none : List (List ℕ) → ℕ → (StmtTree → ℕ → Plan) → Place → Plan
notes_or_none names up next at =
    folding names up (other_notes names up next at)
    (peek (up + 1) (word_mark key.Assert) (assert_plan names (up + 1) (other_notes names up next at))
    (expect close_mark (λ e. next (notes_stmt at []) 0)))

-- ---- statements
abbrev pub declared : List (List ℕ) → ℕ → (SimpleTree → ℕ → Plan) → TypeName → Plan
declared names up next t =
    name names (λ n. peek_sign mark.Assign (λ q. expr names code up (λ e d. next (declare t n (Some (q, e))) d)) (next (declare t n None) 0))

abbrev pub begun_simple : List (List ℕ) → ℕ → (SimpleTree → ℕ → Plan) → ExprTree → ℕ → Plan
begun_simple names up next = rest_of names code up (λ e d. simple_end names up e d next)

-- a simple statement that begins with no type
abbrev pub evaluated_step : List (List ℕ) → ℕ → (SimpleTree → ℕ → Plan) → What → Place → Step
evaluated_step names up next w at = operand_step names code up (begun_simple names up next) w at

-- the step into a type that begins here, if one does
abbrev pub type_step : List (List ℕ) → ℕ → (TypeName → Plan) → What → Place → Step
type_step names reach next (fixed (word_mark key.Int)) at = node reach (stars at base.Int next)
type_step names reach next (fixed (word_mark key.Bool)) at = node reach (stars at base.Bool next)
type_step names reach next (fixed (word_mark key.Struct)) at = node reach (struct_type next at)
type_step names reach next (name_what n) at = step_if (is_among names n) (node reach (stars at (base.Alias n) next))
type_step names reach next w at = None

abbrev pub simple_step : List (List ℕ) → Bool → ℕ → (SimpleTree → ℕ → Plan) → What → Place → Step
simple_step names declares up next w at = or_step (step_if declares (type_step names up (declared names up next) w at)) (evaluated_step names up next w at)

abbrev pub assign_step : List (List ℕ) → ℕ → ExprTree → ℕ → (SimpleTree → ℕ → Plan) → Option (Option UpdateOperator) → Place → Step
assign_step names up e d next None at = None
assign_step names up e d next (Some o) at = on (expr names code up (λ y dy. next (assign e at o y) (max d dy)))

abbrev pub by_one_step : ExprTree → ℕ → (SimpleTree → ℕ → Plan) → Option StepOperator → Place → Step
by_one_step e d next None at = None
by_one_step e d next (Some o) at = on (next (stepped e at o) d)

abbrev pub simple_end_step : List (List ℕ) → ℕ → ExprTree → ℕ → (SimpleTree → ℕ → Plan) → Step → What → Place → Step
simple_end_step names up e d next other w at = or_step (step_if (is_place e) (or_step (assign_step names up e d next (update_at w) at) (by_one_step e d next (step_at w) at))) other

-- a condition in parentheses
abbrev pub condition : List (List ℕ) → ℕ → (ExprTree → ℕ → Plan) → Plan
condition names up next = expect_sign mark.OpenParen (λ a. expr names code up (λ e d. expect_sign mark.CloseParen (λ b. next e d)))

abbrev pub block_plan : List (List ℕ) → ℕ → (StmtTree → ℕ → Plan) → Place → Plan
block_plan names up next at = lines names (up + 1) (λ ss d e. next (block_stmt at ss) (d + 1))

abbrev pub if_plan : List (List ℕ) → ℕ → (StmtTree → ℕ → Plan) → Place → Plan
if_plan names up next at =
    condition names (up + 1) (λ e d. body names (up + 1) (λ s d1.
    peek_word key.Else (λ w. body names (up + 1) (λ o d2. next (if_stmt at e s (stmt_and o no_stmts)) (max d (max d1 d2) + 1)))
    (next (if_stmt at e s no_stmts) (max d d1 + 1))))

abbrev pub while_plan : List (List ℕ) → ℕ → (StmtTree → ℕ → Plan) → Place → Plan
while_plan names up next at =
    condition names (up + 1) (λ e d. loop_body names (up + 1) (λ is di s ds. next (while_stmt at e is s) (max d (max di ds) + 1)))

-- [ simple ] and this symbol
abbrev pub optional_simple : List (List ℕ) → Bool → ℕ → Symbol → (Option SimpleTree → ℕ → Plan) → Plan
optional_simple names declares up s next =
    peek_sign s (λ c. next None 0) (simple names declares up (λ x d. expect_sign s (λ c. next (Some x) d)))

abbrev pub for_plan : List (List ℕ) → ℕ → (StmtTree → ℕ → Plan) → Place → Plan
for_plan names up next at =
    expect_sign mark.OpenParen (λ a. optional_simple names true (up + 1) mark.Semicolon (λ x dx.
    expr names code (up + 1) (λ e d. expect_sign mark.Semicolon (λ c.
    optional_simple names false (up + 1) mark.CloseParen (λ y dy.
    loop_body names (up + 1) (λ is di s ds. next (for_stmt at x e y is s) (max dx (max d (max dy (max di ds))) + 1)))))))

abbrev pub return_plan : List (List ℕ) → ℕ → (StmtTree → ℕ → Plan) → Place → Plan
return_plan names up next at =
    peek_sign mark.Semicolon (λ c. next (return_stmt at None) 1)
    (expr names code (up + 1) (λ e d. expect_sign mark.Semicolon (λ c. next (return_stmt at (Some e)) (d + 1))))

abbrev pub assert_stmt_plan : List (List ℕ) → ℕ → (StmtTree → ℕ → Plan) → Place → Plan
assert_stmt_plan names up next at = condition names (up + 1) (λ e d. expect_sign mark.Semicolon (λ c. next (assert_stmt at e) (d + 1)))

abbrev pub error_plan : (StmtTree → ℕ → Plan) → Place → Plan
error_plan next at = expect_sign mark.OpenParen (λ a. text (λ t. expect_sign mark.CloseParen (λ b. expect_sign mark.Semicolon (λ c. next (error_stmt at t) 1))))

-- a statement that begins with a word of its own; `if`, `while` and `for` need one below
abbrev pub word_line_step : List (List ℕ) → ℕ → (StmtTree → ℕ → Plan) → Keyword → Place → Step
word_line_step names up next key.If at = node (up + 2) (if_plan names up next at)
word_line_step names up next key.While at = node (up + 2) (while_plan names up next at)
word_line_step names up next key.For at = node (up + 2) (for_plan names up next at)
word_line_step names up next key.Return at = node (up + 1) (return_plan names up next at)
word_line_step names up next key.Assert at = node (up + 1) (assert_stmt_plan names up next at)
word_line_step names up next key.Error at = node (up + 1) (error_plan next at)
word_line_step names up next k at = None

abbrev pub simple_line : (StmtTree → ℕ → Plan) → SimpleTree → ℕ → Plan
simple_line next s d = expect_sign mark.Semicolon (λ c. next (simple_stmt s) (d + 1))

-- an annotation among the statements, which may be empty where `whole` is true
abbrev pub annotation_plan : List (List ℕ) → Bool → ℕ → (StmtTree → ℕ → Plan) → Place → Plan
annotation_plan names true up next at = notes_or_none names up next at
annotation_plan names false up next at = notes_plan names up next at

-- what begins a statement but a simple one
abbrev pub compound_step : List (List ℕ) → Bool → ℕ → (StmtTree → ℕ → Plan) → What → Place → Step
compound_step names whole up next (fixed (word_mark k)) at = word_line_step names up next k at
compound_step names whole up next (fixed (sign_mark mark.OpenBrace)) at = node (up + 1) (block_plan names up next at)
compound_step names whole up next (fixed open_mark) at = on (annotation_plan names whole up next at)
compound_step names whole up next w at = None

-- a statement, which may be a declaration and an empty annotation where `whole` is true
abbrev pub line_step : List (List ℕ) → Bool → ℕ → (StmtTree → ℕ → Plan) → What → Place → Step
line_step names whole up next w at = or_step (compound_step names whole up next w at) (simple_step names whole (up + 1) (simple_line next) w at)

abbrev pub after_line : List (List ℕ) → ℕ → (StmtTrees → ℕ → Place → Plan) → StmtTree → ℕ → Plan
after_line names up next s d = lines names up (λ ss d' e. next (stmt_and s ss) (max d d') e)

abbrev pub lines_step : List (List ℕ) → ℕ → (StmtTrees → ℕ → Place → Plan) → What → Place → Step
lines_step names up next (fixed (sign_mark mark.CloseBrace)) at = on (next no_stmts 0 at)
lines_step names up next w at = line_step names true up (after_line names up next) w at

-- ---- what stands behind the head of a loop
abbrev pub invariant_at : Place → FormulaTree → InvariantTree
invariant_at at f = record { place = at; formula = f }

abbrev pub invariants_at : Place → List InvariantTree → InvariantsTree
invariants_at at cs = record { place = at; clauses = cs }

-- behind the word of an invariant
abbrev pub invariant_plan : List (List ℕ) → ℕ → (InvariantTree → ℕ → Plan) → Place → Plan
invariant_plan names up next at = stated names up (λ f d. next (invariant_at at f) d)

-- the rest of a loop behind an annotation with invariants
abbrev pub after_invariants : List (List ℕ) → ℕ → (List InvariantsTree → ℕ → StmtTree → ℕ → Plan) → Place → List InvariantTree → ℕ → Plan
after_invariants names up next at cs d = loop_body names up (λ is di s ds. next (invariants_at at cs ∷ is) (max d di) s ds)

-- behind what opens an annotation: invariants, and else notes, which are the body
abbrev pub head_annotation : List (List ℕ) → ℕ → (List InvariantsTree → ℕ → StmtTree → ℕ → Plan) → Place → Plan
head_annotation names up next at =
    peek 0 close_mark (λ e. after_invariants names up next at [] 0)
    (peek_word key.LoopInvariant (invariant_plan names up (λ c d. many (invariant_loop names up) (λ cs d'. expect close_mark (λ e. after_invariants names up next at (c ∷ cs) (max d d')))))
    (notes_plan names up (λ s d. next [] 0 s d) at))

abbrev pub loop_body_step : List (List ℕ) → ℕ → (List InvariantsTree → ℕ → StmtTree → ℕ → Plan) → What → Place → Step
loop_body_step names up next (fixed open_mark) at = on (head_annotation names up next at)
loop_body_step names up next w at = line_step names false up (λ s d. next [] 0 s d) w at

-- ---- heads, contracts and items
abbrev pub param_plan : List (List ℕ) → (Param → Plan) → Plan
param_plan names next = typed names (λ t. name names (λ n. next (record { typed = t; name = n })))

-- [ params ] ")"
abbrev pub params_plan : List (List ℕ) → (List Param → Plan) → Plan
params_plan names next =
    peek_sign mark.CloseParen (λ b. next [])
    (param_plan names (λ p. many (param_loop names) (λ ps d. expect_sign mark.CloseParen (λ b. next (p ∷ ps)))))

abbrev pub clause_at : Place → Side → FormulaTree → ClauseTree
clause_at at s f = record { place = at; side = s; formula = f }

abbrev pub clause_plan : List (List ℕ) → (ClauseTree → ℕ → Plan) → Side → Place → Plan
clause_plan names next s at = stated names 0 (λ f d. next (clause_at at s f) d)

abbrev pub contract_plan : List (List ℕ) → (ContractTree → ℕ → Plan) → Place → Plan
contract_plan names next at = many (clause_loop names) (λ cs d. expect close_mark (λ e. next (record { place = at; clauses = cs }) d))

abbrev pub predicate_plan : List (List ℕ) → (PredicateTree → ℕ → Plan) → Place → Plan
predicate_plan names next at =
    name names (λ n. expect_sign mark.OpenParen (λ a. params_plan names (λ ps. expect_sign mark.Assign (λ q.
    expr names conjunct 0 (λ e d. expect_sign mark.Semicolon (λ c. next (record { place = at; name = n; params = ps; body = e }) d))))))

abbrev pub field_behind : (Field → ℕ → Plan) → TypeName → Plan
field_behind next t = name [] (λ n. expect_sign mark.Semicolon (λ c. next (record { typed = t; name = n }) 0))

-- behind the head of a function, whose body's braces are a node
abbrev pub behind_head : List (List ℕ) → (ItemTree → ℕ → Plan) → Head → Plan
behind_head names next h =
    many (contract_loop names) (λ cs dc.
    peek 1 (sign_mark mark.OpenBrace) (λ o. lines names 1 (λ ss d e. next (function_item h cs ss e) (max dc (d + 1))))
    (expect_sign mark.Semicolon (λ c. next (prototype_item h cs) dc)))

-- behind the result of a function
abbrev pub head_plan : List (List ℕ) → (ItemTree → ℕ → Plan) → ResultType → Plan
head_plan names next r =
    name names (λ n. expect_sign mark.OpenParen (λ a. params_plan names (λ ps. behind_head names next (record { result = r; name = n; params = ps }))))

abbrev pub typed_head : List (List ℕ) → (ItemTree → ℕ → Plan) → TypeName → Plan
typed_head names next t = head_plan names next (result.Typed t)

abbrev pub fields_plan : List (List ℕ) → (ItemTree → ℕ → Plan) → Place → Named → Plan
fields_plan names next at n = many (field_loop names) (λ fs d. expect_sign mark.CloseBrace (λ b. expect_sign mark.Semicolon (λ c. next (struct_item at n fs) 0)))

-- behind the word `struct` at the front of an item
abbrev pub struct_plan : List (List ℕ) → (ItemTree → ℕ → Plan) → Place → Plan
struct_plan names next at =
    name [] (λ n. peek_sign mark.Semicolon (λ c. next (struct_name at n) 0)
    (peek_sign mark.OpenBrace (λ a. fields_plan names next at n)
    (stars at (base.Struct n) (typed_head names next))))

abbrev pub after_item : List (List ℕ) → (List ItemTree → ℕ → Plan) → ItemTree → ℕ → Plan
after_item names next i d = items names (λ is d'. next (i ∷ is) (max d d'))

abbrev pub typedef_plan : List (List ℕ) → (List ItemTree → ℕ → Plan) → Place → Plan
typedef_plan names next at =
    typed names (λ t. name names (λ n. expect_sign mark.Semicolon (λ c. after_item (n.name ∷ names) next (typedef_item at t n) 0)))

abbrev pub predicates_plan : List (List ℕ) → (ItemTree → ℕ → Plan) → Place → Plan
predicates_plan names next at = many (predicate_loop names) (λ ps d. expect close_mark (λ e. next (predicates_item at ps) d))

abbrev pub items_step : List (List ℕ) → (List ItemTree → ℕ → Plan) → What → Place → Step
items_step names next (fixed end_mark) at = on (next [] 0)
items_step names next (fixed open_mark) at = on (predicates_plan names (after_item names next) at)
items_step names next (fixed (word_mark key.Struct)) at = on (struct_plan names (after_item names next) at)
items_step names next (fixed (word_mark key.Typedef)) at = on (typedef_plan names next at)
items_step names next (fixed (word_mark key.Void)) at = on (head_plan names (after_item names next) (result.Void at))
items_step names next w at = type_step names 0 (typed_head names (after_item names next)) w at

-- ---- the step into a part of a list, if one begins here
abbrev pub note_enter : List (List ℕ) → ℕ → (NoteTree → ℕ → Plan) → Keyword → Place → Step
note_enter names up next key.Assert at = on (assert_plan names up next at)
note_enter names up next key.Fold at = node (up + 1) (fold_plan names up next at)
note_enter names up next key.Unfold at = node (up + 1) (unfold_plan names up next at)
note_enter names up next k at = None

abbrev pub clause_enter : List (List ℕ) → (ClauseTree → ℕ → Plan) → Keyword → Place → Step
clause_enter names next key.Requires at = on (clause_plan names next side.Requires at)
clause_enter names next key.Ensures at = on (clause_plan names next side.Ensures at)
clause_enter names next k at = None

abbrev pub use_plan : (Library → ℕ → Plan) → Plan
use_plan next = expect_sign mark.Less (λ a. library_name_of (λ l. expect_sign mark.Greater (λ b. next l 0)))

abbrev pub enter_at : (l : Loop) → (Part l → ℕ → Plan) → Fixed → Place → Step
enter_at star_loop next (sign_mark mark.Star) at = on (next at 0)
enter_at (invariant_loop names up) next (word_mark key.LoopInvariant) at = on (invariant_plan names up next at)
enter_at (note_loop names up) next (word_mark k) at = note_enter names up next k at
enter_at (clause_loop names) next (word_mark k) at = clause_enter names next k at
enter_at (contract_loop names) next open_mark at = on (contract_plan names next at)
enter_at (predicate_loop names) next (word_mark key.Predicate) at = on (predicate_plan names next at)
enter_at (field_loop names) next f at = type_step names 0 (field_behind next) (fixed f) at
enter_at (param_loop names) next (sign_mark mark.Comma) at = on (param_plan names (λ p. next p 0))
enter_at use_loop next use_mark at = on (use_plan next)
enter_at l next f at = None

abbrev pub enter_name : (l : Loop) → (Part l → ℕ → Plan) → List ℕ → Place → Step
enter_name (field_loop names) next n at = type_step names 0 (field_behind next) (name_what n) at
enter_name l next n at = None

abbrev pub enter : (l : Loop) → (Part l → ℕ → Plan) → What → Place → Step
enter l next (fixed f) at = enter_at l next f at
enter l next (name_what n) at = enter_name l next n at
enter l next w at = None

abbrev pub after_part : (l : Loop) → (List (Part l) → ℕ → Plan) → Part l → ℕ → Plan
after_part l next x d = many l (λ xs d'. next (x ∷ xs) (max d d'))

-- ---- single tokens
abbrev pub name_step : List (List ℕ) → (Named → Plan) → What → Place → Step
name_step names next (name_what n) at = step_if (not (is_among names n)) (on (next (named_at at n)))
name_step names next w at = None

abbrev pub alias_step : ℕ → List (List ℕ) → (Place → List ℕ → Plan) → Step → What → Place → Step
alias_step reach names these other (name_what n) at = cond (is_among names n) (node reach (these at n)) other
alias_step reach names these other w at = other

abbrev pub text_step : (Text → Plan) → Step → What → Place → Step
text_step next other (text_what b) at = on (next (text_at at b))
text_step next other w at = other

abbrev pub library_of : List ℕ → Option Library
library_of n = cond (bytes_eq n (library_name library.Conio)) (Some library.Conio) (cond (bytes_eq n (library_name library.Intio)) (Some library.Intio) None)

abbrev pub library_named : (Library → Plan) → Option Library → Step
library_named next None = None
library_named next (Some l) = on (next l)

abbrev pub library_step : (Library → Plan) → What → Step
library_step next (name_what n) = library_named next (library_of n)
library_step next w = None

abbrev pub acc_arrows_step : ℕ → ExprTree → ℕ → Place → Named → (ExprTree → ℕ → Place → Named → Plan) → What → Place → Step
acc_arrows_step up x d p f next (fixed (sign_mark mark.CloseParen)) at = on (next x d p f)
acc_arrows_step up x d p f next (fixed (sign_mark mark.Arrow)) at = node (up + d + 3) (name [] (λ g. acc_arrows up (pointed p x f) (d + 1) at g next))
acc_arrows_step up x d p f next w at = None

-- what comes behind a token; None where it may not come
abbrev pub step : Plan → Token → Step
step (await reach f next) t = cond (is f t.what) (node reach (next t.place)) None
step (peek reach f these others) t = cond (is f t.what) (node reach (these t.place)) (step others t)
step (name names next) t = name_step names next t.what t.place
step (alias reach names these others) t = alias_step reach names these (step others t) t.what t.place
step (text next) t = text_step next None t.what t.place
step (peek_text these others) t = text_step these (step others t) t.what t.place
step (library_name_of next) t = library_step next t.what
step (operand names m up next) t = operand_step names m up next t.what t.place
step (arrows up e d next) t = arrow_step (is (sign_mark mark.Arrow) t.what) (node (up + d + 1) (name [] (λ n. arrows up (pointed t.place e n) (d + 1) next))) (step (next e d) t)
step (acc_arrows up x d p f next) t = acc_arrows_step up x d p f next t.what t.place
step (ops r names m up e d next) t = ops_step r names m up e d next (step (next e d) t) (of_rank r (operator_at t.what)) t.place
step (quest names m up e d next) t = arrow_step (is (sign_mark mark.Question) t.what) (step_if (condition_fits m e) (node (up + d + 1) (quest_plan names m up e d next t.place))) (step (next e d) t)
step (more_args names m up next) t = more_args_step names m up next t.what
step (simple_end names up e d next) t = simple_end_step names up e d next (step (next (plain e) d) t) t.what t.place
step (simple names declares up next) t = simple_step names declares up next t.what t.place
step (body names up next) t = line_step names false up next t.what t.place
step (loop_body names up next) t = loop_body_step names up next t.what t.place
step (lines names up next) t = lines_step names up next t.what t.place
step (many l next) t = or_step (enter l (after_part l next) t.what t.place) (step (next [] 0) t)
step (items names next) t = items_step names next t.what t.place
step (finished p d) t = None

-- ---- the run over tokens
abbrev pub nowhere : Place
nowhere = record { line = 0; column = 0 }

-- where the tokens are over
abbrev pub finish : Plan → Result ProgramTree Fault
finish (finished p d) = Ok p
finish (peek reach f these others) = finish others
finish (alias reach names these others) = finish others
finish (peek_text these others) = finish others
finish (arrows up e d next) = finish (next e d)
finish (ops r names m up e d next) = finish (next e d)
finish (quest names m up e d next) = finish (next e d)
finish (simple_end names up e d next) = finish (next (plain e) d)
finish (many l next) = finish (next [] 0)
finish plan = Err (syntax_at nowhere)

abbrev pub go : (limit : ℕ) → Step → (Plan → Result ProgramTree Fault) → Place → Result ProgramTree Fault
go limit None more at = Err (syntax_at at)
go limit (Some x) more at = cond (nat_le x.0 limit) (more x.1) (Err (deep_at at))

-- the program that the tokens give, or the first fault, where at most so many nodes may stand on a path
abbrev pub run : (limit : ℕ) → Plan → List Token → Result ProgramTree Fault
run limit plan [] = finish plan
run limit plan (t ∷ ts) = go limit (step plan t) (λ q. run limit q ts) t.place

abbrev pub program_plan : List Library → Plan
program_plan us = items [] (λ is d. finished (record { uses = us; items = is }) d)

abbrev pub start : Plan
start = many use_loop (λ us d. program_plan us)
