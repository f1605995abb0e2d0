-- Expressions, types and formulas as they are written: with all that the tree leaves out, their
-- parentheses and the place of each token. For each: its tokens, in front of others; its tree; and
-- how many nodes stand on its longest path.
-- Source: C0 Reference, "Expressions" and "Types"; the formulas of Gradual C0.
use Rattle.std.specs.Prelude.{ℕ, ◌+◌, max, Bool, true, false, List, ◌∷◌, length, Some, None}
use Rattle.gc0_base.specs.declared.place.Place.{Place}
use Rattle.gc0_base.specs.declared.word.Word.{Word}
use Rattle.c0_lex.specs.declared.token.Keyword.{Keyword}
use Rattle.c0_lex.specs.declared.token.Keyword.TheVariants as key
use Rattle.c0_lex.specs.declared.token.Symbol.{Symbol}
use Rattle.c0_lex.specs.declared.token.Symbol.TheVariants as mark
use Rattle.parsed_tree.specs.declared.expressions.Named.{Named}
use Rattle.parsed_tree.specs.declared.expressions.Text.{Text}
use Rattle.parsed_tree.specs.declared.expressions.Base.{Base}
use Rattle.parsed_tree.specs.declared.expressions.Base.TheVariants as base
use Rattle.parsed_tree.specs.declared.expressions.TypeName.{TypeName}
use Rattle.parsed_tree.specs.declared.expressions.UnaryOperator.{UnaryOperator}
use Rattle.parsed_tree.specs.declared.expressions.UnaryOperator.TheVariants as unary_op
use Rattle.parsed_tree.specs.declared.expressions.Operator.{Operator}
use Rattle.parsed_tree.specs.declared.expressions.Operator.TheVariants as op
use Rattle.parsed_tree.specs.declared.expressions.Spot.{Spot}
use Rattle.parsed_tree.specs.Tree.{ExprTree, number, truth, null, local, outcome, unary, binary, choose, arrow, call, call_text, alloc, acc, ExprTrees, no_exprs, expr_and, spot_of, from, FormulaTree}
use Rattle.c0_grammar.specs.Tokens.{Token, keyword, symbol, name_token, text_token, number_token}
use Rattle.c0_grammar.specs.Lists.{spell_all}

abbrev pub truth_word : Bool → Keyword
truth_word true = key.True
truth_word false = key.False

abbrev pub unary_symbol : UnaryOperator → Symbol
unary_symbol unary_op.Negate = mark.Minus
unary_symbol unary_op.Not = mark.Tilde
unary_symbol unary_op.Flip = mark.Not

abbrev pub operator_symbol : Operator → Symbol
operator_symbol op.Mul = mark.Star
operator_symbol op.Div = mark.Slash
operator_symbol op.Rem = mark.Percent
operator_symbol op.Add = mark.Plus
operator_symbol op.Sub = mark.Minus
operator_symbol op.Shl = mark.ShiftLeft
operator_symbol op.Shr = mark.ShiftRight
operator_symbol op.Less = mark.Less
operator_symbol op.LessEq = mark.LessEq
operator_symbol op.Greater = mark.Greater
operator_symbol op.GreaterEq = mark.GreaterEq
operator_symbol op.Equal = mark.Equal
operator_symbol op.NotEqual = mark.NotEqual
operator_symbol op.And = mark.And
operator_symbol op.Xor = mark.Xor
operator_symbol op.Or = mark.Or
operator_symbol op.Both = mark.Both
operator_symbol op.Either = mark.Either

-- ---- type = ( "int" | "bool" | "struct" id | typedefname ) { "*" }
pub data BaseText : Type 0 where
  int_word : (at : Place) → BaseText
  bool_word : (at : Place) → BaseText
  struct_word : (at n : Place) → List ℕ → BaseText
  alias_word : (at : Place) → List ℕ → BaseText

pub record TypeText : Type 0 where
  pub base : BaseText
  pub stars : List Place

abbrev pub named_at : Place → List ℕ → Named
named_at at n = record { name = n; place = at }

abbrev pub text_at : Place → List ℕ → Text
text_at at b = record { bytes = b; place = at }

abbrev pub spell_base : BaseText → List Token → List Token
spell_base (int_word at) rest = keyword key.Int at ∷ rest
spell_base (bool_word at) rest = keyword key.Bool at ∷ rest
spell_base (struct_word at n name) rest = keyword key.Struct at ∷ name_token name n ∷ rest
spell_base (alias_word at name) rest = name_token name at ∷ rest

abbrev pub spell_star : Place → List Token → List Token
spell_star at rest = symbol mark.Star at ∷ rest

abbrev pub spell_type : TypeText → List Token → List Token
spell_type t rest = spell_base t.base (spell_all spell_star t.stars rest)

abbrev pub base_place : BaseText → Place
base_place (int_word at) = at
base_place (bool_word at) = at
base_place (struct_word at n name) = at
base_place (alias_word at name) = at

abbrev pub base_tree : BaseText → Base
base_tree (int_word at) = base.Int
base_tree (bool_word at) = base.Bool
base_tree (struct_word at n name) = base.Struct (named_at n name)
base_tree (alias_word at name) = base.Alias name

abbrev pub type_tree : TypeText → TypeName
type_tree t = record { place = base_place t.base; base = base_tree t.base; stars = length t.stars }

-- ---- expressions, of the code and of formulas
mutual
  pub data Written : Type 0 where
    digits : (at : Place) → Word → Written
    truth_token : (at : Place) → Bool → Written
    null_token : (at : Place) → Written
    word : (at : Place) → List ℕ → Written
    result_word : (at : Place) → Written
    before : (at : Place) → UnaryOperator → Written → Written
    between : Written → (at : Place) → Operator → Written → Written
    choice : Written → (q : Place) → Written → (c : Place) → Written → Written
    round : (a : Place) → Written → (b : Place) → Written
    -- id "(" [ args ] ")": a call, or an instance
    called : (at : Place) → List ℕ → (a : Place) → Args → (b : Place) → Written
    -- id "(" string ")"
    called_text : (at : Place) → List ℕ → (a t : Place) → List ℕ → (b : Place) → Written
    allocated : (at a : Place) → TypeText → (b : Place) → Written
    arrow_to : Written → (at f : Place) → List ℕ → Written
    -- "acc" "(" path "->" id ")"
    permission : (at a : Place) → Written → (p f : Place) → List ℕ → (b : Place) → Written

  pub data Args : Type 0 where
    no_args : Args
    some_args : Written → More → Args

  -- { "," expr }
  pub data More : Type 0 where
    no_more : More
    more_and : (at : Place) → Written → More → More

abbrev mutual
  pub spell : Written → List Token → List Token
  spell (digits at w) rest = number_token w at ∷ rest
  spell (truth_token at b) rest = keyword (truth_word b) at ∷ rest
  spell (null_token at) rest = keyword key.Null at ∷ rest
  spell (word at n) rest = name_token n at ∷ rest
  spell (result_word at) rest = keyword key.Outcome at ∷ rest
  spell (before at o x) rest = symbol (unary_symbol o) at ∷ spell x rest
  spell (between x at o y) rest = spell x (symbol (operator_symbol o) at ∷ spell y rest)
  spell (choice x q y c z) rest = spell x (symbol mark.Question q ∷ spell y (symbol mark.Colon c ∷ spell z rest))
  spell (round a x b) rest = symbol mark.OpenParen a ∷ spell x (symbol mark.CloseParen b ∷ rest)
  spell (called at n a xs b) rest = name_token n at ∷ symbol mark.OpenParen a ∷ spell_args xs (symbol mark.CloseParen b ∷ rest)
  spell (called_text at n a t bytes b) rest = name_token n at ∷ symbol mark.OpenParen a ∷ text_token bytes t ∷ symbol mark.CloseParen b ∷ rest
  spell (allocated at a t b) rest = keyword key.Alloc at ∷ symbol mark.OpenParen a ∷ spell_type t (symbol mark.CloseParen b ∷ rest)
  spell (arrow_to x at f n) rest = spell x (symbol mark.Arrow at ∷ name_token n f ∷ rest)
  spell (permission at a x p f n b) rest = keyword key.Acc at ∷ symbol mark.OpenParen a ∷ spell x (symbol mark.Arrow p ∷ name_token n f ∷ symbol mark.CloseParen b ∷ rest)

  pub spell_args : Args → List Token → List Token
  spell_args no_args rest = rest
  spell_args (some_args x xs) rest = spell x (spell_more xs rest)

  pub spell_more : More → List Token → List Token
  spell_more no_more rest = rest
  spell_more (more_and at x xs) rest = symbol mark.Comma at ∷ spell x (spell_more xs rest)

-- ---- the tree
abbrev pub spot : Place → Spot
spot at = record { place = at; first = at }

-- behind a left side, whose first token is that of the whole
abbrev pub spot_behind : Place → ExprTree → Spot
spot_behind at x = record { place = at; first = (spot_of x).first }

abbrev pub joined : Place → Operator → ExprTree → ExprTree → ExprTree
joined at o x y = binary (spot_behind at x) o x y

abbrev pub chosen : Place → ExprTree → ExprTree → ExprTree → ExprTree
chosen at x y z = choose (spot_behind at x) x y z

abbrev pub pointed : Place → ExprTree → Named → ExprTree
pointed at x n = arrow (spot_behind at x) x n

abbrev mutual
  pub tree_of : Written → ExprTree
  tree_of (digits at w) = number (spot at) w
  tree_of (truth_token at b) = truth (spot at) b
  tree_of (null_token at) = null (spot at)
  tree_of (word at n) = local (spot at) n
  tree_of (result_word at) = outcome (spot at)
  tree_of (before at o x) = unary (spot at) o (tree_of x)
  tree_of (between x at o y) = joined at o (tree_of x) (tree_of y)
  tree_of (choice x q y c z) = chosen q (tree_of x) (tree_of y) (tree_of z)
  tree_of (round a x b) = from a (tree_of x)
  tree_of (called at n a xs b) = call (spot at) n (args_trees xs)
  tree_of (called_text at n a t bytes b) = call_text (spot at) n (text_at t bytes)
  tree_of (allocated at a t b) = alloc (spot at) (type_tree t)
  tree_of (arrow_to x at f n) = pointed at (tree_of x) (named_at f n)
  tree_of (permission at a x p f n b) = acc (spot at) (tree_of x) p (named_at f n)

  pub args_trees : Args → ExprTrees
  args_trees no_args = no_exprs
  args_trees (some_args x xs) = expr_and (tree_of x) (more_trees xs)

  pub more_trees : More → ExprTrees
  more_trees no_more = no_exprs
  more_trees (more_and at x xs) = expr_and (tree_of x) (more_trees xs)

-- ---- nodes: a pair of parentheses, a call, an instance, an `acc` and an operator, of which `->` is one
abbrev mutual
  pub depth : Written → ℕ
  depth (digits at w) = 0
  depth (truth_token at b) = 0
  depth (null_token at) = 0
  depth (word at n) = 0
  depth (result_word at) = 0
  depth (before at o x) = depth x + 1
  depth (between x at o y) = max (depth x) (depth y) + 1
  depth (choice x q y c z) = max (depth x) (max (depth y) (depth z)) + 1
  depth (round a x b) = depth x + 1
  depth (called at n a xs b) = depth_args xs + 1
  depth (called_text at n a t bytes b) = 1
  depth (allocated at a t b) = 0
  depth (arrow_to x at f n) = depth x + 1
  depth (permission at a x p f n b) = depth x + 2

  pub depth_args : Args → ℕ
  depth_args no_args = 0
  depth_args (some_args x xs) = max (depth x) (depth_more xs)

  pub depth_more : More → ℕ
  depth_more no_more = 0
  depth_more (more_and at x xs) = max (depth x) (depth_more xs)

-- ---- formula = "?" [ "&&" parts ] | parts
pub data FormulaText : Type 0 where
  unknown : (at : Place) → FormulaText
  unknown_and : (at a : Place) → Written → FormulaText
  known : Written → FormulaText

abbrev pub spell_formula : FormulaText → List Token → List Token
spell_formula (unknown at) rest = symbol mark.Question at ∷ rest
spell_formula (unknown_and at a x) rest = symbol mark.Question at ∷ symbol mark.Both a ∷ spell x rest
spell_formula (known x) rest = spell x rest

abbrev pub formula_tree : FormulaText → FormulaTree
formula_tree (unknown at) = record { imprecise = true; parts = None }
formula_tree (unknown_and at a x) = record { imprecise = true; parts = Some (tree_of x) }
formula_tree (known x) = record { imprecise = false; parts = Some (tree_of x) }

abbrev pub depth_formula : FormulaText → ℕ
depth_formula (unknown at) = 0
depth_formula (unknown_and at a x) = depth x
depth_formula (known x) = depth x
