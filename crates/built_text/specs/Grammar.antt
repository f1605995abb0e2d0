-- The grammar: what can be written, its tokens, and the tree that it means. A text is described
-- with all that the tree leaves out: its parentheses, and the place of each token (a part of the
-- grammar of the C0 Reference, with the annotations of Gradual C0).
use Rattle.std.specs.Prelude.{◌≡◌, ℕ, zero, suc, ◌+◌, ◌-◌, ◌≤◌, Bool, true, false, List, [], ◌∷◌}
use Rattle.gc0_base.specs.declared.place.Place.{Place}
use Rattle.gc0_base.specs.declared.word.Word.{Word}
use Rattle.gc0_base.specs.declared.limits.TheConstants.Limits as limits
use Rattle.built_text.specs.declared.token.Token.{Token}
use Rattle.built_text.specs.declared.token.Kind.{Kind}
use Rattle.built_text.specs.declared.token.Kind.TheVariants.{Known, Name, Number, End}
use Rattle.built_text.specs.declared.token.Fixed.{Fixed}
use Rattle.built_text.specs.declared.token.Fixed.TheVariants as mark
use Rattle.built_text.specs.declared.tree.Spot.{Spot}
use Rattle.built_text.specs.declared.tree.Shape.{Shape}
use Rattle.built_text.specs.declared.tree.Shape.TheVariants as shape
use Rattle.built_text.specs.declared.tree.Typed.{Typed}
use Rattle.built_text.specs.declared.tree.Named.{Named}
use Rattle.built_text.specs.declared.tree.UnaryOperator.{UnaryOperator}
use Rattle.built_text.specs.declared.tree.UnaryOperator.TheVariants as unary_op
use Rattle.built_text.specs.declared.tree.Operator.{Operator}
use Rattle.built_text.specs.declared.tree.Operator.TheVariants as op
use Rattle.built_text.specs.declared.tree.ClauseKind.{ClauseKind}
use Rattle.built_text.specs.declared.tree.ClauseKind.TheVariants as side
use Rattle.built_text.specs.declared.tree.Parameter.{Parameter}
use Rattle.built_text.specs.Tree.{ExprTree, number, truth, local, outcome, unary, binary, spot_of, from, CallTree, RightTree, value, call, FormulaTree, NoteTree, StmtTree, declare, assign, call_stmt, print_stmt, return_stmt, if_stmt, while_stmt, assert_stmt, StmtTrees, no_stmts, stmt, ClauseTree, FunctionTree, ProgramTree}

-- ---- tokens
abbrev pub token : Kind → Place → Token
token k at = record { kind = k; place = at }

-- a keyword or a symbol
abbrev pub fixed : Fixed → Place → Token
fixed f at = token (Known f) at

abbrev pub type_word : Shape → Fixed
type_word shape.Int = mark.Int
type_word shape.Bool = mark.Bool

abbrev pub print_word : Shape → Fixed
print_word shape.Int = mark.PrintInt
print_word shape.Bool = mark.PrintBool

abbrev pub truth_mark : Bool → Fixed
truth_mark true = mark.True
truth_mark false = mark.False

abbrev pub unary_mark : UnaryOperator → Fixed
unary_mark unary_op.Not = mark.Not
unary_mark unary_op.Negate = mark.Minus

abbrev pub operator_mark : Operator → Fixed
operator_mark op.Mul = mark.Star
operator_mark op.Add = mark.Plus
operator_mark op.Sub = mark.Minus
operator_mark op.Less = mark.Less
operator_mark op.LessEq = mark.LessEq
operator_mark op.Greater = mark.Greater
operator_mark op.GreaterEq = mark.GreaterEq
operator_mark op.Equal = mark.Equal
operator_mark op.NotEqual = mark.NotEqual

abbrev pub clause_word : ClauseKind → Fixed
clause_word side.Requires = mark.Requires
clause_word side.Ensures = mark.Ensures

-- ---- expressions
pub data Written : Type 0 where
  digits : (at : Place) → Word → Written
  truth_word : (at : Place) → Bool → Written
  word : (at : Place) → List ℕ → Written
  result_word : (at : Place) → Written
  before : (at : Place) → UnaryOperator → Written → Written
  between : Written → (at : Place) → Operator → Written → Written
  round : (a : Place) → Written → (b : Place) → Written

-- its tokens, in front of others
abbrev pub spell : Written → List Token → List Token
spell (digits at w) rest = token (Number w) at ∷ rest
spell (truth_word at b) rest = fixed (truth_mark b) at ∷ rest
spell (word at n) rest = token (Name n) at ∷ rest
spell (result_word at) rest = fixed mark.Outcome at ∷ rest
spell (before at o x) rest = fixed (unary_mark o) at ∷ spell x rest
spell (between x at o y) rest = spell x (fixed (operator_mark o) at ∷ spell y rest)
spell (round a x b) rest = fixed mark.Open a ∷ spell x (fixed mark.Close b ∷ rest)

abbrev pub spot : Place → Spot
spot at = record { place = at; first = at }

-- a left side, an operator at its place, and a right side
abbrev pub joined : Place → Operator → ExprTree → ExprTree → ExprTree
joined at o x y = binary (record { place = at; first = (spot_of x).first }) o x y

abbrev pub tree_of : Written → ExprTree
tree_of (digits at w) = number (spot at) w
tree_of (truth_word at b) = truth (spot at) b
tree_of (word at n) = local (spot at) n
tree_of (result_word at) = outcome (spot at)
tree_of (before at o x) = unary (spot at) o (tree_of x)
tree_of (between x at o y) = joined at o (tree_of x) (tree_of y)
tree_of (round a x b) = from a (tree_of x)

-- 0 binds most
abbrev pub rank : Operator → ℕ
rank op.Mul = 0
rank op.Add = 1
rank op.Sub = 1
rank op.Less = 2
rank op.LessEq = 2
rank op.Greater = 2
rank op.GreaterEq = 2
rank op.Equal = 3
rank op.NotEqual = 3

-- 0 for what needs no parentheses behind a unary operator, else one more than its operator's rank
abbrev pub height : Written → ℕ
height (between x at o y) = suc (rank o)
height x = 0

-- how many operators stand between two expressions, parenthesized parts included
abbrev pub operators : Written → ℕ
operators (before at o x) = operators x
operators (between x at o y) = operators x + suc (operators y)
operators (round a x b) = operators x
operators x = 0

-- true of one level less; false where no level is left
abbrev pub Deeper : ℕ → (ℕ → Type 0) → Type 0
Deeper zero f = ⊥
Deeper (suc room) f = f room

-- What the grammar allows. `!`, `-` and `(` may nest as deep as there is room, `\result` may
-- stand where `ensures` is true, operators associate to the left: what stands to the right of
-- one binds more.
abbrev pub Good : (ensures : Bool) → (room : ℕ) → Written → Type 0
Good f room (digits at w) = Unit {0}
Good f room (truth_word at b) = Unit {0}
Good f room (word at n) = Unit {0}
Good f room (result_word at) = f ≡ true
Good f room (before at o x) = Deeper room (λ r. Good f r x × (height x ≡ 0))
Good f room (between x at o y) =
    Good f room x × Good f room y × (height x ≤ suc (rank o)) × (height y ≤ rank o)
Good f room (round a x b) = Deeper room (λ r. Good f r x)

-- how many operators between two expressions one expression may have: as many as a source text has
-- bytes, so no text within the limits has more
abbrev pub most_operators : ℕ
most_operators = limits.SOURCE

-- how deep `!`, `-`, `(` and blocks may nest
abbrev pub most_nested : ℕ
most_nested = limits.NESTING

-- how deep they may nest in a function's body, which is a block itself
abbrev pub body_room : ℕ
body_room = most_nested - 1

pub record GoodExpr (ensures : Bool) (room : ℕ) (x : Written) : Type 0 where
  pub good : Good ensures room x
  pub short : operators x ≤ most_operators

-- ---- { separator expr }
pub data Chain : Type 0 where
  no_link : Chain
  link : (at : Place) → Written → Chain → Chain

abbrev pub spell_chain : Fixed → Chain → List Token → List Token
spell_chain s no_link rest = rest
spell_chain s (link at x xs) rest = fixed s at ∷ spell x (spell_chain s xs rest)

abbrev pub chain_trees : Chain → List ExprTree
chain_trees no_link = []
chain_trees (link at x xs) = tree_of x ∷ chain_trees xs

abbrev pub GoodChain : (ensures : Bool) → (room : ℕ) → Chain → Type 0
GoodChain f room no_link = Unit {0}
GoodChain f room (link at x xs) = GoodExpr f room x × GoodChain f room xs

-- ---- call = id "(" [ expr { "," expr } ] ")"      right = expr | call
pub data Args : Type 0 where
  no_args : Args
  some_args : Written → Chain → Args

abbrev pub spell_args : Args → List Token → List Token
spell_args no_args rest = rest
spell_args (some_args x xs) rest = spell x (spell_chain mark.Comma xs rest)

abbrev pub args_trees : Args → List ExprTree
args_trees no_args = []
args_trees (some_args x xs) = tree_of x ∷ chain_trees xs

abbrev pub GoodArgs : (room : ℕ) → Args → Type 0
GoodArgs room no_args = Unit {0}
GoodArgs room (some_args x xs) = GoodExpr false room x × GoodChain false room xs

pub record CallText : Type 0 where
  pub at : Place
  pub name : List ℕ
  pub a : Place
  pub args : Args
  pub b : Place

abbrev pub spell_call : CallText → List Token → List Token
spell_call c rest =
    token (Name c.name) c.at ∷ fixed mark.Open c.a ∷ spell_args c.args (fixed mark.Close c.b ∷ rest)

abbrev pub named_at : Place → List ℕ → Named
named_at at n = record { name = n; place = at }

abbrev pub call_tree : CallText → CallTree
call_tree c = record { name = named_at c.at c.name; arguments = args_trees c.args }

pub data RightText : Type 0 where
  plain : Written → RightText
  invoked : CallText → RightText

abbrev pub spell_right : RightText → List Token → List Token
spell_right (plain x) rest = spell x rest
spell_right (invoked c) rest = spell_call c rest

abbrev pub right_tree : RightText → RightTree
right_tree (plain x) = value (tree_of x)
right_tree (invoked c) = call (call_tree c)

abbrev pub GoodRight : (room : ℕ) → RightText → Type 0
GoodRight room (plain x) = GoodExpr false room x
GoodRight room (invoked c) = GoodArgs room c.args

-- ---- formula = "?" [ "&&" parts ] | parts      parts = expr { "&&" expr }
pub data FormulaText : Type 0 where
  precise : Written → Chain → FormulaText
  gradual : (at : Place) → Chain → FormulaText

abbrev pub spell_formula : FormulaText → List Token → List Token
spell_formula (precise x xs) rest = spell x (spell_chain mark.And xs rest)
spell_formula (gradual at xs) rest = fixed mark.Question at ∷ spell_chain mark.And xs rest

abbrev pub formula_tree : FormulaText → FormulaTree
formula_tree (precise x xs) = record { imprecise = false; conjuncts = tree_of x ∷ chain_trees xs }
formula_tree (gradual at xs) = record { imprecise = true; conjuncts = chain_trees xs }

abbrev pub GoodFormula : (ensures : Bool) → (room : ℕ) → FormulaText → Type 0
GoodFormula f room (precise x xs) = GoodExpr f room x × GoodChain f room xs
GoodFormula f room (gradual at xs) = GoodChain f room xs

-- "//@" word formula ";" lineend
pub record NoteText : Type 0 where
  pub a : Place
  pub at : Place
  pub formula : FormulaText
  pub c : Place
  pub l : Place

abbrev pub spell_note : Fixed → NoteText → List Token → List Token
spell_note w n rest = fixed mark.Annotation n.a ∷ fixed w n.at ∷ spell_formula n.formula (fixed mark.Semicolon n.c ∷ fixed mark.LineEnd n.l ∷ rest)

abbrev pub note_tree : NoteText → NoteTree
note_tree n = record { place = n.at; formula = formula_tree n.formula }

-- { "//@" "loop_invariant" formula ";" lineend }
abbrev pub spell_notes : List NoteText → List Token → List Token
spell_notes [] rest = rest
spell_notes (n ∷ ns) rest = spell_note mark.LoopInvariant n (spell_notes ns rest)

abbrev pub note_trees : List NoteText → List NoteTree
note_trees [] = []
note_trees (n ∷ ns) = note_tree n ∷ note_trees ns

abbrev pub GoodNotes : (room : ℕ) → List NoteText → Type 0
GoodNotes room [] = Unit {0}
GoodNotes room (n ∷ ns) = GoodFormula false room n.formula × GoodNotes room ns

-- ---- statements
mutual
  pub data Line : Type 0 where
    declares : (t : Place) → Shape → (n : Place) → List ℕ → (q : Place) → RightText → (c : Place)
        → Line
    assigns : (n : Place) → List ℕ → (q : Place) → RightText → (c : Place) → Line
    calls : CallText → (c : Place) → Line
    prints : (p : Place) → Shape → (a : Place) → Written → (b c : Place) → Line
    returns : (r : Place) → Written → (c : Place) → Line
    ifs : (i a : Place) → Written → (b o : Place) → Lines → (e : Place) → Otherwise → Line
    whiles : (w a : Place) → Written → (b : Place) → List NoteText → (o : Place) → Lines
        → (e : Place) → Line
    asserts : NoteText → Line

  pub data Otherwise : Type 0 where
    no_else : Otherwise
    elses : (s o : Place) → Lines → (e : Place) → Otherwise

  pub data Lines : Type 0 where
    no_lines : Lines
    line : Line → Lines → Lines

abbrev mutual
  pub spell_line : Line → List Token → List Token
  spell_line (declares t s n name q r c) rest = fixed (type_word s) t ∷ token (Name name) n ∷ fixed mark.Assign q ∷ spell_right r (fixed mark.Semicolon c ∷ rest)
  spell_line (assigns n name q r c) rest =
      token (Name name) n ∷ fixed mark.Assign q ∷ spell_right r (fixed mark.Semicolon c ∷ rest)
  spell_line (calls k c) rest = spell_call k (fixed mark.Semicolon c ∷ rest)
  spell_line (prints p s a x b c) rest = fixed (print_word s) p ∷ fixed mark.Open a ∷ spell x (fixed mark.Close b ∷ fixed mark.Semicolon c ∷ rest)
  spell_line (returns r x c) rest = fixed mark.Return r ∷ spell x (fixed mark.Semicolon c ∷ rest)
  spell_line (ifs i a x b o ls e m) rest = fixed mark.If i ∷ fixed mark.Open a ∷ spell x (fixed mark.Close b ∷ fixed mark.OpenBrace o ∷ spell_lines ls (fixed mark.CloseBrace e ∷ spell_otherwise m rest))
  spell_line (whiles w a x b ns o ls e) rest = fixed mark.While w ∷ fixed mark.Open a ∷ spell x (fixed mark.Close b ∷ spell_notes ns (fixed mark.OpenBrace o ∷ spell_lines ls (fixed mark.CloseBrace e ∷ rest)))
  spell_line (asserts n) rest = spell_note mark.Assert n rest

  pub spell_otherwise : Otherwise → List Token → List Token
  spell_otherwise no_else rest = rest
  spell_otherwise (elses s o ls e) rest =
      fixed mark.Else s ∷ fixed mark.OpenBrace o ∷ spell_lines ls (fixed mark.CloseBrace e ∷ rest)

  pub spell_lines : Lines → List Token → List Token
  spell_lines no_lines rest = rest
  spell_lines (line l ls) rest = spell_line l (spell_lines ls rest)

abbrev pub typed_at : Place → Shape → Typed
typed_at at s = record { shape = s; place = at }

abbrev mutual
  pub line_tree : Line → StmtTree
  line_tree (declares t s n name q r c) = declare (typed_at t s) (named_at n name) q (right_tree r)
  line_tree (assigns n name q r c) = assign (named_at n name) q (right_tree r)
  line_tree (calls k c) = call_stmt (call_tree k)
  line_tree (prints p s a x b c) = print_stmt p s (tree_of x)
  line_tree (returns r x c) = return_stmt r (tree_of x)
  line_tree (ifs i a x b o ls e m) = if_stmt i (tree_of x) (line_trees ls) (otherwise_trees m)
  line_tree (whiles w a x b ns o ls e) = while_stmt w (tree_of x) (note_trees ns) (line_trees ls)
  line_tree (asserts n) = assert_stmt (note_tree n)

  pub otherwise_trees : Otherwise → StmtTrees
  otherwise_trees no_else = no_stmts
  otherwise_trees (elses s o ls e) = line_trees ls

  pub line_trees : Lines → StmtTrees
  line_trees no_lines = no_stmts
  line_trees (line l ls) = stmt (line_tree l) (line_trees ls)

abbrev mutual
  pub GoodLine : (room : ℕ) → Line → Type 0
  GoodLine room (declares t s n name q r c) = GoodRight room r
  GoodLine room (assigns n name q r c) = GoodRight room r
  GoodLine room (calls k c) = GoodArgs room k.args
  GoodLine room (prints p s a x b c) = GoodExpr false room x
  GoodLine room (returns r x c) = GoodExpr false room x
  GoodLine room (ifs i a x b o ls e m) =
      GoodExpr false room x × Deeper room (λ r. GoodLines r ls × GoodOtherwise r m)
  GoodLine room (whiles w a x b ns o ls e) =
      GoodExpr false room x × GoodNotes room ns × Deeper room (λ r. GoodLines r ls)
  GoodLine room (asserts n) = GoodFormula false room n.formula

  pub GoodOtherwise : (room : ℕ) → Otherwise → Type 0
  GoodOtherwise room no_else = Unit {0}
  GoodOtherwise room (elses s o ls e) = GoodLines room ls

  pub GoodLines : (room : ℕ) → Lines → Type 0
  GoodLines room no_lines = Unit {0}
  GoodLines room (line l ls) = GoodLine room l × GoodLines room ls

abbrev pub is_return : StmtTree → Bool
is_return (return_stmt r x) = true
is_return s = false

-- whether the last statement is a `return`, behind statements of which that was the last
abbrev pub last_returns : Bool → StmtTrees → Bool
last_returns b no_stmts = b
last_returns b (stmt s ss) = last_returns (is_return s) ss

-- ---- functions
pub record ParameterText : Type 0 where
  pub t : Place
  pub shape : Shape
  pub n : Place
  pub name : List ℕ

abbrev pub spell_parameter : ParameterText → List Token → List Token
spell_parameter p rest = fixed (type_word p.shape) p.t ∷ token (Name p.name) p.n ∷ rest

abbrev pub parameter_tree : ParameterText → Parameter
parameter_tree p = record { typed = typed_at p.t p.shape; name = named_at p.n p.name }

-- { "," type id }
pub data MoreParameters : Type 0 where
  no_parameter : MoreParameters
  parameter : (at : Place) → ParameterText → MoreParameters → MoreParameters

abbrev pub spell_more : MoreParameters → List Token → List Token
spell_more no_parameter rest = rest
spell_more (parameter at p ps) rest = fixed mark.Comma at ∷ spell_parameter p (spell_more ps rest)

abbrev pub more_trees : MoreParameters → List Parameter
more_trees no_parameter = []
more_trees (parameter at p ps) = parameter_tree p ∷ more_trees ps

-- [ type id { "," type id } ]
pub data Parameters : Type 0 where
  no_parameters : Parameters
  parameters : ParameterText → MoreParameters → Parameters

abbrev pub spell_parameters : Parameters → List Token → List Token
spell_parameters no_parameters rest = rest
spell_parameters (parameters p ps) rest = spell_parameter p (spell_more ps rest)

abbrev pub parameter_trees : Parameters → List Parameter
parameter_trees no_parameters = []
parameter_trees (parameters p ps) = parameter_tree p ∷ more_trees ps

-- { contract }
pub record ClauseText : Type 0 where
  pub kind : ClauseKind
  pub note : NoteText

abbrev pub spell_contract : List ClauseText → List Token → List Token
spell_contract [] rest = rest
spell_contract (c ∷ cs) rest = spell_note (clause_word c.kind) c.note (spell_contract cs rest)

abbrev pub clause_tree : ClauseText → ClauseTree
clause_tree c = record { kind = c.kind; note = note_tree c.note }

abbrev pub contract_trees : List ClauseText → List ClauseTree
contract_trees [] = []
contract_trees (c ∷ cs) = clause_tree c ∷ contract_trees cs

-- `\result` may stand in an `ensures`
abbrev pub is_ensures : ClauseKind → Bool
is_ensures side.Requires = false
is_ensures side.Ensures = true

abbrev pub GoodContract : List ClauseText → Type 0
GoodContract [] = Unit {0}
GoodContract (c ∷ cs) = GoodFormula (is_ensures c.kind) most_nested c.note.formula × GoodContract cs

-- type id "(" parameters ")" { contract } "{" { stmt } "}"
pub record FunctionText : Type 0 where
  pub t : Place
  pub shape : Shape
  pub n : Place
  pub name : List ℕ
  pub a : Place
  pub parameters : Parameters
  pub b : Place
  pub contract : List ClauseText
  pub o : Place
  pub lines : Lines
  pub e : Place

abbrev pub spell_function : FunctionText → List Token → List Token
spell_function f rest = fixed (type_word f.shape) f.t ∷ token (Name f.name) f.n ∷ fixed mark.Open f.a ∷ spell_parameters f.parameters (fixed mark.Close f.b ∷ spell_contract f.contract (fixed mark.OpenBrace f.o ∷ spell_lines f.lines (fixed mark.CloseBrace f.e ∷ rest)))

abbrev pub function_tree : FunctionText → FunctionTree
function_tree f = record { typed = typed_at f.t f.shape; name = named_at f.n f.name; parameters = parameter_trees f.parameters; contract = contract_trees f.contract; body = line_trees f.lines; close = f.e }

-- the last statement is a `return`
pub record GoodFunction (f : FunctionText) : Type 0 where
  pub contract : GoodContract f.contract
  pub lines : GoodLines body_room f.lines
  pub returned : last_returns false (line_trees f.lines) ≡ true

abbrev pub spell_functions : List FunctionText → List Token → List Token
spell_functions [] rest = rest
spell_functions (f ∷ fs) rest = spell_function f (spell_functions fs rest)

abbrev pub function_trees : List FunctionText → List FunctionTree
function_trees [] = []
function_trees (f ∷ fs) = function_tree f ∷ function_trees fs

abbrev pub GoodFunctions : List FunctionText → Type 0
GoodFunctions [] = Unit {0}
GoodFunctions (f ∷ fs) = GoodFunction f × GoodFunctions fs

-- ---- the tokens are this program: its functions, and the end of the text
pub record IsProgram (ts : List Token) (p : ProgramTree) : Type 0 where
  pub functions : List FunctionText
  pub last : Place
  pub good : GoodFunctions functions
  pub tokens : ts ≡ spell_functions functions (token End last ∷ [])
  pub tree : p ≡ record { functions = function_trees functions }
