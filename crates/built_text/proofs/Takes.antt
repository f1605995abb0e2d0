-- The texts that a plan takes, by the grammar.
use Rattle.std.proofs.Common.{◌≡◌, ℕ, suc, ◌+◌, ◌≤◌, Bool, true, cond, List, [], ◌∷◌, Option, Some, None, ◌⊎◌}
use Rattle.gc0_base.specs.declared.place.Place.{Place}
use Rattle.built_text.specs.declared.token.Token.{Token}
use Rattle.built_text.specs.declared.token.Kind.TheVariants.{Name, End}
use Rattle.built_text.specs.declared.token.Fixed.{Fixed}
use Rattle.built_text.specs.declared.token.Fixed.TheVariants as mark
use Rattle.built_text.specs.declared.tree.Shape.{Shape}
use Rattle.built_text.specs.declared.tree.Typed.{Typed}
use Rattle.built_text.specs.declared.tree.Named.{Named}
use Rattle.built_text.specs.declared.tree.Operator.{Operator}
use Rattle.built_text.specs.declared.tree.Parameter.{Parameter}
use Rattle.built_text.specs.Tree.{ExprTree, RightTree, NoteTree, StmtTrees, no_stmts, stmt, ClauseTree, FunctionTree, ProgramTree}
use Rattle.built_text.specs.Grammar.{token, fixed, type_word, operator_mark, Written, spell, joined, tree_of, rank, height, operators, Good, Chain, spell_chain, chain_trees, GoodChain, named_at, RightText, spell_right, right_tree, GoodRight, NoteText, spell_notes, note_trees, GoodNotes, Lines, spell_lines, typed_at, line_trees, GoodLines, is_return, MoreParameters, spell_more, more_trees, ClauseText, spell_contract, contract_trees, GoodContract, FunctionText, spell_functions, function_trees, GoodFunctions}
use Rattle.built_text.specs.Plan.{Plan, await, named, typed, peek, operand, ops, chain, right_side, notes, contract, lines, more_parameters, functions, finished}

-- ---- operators of one rank, each with its right side
pub data Tail : Type 0 where
  no_tail : Tail
  tail : (at : Place) → Operator → Written → Tail → Tail

abbrev pub spell_tail : Tail → List Token → List Token
spell_tail no_tail rest = rest
spell_tail (tail at o y tl) rest = fixed (operator_mark o) at ∷ spell y (spell_tail tl rest)

abbrev pub tail_tree : ExprTree → Tail → ExprTree
tail_tree e no_tail = e
tail_tree e (tail at o y tl) = tail_tree (joined at o e (tree_of y)) tl

abbrev pub tail_operators : Tail → ℕ
tail_operators no_tail = 0
tail_operators (tail at o y tl) = suc (operators y + tail_operators tl)

abbrev pub GoodTail : ℕ → Bool → ℕ → Tail → Type 0
GoodTail r f room no_tail = Unit {0}
GoodTail r f room (tail at o y tl) = (rank o ≡ r) × Good f room y × (height y ≤ r) × GoodTail r f room tl

-- whether the closing brace may come behind the statements
abbrev pub last_closes : (any now : Bool) → StmtTrees → Bool
last_closes any now no_stmts = now
last_closes any now (stmt s ss) = last_closes any (cond any true (is_return s)) ss

-- ---- K is what the rest is to be
pub record AtMark (f : Fixed) (K : Place → List Token → Type 0) (ts : List Token) : Type 0 where
  pub at : Place
  pub rest : List Token
  pub split : ts ≡ fixed f at ∷ rest
  pub after : K at rest

pub record AtNamed (K : Named → List Token → Type 0) (ts : List Token) : Type 0 where
  pub at : Place
  pub name : List ℕ
  pub rest : List Token
  pub split : ts ≡ token (Name name) at ∷ rest
  pub after : K (named_at at name) rest

pub record AtTyped (K : Typed → List Token → Type 0) (ts : List Token) : Type 0 where
  pub at : Place
  pub shape : Shape
  pub rest : List Token
  pub split : ts ≡ fixed (type_word shape) at ∷ rest
  pub after : K (typed_at at shape) rest

pub record AtOperand (f : Bool) (room left : ℕ) (K : ExprTree → ℕ → List Token → Type 0) (ts : List Token) : Type 0 where
  pub w : Written
  pub rest : List Token
  pub spare : ℕ
  pub good : Good f room w
  pub flat : height w ≡ 0
  pub count : left ≡ operators w + spare
  pub split : ts ≡ spell w rest
  pub after : K (tree_of w) spare rest

pub record AtOps (r : ℕ) (f : Bool) (room left : ℕ) (e : ExprTree) (K : ExprTree → ℕ → List Token → Type 0) (ts : List Token) : Type 0 where
  pub tl : Tail
  pub rest : List Token
  pub spare : ℕ
  pub good : GoodTail r f room tl
  pub count : left ≡ tail_operators tl + spare
  pub split : ts ≡ spell_tail tl rest
  pub after : K (tail_tree e tl) spare rest

pub record AtChain (s : Fixed) (f : Bool) (room : ℕ) (K : List ExprTree → List Token → Type 0) (ts : List Token) : Type 0 where
  pub xs : Chain
  pub rest : List Token
  pub good : GoodChain f room xs
  pub split : ts ≡ spell_chain s xs rest
  pub after : K (chain_trees xs) rest

pub record AtRight (room : ℕ) (K : RightTree → List Token → Type 0) (ts : List Token) : Type 0 where
  pub r : RightText
  pub rest : List Token
  pub good : GoodRight room r
  pub split : ts ≡ spell_right r rest
  pub after : K (right_tree r) rest

pub record AtNotes (room : ℕ) (K : List NoteTree → List Token → Type 0) (ts : List Token) : Type 0 where
  pub ns : List NoteText
  pub rest : List Token
  pub good : GoodNotes room ns
  pub split : ts ≡ spell_notes ns rest
  pub after : K (note_trees ns) rest

pub record AtContract (K : List ClauseTree → List Token → Type 0) (ts : List Token) : Type 0 where
  pub cs : List ClauseText
  pub rest : List Token
  pub good : GoodContract cs
  pub split : ts ≡ spell_contract cs rest
  pub after : K (contract_trees cs) rest

pub record AtLines (room : ℕ) (any now : Bool) (K : StmtTrees → Place → List Token → Type 0) (ts : List Token) : Type 0 where
  pub ls : Lines
  pub e : Place
  pub rest : List Token
  pub good : GoodLines room ls
  pub closes : last_closes any now (line_trees ls) ≡ true
  pub split : ts ≡ spell_lines ls (fixed mark.CloseBrace e ∷ rest)
  pub after : K (line_trees ls) e rest

pub record AtMore (K : List Parameter → List Token → Type 0) (ts : List Token) : Type 0 where
  pub ps : MoreParameters
  pub b : Place
  pub rest : List Token
  pub split : ts ≡ spell_more ps (fixed mark.Close b ∷ rest)
  pub after : K (more_trees ps) rest

pub record AtFunctions (K : List FunctionTree → List Token → Type 0) (ts : List Token) : Type 0 where
  pub fs : List FunctionText
  pub last : Place
  pub rest : List Token
  pub good : GoodFunctions fs
  pub split : ts ≡ spell_functions fs (token End last ∷ rest)
  pub after : K (function_trees fs) rest

abbrev pub Takes : Plan → List Token → ProgramTree → Type 0
Takes (await f next) ts p = AtMark f (λ at r. Takes (next at) r p) ts
Takes (named next) ts p = AtNamed (λ n r. Takes (next n) r p) ts
Takes (typed next) ts p = AtTyped (λ t r. Takes (next t) r p) ts
Takes (peek f these others) ts p = AtMark f (λ at r. Takes (these at) r p) ts ⊎ Takes others ts p
Takes (operand f room left next) ts p = AtOperand f room left (λ e l r. Takes (next e l) r p) ts
Takes (ops k f room left e next) ts p = AtOps k f room left e (λ e' l r. Takes (next e' l) r p) ts
Takes (chain s f room next) ts p = AtChain s f room (λ es r. Takes (next es) r p) ts
Takes (right_side room next) ts p = AtRight room (λ v r. Takes (next v) r p) ts
Takes (notes room next) ts p = AtNotes room (λ ns r. Takes (next ns) r p) ts
Takes (contract next) ts p = AtContract (λ cs r. Takes (next cs) r p) ts
Takes (lines room any now next) ts p = AtLines room any now (λ ss e r. Takes (next ss e) r p) ts
Takes (more_parameters next) ts p = AtMore (λ ps r. Takes (next ps) r p) ts
Takes (functions next) ts p = AtFunctions (λ fs r. Takes (next fs) r p) ts
Takes (finished q) ts p = (ts ≡ []) × (q ≡ p)

abbrev pub TakesNext : Option Plan → List Token → ProgramTree → Type 0
TakesNext None ts p = ⊥
TakesNext (Some plan) ts p = Takes plan ts p
