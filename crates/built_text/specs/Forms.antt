-- The trees that the texts of the small grammar have in the whole grammar: functions over ints and
-- bools, with loops, calls, and contracts over locals.
-- A subset of the C0 Reference, "Expressions", "Statements" and "Functions", with the annotations of Gradual C0.
use Rattle.std.specs.Prelude.{◌≡◌, ◌⊎◌, ℕ, Bool, true, false, ◌||◌, List, [], ◌∷◌, Option, Some, None, IsTrue, codes}
use Rattle.std.specs.Str.{bytes_eq}
use Rattle.c0_lex.specs.declared.token.Token.{Token as LexToken}
use Rattle.parsed_tree.specs.declared.expressions.Base.{Base}
use Rattle.parsed_tree.specs.declared.expressions.Base.TheVariants as base
use Rattle.parsed_tree.specs.declared.expressions.TypeName.{TypeName}
use Rattle.parsed_tree.specs.declared.expressions.UnaryOperator.{UnaryOperator}
use Rattle.parsed_tree.specs.declared.expressions.UnaryOperator.TheVariants as unary_op
use Rattle.parsed_tree.specs.declared.expressions.Operator.{Operator}
use Rattle.parsed_tree.specs.declared.expressions.Operator.TheVariants as op
use Rattle.parsed_tree.specs.declared.items.Param.{Param}
use Rattle.parsed_tree.specs.declared.items.ResultType.{ResultType}
use Rattle.parsed_tree.specs.declared.items.ResultType.TheVariants as result
use Rattle.parsed_tree.specs.declared.items.Side.{Side}
use Rattle.parsed_tree.specs.declared.items.Side.TheVariants as side
use Rattle.parsed_tree.specs.Tree.{ExprTree, number, truth, local, outcome, unary, binary, call, ExprTrees, no_exprs, expr_and, FormulaTree, assert_note, NoteForm, NoteTree, InvariantTree, InvariantsTree, SimpleTree, declare, assign, plain, StmtTree, simple_stmt, block_stmt, if_stmt, while_stmt, return_stmt, notes_stmt, StmtTrees, no_stmts, stmt_and, ClauseTree, ContractTree, ItemTree, function_item, ProgramTree}
use Rattle.c0_grammar.specs.Seen.{all_seen}
use Rattle.c0_grammar.specs.Grammar.{IsProgram}
use Rattle.built_text.specs.Tree.{ProgramTree as SmallTree}
use Rattle.built_text.specs.Tokens.{all_built}
use Rattle.built_text.specs.Grammar.{IsProgram as IsSmallProgram}

-- `-` and `!`
abbrev pub is_built_unary : UnaryOperator → Bool
is_built_unary unary_op.Negate = true
is_built_unary unary_op.Not = false
is_built_unary unary_op.Flip = true

-- `* + - < <= > >= == !=`
abbrev pub is_built_operator : Operator → Bool
is_built_operator op.Mul = true
is_built_operator op.Add = true
is_built_operator op.Sub = true
is_built_operator op.Less = true
is_built_operator op.LessEq = true
is_built_operator op.Greater = true
is_built_operator op.GreaterEq = true
is_built_operator op.Equal = true
is_built_operator op.NotEqual = true
is_built_operator o = false

-- an expression without calls; `\result` may stand in it where `ensures` is true
abbrev pub IsBuiltValue : (ensures : Bool) → ExprTree → Type 0
IsBuiltValue f (number s w) = Unit {0}
IsBuiltValue f (truth s b) = Unit {0}
IsBuiltValue f (local s n) = Unit {0}
IsBuiltValue f (outcome s) = f ≡ true
IsBuiltValue f (unary s o x) = IsTrue (is_built_unary o) × IsBuiltValue f x
IsBuiltValue f (binary s o x y) = IsTrue (is_built_operator o) × IsBuiltValue f x × IsBuiltValue f y
IsBuiltValue f e = ⊥

abbrev pub AreBuiltValues : ExprTrees → Type 0
AreBuiltValues no_exprs = Unit {0}
AreBuiltValues (expr_and x xs) = IsBuiltValue false x × AreBuiltValues xs

-- the calls of the library
abbrev pub is_printed : List ℕ → Bool
is_printed n = bytes_eq n (codes "printint") || bytes_eq n (codes "printbool")

abbrev pub is_library : List ℕ → Bool
is_library n = is_printed n || (bytes_eq n (codes "print") || (bytes_eq n (codes "println") || (bytes_eq n (codes "readint") || bytes_eq n (codes "moreint"))))

-- right = expr | call
abbrev pub IsBuiltRight : ExprTree → Type 0
IsBuiltRight (call s n xs) = (is_library n ≡ false) × AreBuiltValues xs
IsBuiltRight e = IsBuiltValue false e

-- a call, or one that prints its one argument
abbrev pub IsBuiltCall : ExprTree → Type 0
IsBuiltCall (call s n (expr_and x no_exprs)) =
    IsBuiltValue false x × ((is_printed n ≡ true) ⊎ (is_library n ≡ false))
IsBuiltCall (call s n xs) = AreBuiltValues xs × (is_library n ≡ false)
IsBuiltCall e = ⊥

-- expr { "&&" expr }
abbrev pub AreBuiltParts : (ensures : Bool) → ExprTree → Type 0
AreBuiltParts f (binary s op.Both x y) = AreBuiltParts f x × IsBuiltValue f y
AreBuiltParts f e = IsBuiltValue f e

abbrev pub IsBuiltOption : {A : Type 0} → (A → Type 0) → Option A → Type 0
IsBuiltOption P None = Unit {0}
IsBuiltOption P (Some x) = P x

abbrev pub AreAll : {A : Type 0} → (A → Type 0) → List A → Type 0
AreAll P [] = Unit {0}
AreAll P (x ∷ xs) = P x × AreAll P xs

abbrev pub IsBuiltFormula : (ensures : Bool) → FormulaTree → Type 0
IsBuiltFormula f g = IsBuiltOption (AreBuiltParts f) g.parts

abbrev pub IsBuiltForm : NoteForm → Type 0
IsBuiltForm (assert_note g) = IsBuiltFormula false g
IsBuiltForm form = ⊥

abbrev pub IsBuiltNote : NoteTree → Type 0
IsBuiltNote n = IsBuiltForm n.form

abbrev pub IsBuiltInvariant : InvariantTree → Type 0
IsBuiltInvariant i = IsBuiltFormula false i.formula

abbrev pub AreBuiltInvariants : InvariantsTree → Type 0
AreBuiltInvariants i = AreAll IsBuiltInvariant i.clauses

-- `int` or `bool`
abbrev pub IsPlainBase : Base → Type 0
IsPlainBase base.Int = Unit {0}
IsPlainBase base.Bool = Unit {0}
IsPlainBase b = ⊥

pub record IsPlainType (t : TypeName) : Type 0 where
  pub base : IsPlainBase t.base
  pub stars : t.stars ≡ 0

abbrev pub IsBuiltSimple : SimpleTree → Type 0
IsBuiltSimple (declare t n (Some v)) = IsPlainType t × IsBuiltRight v.1
IsBuiltSimple (assign (local s n) q None y) = IsBuiltRight y
IsBuiltSimple (plain e) = IsBuiltCall e
IsBuiltSimple s = ⊥

-- the body of `if`, `else` and `while` is a block, and blocks stand nowhere else
abbrev mutual
  pub IsBuiltStmt : StmtTree → Type 0
  IsBuiltStmt (simple_stmt s) = IsBuiltSimple s
  IsBuiltStmt (if_stmt p e (block_stmt q ss) no_stmts) = IsBuiltValue false e × AreBuiltStmts ss
  IsBuiltStmt (if_stmt p e (block_stmt q ss) (stmt_and (block_stmt r os) no_stmts)) =
      IsBuiltValue false e × AreBuiltStmts ss × AreBuiltStmts os
  IsBuiltStmt (while_stmt p e is (block_stmt q ss)) =
      IsBuiltValue false e × AreAll AreBuiltInvariants is × AreBuiltStmts ss
  IsBuiltStmt (return_stmt p (Some e)) = IsBuiltValue false e
  IsBuiltStmt (notes_stmt p (n ∷ [])) = IsBuiltNote n
  IsBuiltStmt s = ⊥

  pub AreBuiltStmts : StmtTrees → Type 0
  AreBuiltStmts no_stmts = Unit {0}
  AreBuiltStmts (stmt_and s ss) = IsBuiltStmt s × AreBuiltStmts ss

abbrev pub is_return : StmtTree → Bool
is_return (return_stmt p e) = true
is_return s = false

-- the last statement is a `return`
abbrev pub ends_in_return : StmtTrees → Bool
ends_in_return no_stmts = false
ends_in_return (stmt_and s no_stmts) = is_return s
ends_in_return (stmt_and s (stmt_and r ss)) = ends_in_return (stmt_and r ss)

abbrev pub is_ensures : Side → Bool
is_ensures side.Requires = false
is_ensures side.Ensures = true

abbrev pub IsBuiltClause : ClauseTree → Type 0
IsBuiltClause c = IsBuiltFormula (is_ensures c.side) c.formula

abbrev pub IsBuiltContract : ContractTree → Type 0
IsBuiltContract c = AreAll IsBuiltClause c.clauses

abbrev pub IsBuiltParam : Param → Type 0
IsBuiltParam p = IsPlainType p.typed

abbrev pub IsBuiltResult : ResultType → Type 0
IsBuiltResult (result.Void p) = ⊥
IsBuiltResult (result.Typed t) = IsPlainType t

abbrev pub IsBuiltItem : ItemTree → Type 0
IsBuiltItem (function_item h cs ss close) =
    IsBuiltResult h.result × AreAll IsBuiltParam h.params × AreAll IsBuiltContract cs
    × AreBuiltStmts ss × (ends_in_return ss ≡ true)
IsBuiltItem i = ⊥

-- functions alone, in these forms
abbrev pub IsBuiltProgram : ProgramTree → Type 0
IsBuiltProgram p = AreAll IsBuiltItem p.items

-- a text of the small grammar has, in the whole grammar, a tree of these forms
abbrev pub IsBuiltLaw : Type 0
IsBuiltLaw =
    (ts : List LexToken) (p : SmallTree) (w : ProgramTree) (nodes : ℕ)
    → IsSmallProgram (all_built ts) p → IsProgram (all_seen ts) w nodes → IsBuiltProgram w
