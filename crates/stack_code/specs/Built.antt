-- The programs that have code so far: functions over ints and bools, with loops, calls, and formulas of locals.
use Rattle.std.specs.Prelude.{◌≡◌, ℕ, suc, Bool, true, false, List, [], ◌∷◌, Option, Some, None, IsTrue, is_some, slice_get}
use Rattle.gc0_tree.specs.declared.UnaryOp.{UnaryOp}
use Rattle.gc0_tree.specs.declared.UnaryOp.TheVariants as unary
use Rattle.gc0_tree.specs.declared.ExprOp.{ExprOp}
use Rattle.gc0_tree.specs.declared.ExprOp.TheVariants as op
use Rattle.gc0_tree.specs.declared.LibraryCall.{LibraryCall}
use Rattle.gc0_tree.specs.declared.LibraryCall.TheVariants as library
use Rattle.gc0_tree.specs.Tree.{Tree, number_at, truth_at, local_at, result_at, unary_at, binary_at, call_at, library_at, Trees, no_trees, tree_and, Conjuncts, no_parts, value_part, Formula, assert_note, Stmt, declare_at, assign_at, plain_at, block_at, if_at, while_at, return_at, note_at, Stmts, no_stmts, stmt_and, Function, Program}

-- `-` and `!`
abbrev pub built_unary : UnaryOp → Bool
built_unary unary.Neg = true
built_unary unary.Flip = true
built_unary unary.Not = false

-- `+ - * < <= > >= == !=`
abbrev pub built_binary : ExprOp → Bool
built_binary op.Add = true
built_binary op.Sub = true
built_binary op.Mul = true
built_binary op.Less = true
built_binary op.LessEq = true
built_binary op.Greater = true
built_binary op.GreaterEq = true
built_binary op.Equal = true
built_binary op.NotEqual = true
built_binary o = false

-- `printint` and `printbool`
abbrev pub built_library : LibraryCall → Bool
built_library library.PrintInt = true
built_library library.PrintBool = true
built_library l = false

-- an expression of a formula: literals, locals, `\result` and built operators
abbrev pub IsFormulaTree : Tree → Type 0
IsFormulaTree (number_at at n) = Unit {0}
IsFormulaTree (truth_at at b) = Unit {0}
IsFormulaTree (local_at at i) = Unit {0}
IsFormulaTree (result_at at) = Unit {0}
IsFormulaTree (unary_at at o a) = IsTrue (built_unary o) × IsFormulaTree a
IsFormulaTree (binary_at at o a b) = IsTrue (built_binary o) × IsFormulaTree a × IsFormulaTree b
IsFormulaTree e = ⊥

-- a formula: values alone
abbrev pub AreValues : Conjuncts → Type 0
AreValues no_parts = Unit {0}
AreValues (value_part e rest) = IsFormulaTree e × AreValues rest
AreValues parts = ⊥

abbrev pub IsBuiltFormula : Formula → Type 0
IsBuiltFormula f = AreValues f.parts

abbrev pub count_of : Trees → ℕ
count_of no_trees = 0
count_of (tree_and e es) = suc (count_of es)

-- a function that takes so many arguments
abbrev pub Takes : Option Function → ℕ → Type 0
Takes None n = ⊥
Takes (Some f) n = f.params ≡ n

-- an expression of the code: literals, locals, built operators and calls with an argument for each parameter
abbrev mutual
  pub IsBuiltTree : List Function → Tree → Type 0
  IsBuiltTree fs (number_at at n) = Unit {0}
  IsBuiltTree fs (truth_at at b) = Unit {0}
  IsBuiltTree fs (local_at at i) = Unit {0}
  IsBuiltTree fs (unary_at at o a) = IsTrue (built_unary o) × IsBuiltTree fs a
  IsBuiltTree fs (binary_at at o a b) = IsTrue (built_binary o) × IsBuiltTree fs a × IsBuiltTree fs b
  IsBuiltTree fs (call_at at g es) = Takes (slice_get fs g) (count_of es) × AreBuiltTrees fs es
  IsBuiltTree fs e = ⊥

  pub AreBuiltTrees : List Function → Trees → Type 0
  AreBuiltTrees fs no_trees = Unit {0}
  AreBuiltTrees fs (tree_and e es) = IsBuiltTree fs e × AreBuiltTrees fs es

-- an expression statement: a call of the library that writes its argument, or an expression
abbrev pub IsBuiltPlain : List Function → Tree → Type 0
IsBuiltPlain fs (library_at at l es t) = IsTrue (built_library l) × (count_of es ≡ 1) × AreBuiltTrees fs es
IsBuiltPlain fs e = IsBuiltTree fs e

-- statements: a declaration has a value, an assignment no operator, a return its value
abbrev mutual
  pub IsBuiltStmt : List Function → Stmt → Type 0
  IsBuiltStmt fs (declare_at at i es) = (count_of es ≡ 1) × AreBuiltTrees fs es
  IsBuiltStmt fs (assign_at at i None op_at e) = IsBuiltTree fs e
  IsBuiltStmt fs (plain_at at e) = IsBuiltPlain fs e
  IsBuiltStmt fs (block_at at ss) = AreBuiltStmts fs ss
  IsBuiltStmt fs (if_at at c a b) = IsBuiltTree fs c × IsBuiltStmt fs a × AreBuiltStmts fs b
  IsBuiltStmt fs (while_at at inv c a) = IsBuiltFormula inv × IsBuiltTree fs c × IsBuiltStmt fs a
  IsBuiltStmt fs (return_at at es) = (count_of es ≡ 1) × AreBuiltTrees fs es
  IsBuiltStmt fs (note_at at assert_note formula) = IsBuiltFormula formula
  IsBuiltStmt fs s = ⊥

  pub AreBuiltStmts : List Function → Stmts → Type 0
  AreBuiltStmts fs no_stmts = Unit {0}
  AreBuiltStmts fs (stmt_and s ss) = IsBuiltStmt fs s × AreBuiltStmts fs ss

abbrev pub is_return : Stmt → Bool
is_return (return_at at es) = true
is_return s = false

-- the last statement is a `return`
abbrev pub ends_in_return : Stmts → Bool
ends_in_return no_stmts = false
ends_in_return (stmt_and s no_stmts) = is_return s
ends_in_return (stmt_and s (stmt_and t ss)) = ends_in_return (stmt_and t ss)

pub record IsBuiltFunction (fs : List Function) (f : Function) : Type 0 where
  pub has_result : IsTrue (is_some f.result)
  pub before : IsBuiltFormula f.before
  pub after : IsBuiltFormula f.after
  pub body : AreBuiltStmts fs f.body
  pub returns : IsTrue (ends_in_return f.body)

abbrev pub AreBuiltFunctions : List Function → List Function → Type 0
AreBuiltFunctions all [] = Unit {0}
AreBuiltFunctions all (f ∷ fs) = IsBuiltFunction all f × AreBuiltFunctions all fs

-- a program whose functions are built, with a `main` that takes no arguments
pub record IsBuilt (p : Program) : Type 0 where
  pub functions : AreBuiltFunctions p.functions p.functions
  pub main : Takes (slice_get p.functions p.main) 0
