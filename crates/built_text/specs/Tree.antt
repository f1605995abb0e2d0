-- The tree of a program as plain data, on which definitions go by cases and laws by induction
-- (this project's own; the grammar is a part of that of the C0 Reference).
use Rattle.std.specs.Prelude.{ℕ, Bool, List}
use Rattle.gc0_base.specs.declared.place.Place.{Place}
use Rattle.gc0_base.specs.declared.word.Word.{Word}
use Rattle.built_text.specs.declared.tree.Spot.{Spot}
use Rattle.built_text.specs.declared.tree.Shape.{Shape}
use Rattle.built_text.specs.declared.tree.Typed.{Typed}
use Rattle.built_text.specs.declared.tree.Named.{Named}
use Rattle.built_text.specs.declared.tree.UnaryOperator.{UnaryOperator}
use Rattle.built_text.specs.declared.tree.Operator.{Operator}
use Rattle.built_text.specs.declared.tree.ClauseKind.{ClauseKind}
use Rattle.built_text.specs.declared.tree.Parameter.{Parameter}

-- an expression, without parentheses
pub data ExprTree : Type 0 where
  number : Spot → Word → ExprTree
  truth : Spot → Bool → ExprTree
  local : Spot → List ℕ → ExprTree
  outcome : Spot → ExprTree
  unary : Spot → UnaryOperator → ExprTree → ExprTree
  binary : Spot → Operator → ExprTree → ExprTree → ExprTree

abbrev pub spot_of : ExprTree → Spot
spot_of (number s w) = s
spot_of (truth s b) = s
spot_of (local s n) = s
spot_of (outcome s) = s
spot_of (unary s o x) = s
spot_of (binary s o x y) = s

-- the same expression where its first token stands elsewhere, at a parenthesis
abbrev pub begun : Place → Spot → Spot
begun a s = record s { first = a }

abbrev pub from : Place → ExprTree → ExprTree
from a (number s w) = number (begun a s) w
from a (truth s b) = truth (begun a s) b
from a (local s n) = local (begun a s) n
from a (outcome s) = outcome (begun a s)
from a (unary s o x) = unary (begun a s) o x
from a (binary s o x y) = binary (begun a s) o x y

pub record CallTree : Type 0 where
  pub name : Named
  pub arguments : List ExprTree

pub data RightTree : Type 0 where
  value : ExprTree → RightTree
  call : CallTree → RightTree

pub record FormulaTree : Type 0 where
  pub imprecise : Bool
  pub conjuncts : List ExprTree

pub record NoteTree : Type 0 where
  pub place : Place
  pub formula : FormulaTree

mutual
  pub data StmtTree : Type 0 where
    declare : Typed → Named → (equals : Place) → RightTree → StmtTree
    assign : Named → (equals : Place) → RightTree → StmtTree
    call_stmt : CallTree → StmtTree
    print_stmt : Place → Shape → ExprTree → StmtTree
    return_stmt : Place → ExprTree → StmtTree
    if_stmt : Place → ExprTree → StmtTrees → StmtTrees → StmtTree
    while_stmt : Place → ExprTree → List NoteTree → StmtTrees → StmtTree
    assert_stmt : NoteTree → StmtTree

  pub data StmtTrees : Type 0 where
    no_stmts : StmtTrees
    stmt : StmtTree → StmtTrees → StmtTrees

pub record ClauseTree : Type 0 where
  pub kind : ClauseKind
  pub note : NoteTree

pub record FunctionTree : Type 0 where
  pub typed : Typed
  pub name : Named
  pub parameters : List Parameter
  pub contract : List ClauseTree
  pub body : StmtTrees
  pub close : Place

pub record ProgramTree : Type 0 where
  pub functions : List FunctionTree
