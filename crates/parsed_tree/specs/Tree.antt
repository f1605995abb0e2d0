-- The tree of a text as plain data, without where it lies in memory, on which definitions go by
-- cases and laws by induction (a part of the grammar of the C0 Reference, with the annotations of
-- Gradual C0).
use Rattle.std.specs.Prelude.{ℕ, Bool, List, Option}
use Rattle.gc0_base.specs.declared.place.Place.{Place}
use Rattle.gc0_base.specs.declared.word.Word.{Word}
use Rattle.parsed_tree.specs.declared.expressions.Named.{Named}
use Rattle.parsed_tree.specs.declared.expressions.Text.{Text}
use Rattle.parsed_tree.specs.declared.expressions.TypeName.{TypeName}
use Rattle.parsed_tree.specs.declared.expressions.UnaryOperator.{UnaryOperator}
use Rattle.parsed_tree.specs.declared.expressions.Operator.{Operator}
use Rattle.parsed_tree.specs.declared.expressions.Spot.{Spot}
use Rattle.parsed_tree.specs.declared.statements.UpdateOperator.{UpdateOperator}
use Rattle.parsed_tree.specs.declared.statements.StepOperator.{StepOperator}
use Rattle.parsed_tree.specs.declared.items.Library.{Library}
use Rattle.parsed_tree.specs.declared.items.Field.{Field}
use Rattle.parsed_tree.specs.declared.items.Param.{Param}
use Rattle.parsed_tree.specs.declared.items.Head.{Head}
use Rattle.parsed_tree.specs.declared.items.Side.{Side}

mutual
  -- an expression, without parentheses
  pub data ExprTree : Type 0 where
    number : Spot → Word → ExprTree
    truth : Spot → Bool → ExprTree
    null : Spot → ExprTree
    local : Spot → List ℕ → ExprTree
    outcome : Spot → ExprTree
    unary : Spot → UnaryOperator → ExprTree → ExprTree
    binary : Spot → Operator → ExprTree → ExprTree → ExprTree
    choose : Spot → ExprTree → ExprTree → ExprTree → ExprTree
    arrow : Spot → ExprTree → Named → ExprTree
    call : Spot → List ℕ → ExprTrees → ExprTree
    call_text : Spot → List ℕ → Text → ExprTree
    alloc : Spot → TypeName → ExprTree
    acc : Spot → ExprTree → (arrow_at : Place) → Named → ExprTree

  -- expressions from left to right
  pub data ExprTrees : Type 0 where
    no_exprs : ExprTrees
    expr_and : ExprTree → ExprTrees → ExprTrees

abbrev pub spot_of : ExprTree → Spot
spot_of (number s w) = s
spot_of (truth s b) = s
spot_of (null s) = s
spot_of (local s n) = s
spot_of (outcome s) = s
spot_of (unary s o x) = s
spot_of (binary s o x y) = s
spot_of (choose s x y z) = s
spot_of (arrow s x n) = s
spot_of (call s n xs) = s
spot_of (call_text s n t) = s
spot_of (alloc s t) = s
spot_of (acc s x a n) = s

-- the same expression where its first token stands elsewhere, at a parenthesis
abbrev pub begun : Place → Spot → Spot
begun a s = record s { first = a }

abbrev pub from : Place → ExprTree → ExprTree
from a (number s w) = number (begun a s) w
from a (truth s b) = truth (begun a s) b
from a (null s) = null (begun a s)
from a (local s n) = local (begun a s) n
from a (outcome s) = outcome (begun a s)
from a (unary s o x) = unary (begun a s) o x
from a (binary s o x y) = binary (begun a s) o x y
from a (choose s x y z) = choose (begun a s) x y z
from a (arrow s x n) = arrow (begun a s) x n
from a (call s n xs) = call (begun a s) n xs
from a (call_text s n t) = call_text (begun a s) n t
from a (alloc s t) = alloc (begun a s) t
from a (acc s x p n) = acc (begun a s) x p n

-- a formula: whether it begins with `?`, and what stands behind it or alone
pub record FormulaTree : Type 0 where
  pub imprecise : Bool
  pub parts : Option ExprTree

-- an instance of a predicate
pub record InstanceTree : Type 0 where
  pub name : Named
  pub arguments : ExprTrees

pub data NoteForm : Type 0 where
  assert_note : FormulaTree → NoteForm
  fold_note : InstanceTree → NoteForm
  unfold_note : InstanceTree → NoteForm

pub record NoteTree : Type 0 where
  pub place : Place
  pub form : NoteForm

pub record InvariantTree : Type 0 where
  pub place : Place
  pub formula : FormulaTree

-- one annotation with its invariants
pub record InvariantsTree : Type 0 where
  pub place : Place
  pub clauses : List InvariantTree

pub data SimpleTree : Type 0 where
  declare : TypeName → Named → Option (Place × ExprTree) → SimpleTree
  assign : ExprTree → Place → Option UpdateOperator → ExprTree → SimpleTree
  stepped : ExprTree → Place → StepOperator → SimpleTree
  plain : ExprTree → SimpleTree

mutual
  pub data StmtTree : Type 0 where
    simple_stmt : SimpleTree → StmtTree
    block_stmt : Place → StmtTrees → StmtTree
    if_stmt : Place → ExprTree → (yes : StmtTree) → (no : StmtTrees) → StmtTree
    while_stmt : Place → ExprTree → List InvariantsTree → StmtTree → StmtTree
    for_stmt : Place → (first : Option SimpleTree) → ExprTree → (last : Option SimpleTree) → List InvariantsTree → StmtTree → StmtTree
    return_stmt : Place → Option ExprTree → StmtTree
    assert_stmt : Place → ExprTree → StmtTree
    error_stmt : Place → Text → StmtTree
    notes_stmt : Place → List NoteTree → StmtTree

  -- statements one after another; an absent `else` is none of them
  pub data StmtTrees : Type 0 where
    no_stmts : StmtTrees
    stmt_and : StmtTree → StmtTrees → StmtTrees

pub record ClauseTree : Type 0 where
  pub place : Place
  pub side : Side
  pub formula : FormulaTree

-- one annotation with its clauses
pub record ContractTree : Type 0 where
  pub place : Place
  pub clauses : List ClauseTree

pub record PredicateTree : Type 0 where
  pub place : Place
  pub name : Named
  pub params : List Param
  pub body : ExprTree

pub data ItemTree : Type 0 where
  struct_name : Place → Named → ItemTree
  struct_item : Place → Named → List Field → ItemTree
  typedef_item : Place → TypeName → Named → ItemTree
  prototype_item : Head → List ContractTree → ItemTree
  function_item : Head → List ContractTree → StmtTrees → (close : Place) → ItemTree
  predicates_item : Place → List PredicateTree → ItemTree

pub record ProgramTree : Type 0 where
  pub uses : List Library
  pub items : List ItemTree
