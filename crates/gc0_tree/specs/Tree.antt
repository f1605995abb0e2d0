-- The resolved tree as plain data, without where it lies in memory. Definitions over programs are clauses on it.
-- The forms are those of the C0 Reference, with formulas, `acc`, predicates, `fold` and `unfold` of Gradual C0.
use Rattle.std.specs.Prelude.{ℕ, Bool, List, Option}
use Rattle.gc0_base.specs.declared.place.Place.{Place}
use Rattle.gc0_tree.specs.declared.Shape.{Shape}
use Rattle.gc0_tree.specs.declared.UnaryOp.{UnaryOp}
use Rattle.gc0_tree.specs.declared.ExprOp.{ExprOp}
use Rattle.gc0_tree.specs.declared.LibraryCall.{LibraryCall}

mutual
  -- an expression
  pub data Tree : Type 0 where
    number_at : (at : Place) → ℕ → Tree
    truth_at : (at : Place) → Bool → Tree
    null_at : (at : Place) → Tree
    local_at : (at : Place) → (local : ℕ) → Tree
    result_at : (at : Place) → Tree
    unary_at : (at : Place) → UnaryOp → Tree → Tree
    binary_at : (at : Place) → ExprOp → Tree → Tree → Tree
    both_at : (at : Place) → Tree → Tree → Tree
    either_at : (at : Place) → Tree → Tree → Tree
    choose_at : (at : Place) → Tree → Tree → Tree → Tree
    read_at : (at : Place) → (base : Tree) → (of_struct field : ℕ) → Tree
    call_at : (at : Place) → (function : ℕ) → Trees → Tree
    library_at : (at : Place) → LibraryCall → Trees → (text : Option ℕ) → Tree
    alloc_at : (at : Place) → (of_struct : ℕ) → Tree

  -- expressions from left to right
  pub data Trees : Type 0 where
    no_trees : Trees
    tree_and : Tree → Trees → Trees

-- conjuncts from left to right
pub data Conjuncts : Type 0 where
  no_parts : Conjuncts
  value_part : Tree → Conjuncts → Conjuncts
  acc_part : (base : Tree) → (field : ℕ) → Conjuncts → Conjuncts
  instance_part : (at : Place) → (predicate : ℕ) → Trees → Conjuncts → Conjuncts
  choice_part : (at : Place) → Tree → (these those : Conjuncts) → Conjuncts → Conjuncts

pub record Formula : Type 0 where
  pub imprecise : Bool
  pub parts : Conjuncts

-- what an annotation among the statements states
pub data NoteKind : Type 0 where
  assert_note fold_note unfold_note : NoteKind

mutual
  pub data Stmt : Type 0 where
    declare_at : (at : Place) (local : ℕ) → Trees → Stmt
    assign_at : (at : Place) (local : ℕ) → Option ExprOp → (op_at : Place) → Tree → Stmt
    write_at : (at : Place) → (base : Tree) → (of_struct field : ℕ) → (arrow : Place) → Option ExprOp → (op_at : Place) → Tree → Stmt
    plain_at : (at : Place) → Tree → Stmt
    block_at : (at : Place) → Stmts → Stmt
    if_at : (at : Place) → Tree → (yes : Stmt) → (no : Stmts) → Stmt
    while_at : (at : Place) → (invariant : Formula) → Tree → Stmt → Stmt
    for_at : (at : Place) → (first : Stmts) → Tree → (last : Stmts) → (invariant : Formula) → Stmt → Stmt
    return_at : (at : Place) → Trees → Stmt
    assert_at : (at : Place) → Tree → Stmt
    raise_at : (at : Place) → (text : ℕ) → Stmt
    note_at : (at : Place) → NoteKind → Formula → Stmt

  -- statements one after another; a part that is absent is none of them
  pub data Stmts : Type 0 where
    no_stmts : Stmts
    stmt_and : Stmt → Stmts → Stmts

pub record Struct : Type 0 where
  pub name : List ℕ
  pub fields : List (List ℕ × Shape)

pub record Predicate : Type 0 where
  pub name : List ℕ
  pub params : List (List ℕ × Shape)
  pub body : Conjuncts

pub record Function : Type 0 where
  pub name : List ℕ
  pub place : Place
  pub close : Place
  -- how many of the locals are parameters
  pub params : ℕ
  pub locals : List (List ℕ × Shape)
  pub result : Option Shape
  pub before : Formula
  pub after : Formula
  pub body : Stmts

pub record Program : Type 0 where
  pub structs : List Struct
  pub predicates : List Predicate
  pub functions : List Function
  pub main : ℕ
  pub texts : List (List ℕ)
