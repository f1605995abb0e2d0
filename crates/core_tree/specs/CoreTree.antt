-- The core of a program as plain data, without where it lies in memory. Definitions over cores are clauses on it.
-- The forms are this project's own.
use Rattle.std.specs.Prelude.{ℕ, Bool, List, Option}
use Rattle.gc0_base.specs.declared.place.Place.{Place}
use Rattle.gc0_base.specs.declared.site.Site.{Site}
use Rattle.gc0_base.specs.declared.site.Decision.{Decision}
use Rattle.gc0_tree.specs.declared.Shape.{Shape}
use Rattle.gc0_tree.specs.declared.UnaryOp.{UnaryOp}
use Rattle.gc0_tree.specs.declared.LibraryCall.{LibraryCall}
use Rattle.gc0_tree.specs.Tree.{Formula, NoteKind, Struct, Predicate}
use Rattle.core_tree.specs.declared.BinaryOp.{BinaryOp}
use Rattle.core_tree.specs.declared.Simple.{Simple}
use Rattle.core_tree.specs.declared.DecisionAt.{DecisionAt}
use Rattle.core_tree.specs.declared.SiteTable.{SiteTable}

mutual
  pub data CoreStmt : Type 0 where
    do_step : CoreStmt
    do_set : (to : ℕ) → Simple → CoreStmt
    do_unary : (to : ℕ) → UnaryOp → Simple → CoreStmt
    do_binary : (to : ℕ) → BinaryOp → Simple → Simple → Option Site → CoreStmt
    do_load : (to : ℕ) → (base : Simple) → (of_struct field : ℕ) → Site → CoreStmt
    do_store : (base : Simple) → (of_struct field : ℕ) → (value : Simple) → Site → CoreStmt
    do_new : (to of_struct : ℕ) → CoreStmt
    do_call : (to : Option ℕ) → (function : ℕ) → (arguments : List ℕ) → Site → CoreStmt
    do_library : (to : Option ℕ) → LibraryCall → (argument : Option Simple) → (text : Option ℕ) → Option Site → CoreStmt
    do_if : Decision → (condition : Simple) → (these those : Code) → CoreStmt
    do_loop : (entry again : Site) → (invariant : Formula) → Decision → (test : Code) → (condition : Simple) → (body : Code) → CoreStmt
    do_return : Option Simple → Site → CoreStmt
    do_assert : Simple → Site → CoreStmt
    do_raise : (text : ℕ) → Site → CoreStmt
    do_note : NoteKind → Formula → Site → CoreStmt

  -- statements one after another
  pub data Code : Type 0 where
    no_code : Code
    code_and : CoreStmt → Code → Code

pub record CoreFunction : Type 0 where
  pub name : List ℕ
  pub place : Place
  -- how many of the locals are parameters
  pub params : ℕ
  pub locals : List (List ℕ × Shape)
  -- the numbers of the temporaries follow those of the locals
  pub temps : List Shape
  pub result : Option Shape
  pub before : Formula
  pub after : Formula
  pub plain : Bool
  pub paths : ℕ
  pub decisions : List DecisionAt
  pub sites : SiteTable
  pub body : Code

pub record Core : Type 0 where
  pub structs : List Struct
  pub predicates : List Predicate
  pub functions : List CoreFunction
  pub main : ℕ
  pub texts : List (List ℕ)
