-- What is written of statements.
use Rattle.std.specs.Prelude.{◌≡◌, ℕ, ◌+◌, List, ◌++◌, length, Some, slice_get}
use Rattle.gc0_tree.specs.Tree.{Stmt, Stmts}
use Rattle.core_tree.specs.declared.DecisionAt.{DecisionAt}
use Rattle.core_tree.specs.CoreTree.{Code}
use Rattle.core_tree.specs.CoreViews.{code_view}
use Rattle.core_tables.specs.declared.PlacedSite.{PlacedSite}
use Rattle.lowering_laws.specs.Trees.{join}
use Rattle.lowering_laws.specs.Statements.{stmt_next, stmts_next, stmt_code, stmts_code}
use Rattle.lowering_laws.specs.Tables.{stmt_decisions, stmts_decisions, stmt_placed, stmts_placed}
use Rattle.core_expressions.specs.declared.within.Within.{Within}
use Rattle.core_expressions.specs.declared.written.Written.{Written}
use Rattle.core_expressions.specs.Writing.{program_of, function_of, places_of, target_of}

-- the function is the one of this number
abbrev pub IsNumbered : Within → Type 0
IsNumbered w = slice_get (program_of w).functions w.number ≡ Some (function_of w)

-- this code, these decisions and these sites came, and so many decisions there are then
pub record AreWritten (before after : Written) (n : ℕ) (more : Code) (ds : List DecisionAt) (ps : List PlacedSite) : Type 0 where
  pub next : length after.decisions ≡ n
  pub code : code_view after.code ≡ join (code_view before.code) more
  pub decisions : after.decisions ≡ before.decisions ++ ds
  pub placed : after.placed ≡ before.placed ++ ps

-- what a statement of the function writes
abbrev pub IsStmt : Within → (before after : Written) → Stmt → Type 0
IsStmt w before after s =
    AreWritten before after (stmt_next (program_of w) (function_of w) (length before.decisions) s)
    (stmt_code (program_of w) (function_of w) (target_of w) (length before.decisions) s)
    (stmt_decisions (program_of w) (function_of w) (places_of w) s)
    (stmt_placed (places_of w) s)

-- the same of statements
abbrev pub AreStmts : Within → (before after : Written) → Stmts → Type 0
AreStmts w before after ss =
    AreWritten before after (stmts_next (program_of w) (function_of w) (length before.decisions) ss)
    (stmts_code (program_of w) (function_of w) (target_of w) (length before.decisions) ss)
    (stmts_decisions (program_of w) (function_of w) (places_of w) ss)
    (stmts_placed (places_of w) ss)
