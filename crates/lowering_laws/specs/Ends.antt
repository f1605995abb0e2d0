-- That no path reaches the end of a function with a result. Source: C0 Reference, "Statements" (return).
use Rattle.std.specs.Prelude.{Bool, true, false, ◌&&◌, ◌||◌, All, IsTrue, is_some}
use Rattle.gc0_tree.specs.Tree.{Stmt, block_at, if_at, for_at, return_at, raise_at, Stmts, no_stmts, stmt_and, Function, Program}

-- whether no path goes on behind a statement: a `return` and an `error` end a path, and a loop may run no time
abbrev mutual
  pub stmt_ends : Stmt → Bool
  stmt_ends (block_at at ss) = stmts_end ss
  stmt_ends (if_at at c a b) = stmt_ends a && stmts_end b
  stmt_ends (for_at at first c last inv a) = stmts_end first
  stmt_ends (return_at at es) = true
  stmt_ends (raise_at at t) = true
  stmt_ends s = false

  pub stmts_end : Stmts → Bool
  stmts_end no_stmts = false
  stmts_end (stmt_and s ss) = stmt_ends s || stmts_end ss

abbrev pub Ends : Function → Type 0
Ends f = IsTrue (is_some f.result) → IsTrue (stmts_end f.body)

-- no path reaches the end of a function with a result
abbrev pub AllEnd : Program → Type 0
AllEnd p = All Ends p.functions
