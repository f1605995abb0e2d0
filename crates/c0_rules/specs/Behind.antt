-- The scope behind a statement.
-- Source: C0 Reference, "Scope" and "Initialization".
use Rattle.std.specs.Prelude.{Option, Some, None, is_some, false}
use Rattle.parsed_tree.specs.Tree.{ExprTree, number, truth, null, local, outcome, unary, binary, choose, arrow, call, call_text, alloc, acc, SimpleTree, declare, assign, stepped, plain, StmtTree, simple_stmt, block_stmt, if_stmt, while_stmt, for_stmt, return_stmt, assert_stmt, error_stmt, notes_stmt, StmtTrees, no_stmts, stmt_and}
use Rattle.c0_names.specs.declared.tables.Tables.{Tables}
use Rattle.c0_names.specs.Tables.{value_type}
use Rattle.c0_value_rules.specs.declared.scope.Scope.{Scope}
use Rattle.c0_value_rules.specs.Scopes.{scope_with, scope_assigned, ended, closed, joined}

abbrev pub target_behind : Scope → ExprTree → Scope
target_behind scope (number s w) = scope
target_behind scope (truth s b) = scope
target_behind scope (null s) = scope
target_behind scope (local s n) = scope_assigned scope n
target_behind scope (outcome s) = scope
target_behind scope (unary s o x) = scope
target_behind scope (binary s o x y) = scope
target_behind scope (choose s x y z) = scope
target_behind scope (arrow s x n) = scope
target_behind scope (call s n xs) = scope
target_behind scope (call_text s n t) = scope
target_behind scope (alloc s t) = scope
target_behind scope (acc s x p n) = scope

-- a local is in scope behind its declaration
abbrev pub simple_behind : Tables → Scope → SimpleTree → Scope
simple_behind t scope (declare ty n v) = scope_with scope n.name (record { holds = value_type t ty; fixed = false }) (is_some v)
simple_behind t scope (assign x q o y) = target_behind scope x
simple_behind t scope (stepped x q o) = target_behind scope x
simple_behind t scope (plain x) = scope

abbrev pub part_behind : Tables → Scope → Option SimpleTree → Scope
part_behind t scope None = scope
part_behind t scope (Some s) = simple_behind t scope s

abbrev mutual
  -- a statement's own locals end with it, but for a declaration's
  pub stmt_behind : Tables → Scope → StmtTree → Scope
  stmt_behind t scope (simple_stmt s) = simple_behind t scope s
  stmt_behind t scope (block_stmt p ss) = closed scope (stmts_behind t scope ss)
  stmt_behind t scope (if_stmt p e s os) = record scope { flow = joined (closed scope (stmt_behind t scope s)).flow (closed scope (stmts_behind t scope os)).flow }
  -- a loop may run no time
  stmt_behind t scope (while_stmt p e is s) = scope
  stmt_behind t scope (for_stmt p a e b is s) = closed scope (part_behind t scope a)
  stmt_behind t scope (return_stmt p e) = ended scope
  stmt_behind t scope (assert_stmt p e) = scope
  stmt_behind t scope (error_stmt p x) = ended scope
  stmt_behind t scope (notes_stmt p ns) = scope

  pub stmts_behind : Tables → Scope → StmtTrees → Scope
  stmts_behind t scope no_stmts = scope
  stmts_behind t scope (stmt_and s ss) = stmts_behind t (stmt_behind t scope s) ss
