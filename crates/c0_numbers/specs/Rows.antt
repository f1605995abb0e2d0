-- Statements that were made, before others.
use Rattle.std.specs.Prelude.{List, [], ◌∷◌}
use Rattle.gc0_tree.specs.declared.Stmt.{Stmt}
use Rattle.gc0_tree.specs.Tree.{Stmts, stmt_and}
use Rattle.gc0_tree.specs.Views.{stmt_view}

abbrev pub stmts_before : List Stmt → Stmts → Stmts
stmts_before [] rest = rest
stmts_before (s ∷ ss) rest = stmt_and (stmt_view s) (stmts_before ss rest)
