-- That each operator of `op=` gives an int. Source: C0 Reference, "Statements" (assignment by an operator).
use Rattle.std.specs.Prelude.{Bool, true, ◌&&◌, IsTrue}
use Rattle.gc0_tree.specs.Tree.{Stmt, declare_at, assign_at, write_at, plain_at, block_at, if_at, while_at, for_at, return_at, assert_at, raise_at, note_at, Stmts, no_stmts, stmt_and, Function}
use Rattle.lowering_laws.specs.Words.{gives_int}

abbrev mutual
  pub stmt_gives : Stmt → Bool
  stmt_gives (declare_at at i es) = true
  stmt_gives (assign_at at i o op_at e) = gives_int o
  stmt_gives (write_at at base k field arrow o op_at e) = gives_int o
  stmt_gives (plain_at at e) = true
  stmt_gives (block_at at ss) = stmts_give ss
  stmt_gives (if_at at e a b) = stmt_gives a && stmts_give b
  stmt_gives (while_at at inv e a) = stmt_gives a
  stmt_gives (for_at at first e last inv a) = stmts_give first && (stmts_give last && stmt_gives a)
  stmt_gives (return_at at es) = true
  stmt_gives (assert_at at e) = true
  stmt_gives (raise_at at t) = true
  stmt_gives (note_at at k formula) = true

  pub stmts_give : Stmts → Bool
  stmts_give no_stmts = true
  stmts_give (stmt_and s ss) = stmt_gives s && stmts_give ss

-- the operators in the body of a function
abbrev pub OperatorsGive : Function → Type 0
OperatorsGive f = IsTrue (stmts_give f.body)
