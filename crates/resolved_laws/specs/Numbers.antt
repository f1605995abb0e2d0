-- That the numbers of statements are words, whatever their operators give.
-- Source: C0 Reference, "Lexical structure" (a number is below 2^32).
use Rattle.std.specs.Prelude.{ℕ, ◌^◌, Bool, true, ◌&&◌, nat_lt, IsTrue}
use Rattle.gc0_tree.specs.Tree.{Stmt, declare_at, assign_at, write_at, plain_at, block_at, if_at, while_at, for_at, return_at, assert_at, raise_at, note_at, Stmts, no_stmts, stmt_and, Function}
use Rattle.lowering_laws.specs.Words.{tree_words, trees_words}

abbrev pub is_word : ℕ → Bool
is_word n = nat_lt n (2 ^ 32)

abbrev mutual
  pub stmt_numbers : Stmt → Bool
  stmt_numbers (declare_at at i es) = trees_words es
  stmt_numbers (assign_at at i o op_at e) = tree_words e
  stmt_numbers (write_at at base k field arrow o op_at e) = tree_words base && tree_words e
  stmt_numbers (plain_at at e) = tree_words e
  stmt_numbers (block_at at ss) = stmts_numbers ss
  stmt_numbers (if_at at e a b) = tree_words e && (stmt_numbers a && stmts_numbers b)
  stmt_numbers (while_at at inv e a) = tree_words e && stmt_numbers a
  stmt_numbers (for_at at first e last inv a) = stmts_numbers first && (tree_words e && (stmts_numbers last && stmt_numbers a))
  stmt_numbers (return_at at es) = trees_words es
  stmt_numbers (assert_at at e) = tree_words e
  stmt_numbers (raise_at at t) = true
  stmt_numbers (note_at at k formula) = true

  pub stmts_numbers : Stmts → Bool
  stmts_numbers no_stmts = true
  stmts_numbers (stmt_and s ss) = stmt_numbers s && stmts_numbers ss

-- the numbers in the body of a function
abbrev pub NumbersFit : Function → Type 0
NumbersFit f = IsTrue (stmts_numbers f.body)
