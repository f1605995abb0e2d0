-- That the numbers of the code are words, and that each operator of `op=` gives an int. Source: C0 Reference, "Lexical
-- structure" (a number is below 2^32) and "Statements" (assignment by an operator).
use Rattle.std.specs.Prelude.{◌^◌, Bool, true, ◌&&◌, nat_lt, Option, Some, None, IsTrue}
use Rattle.gc0_tree.specs.declared.Shape.TheVariants.{Int}
use Rattle.gc0_tree.specs.declared.ExprOp.{ExprOp}
use Rattle.gc0_tree.specs.Tree.{Tree, number_at, truth_at, null_at, local_at, result_at, unary_at, binary_at, both_at, either_at, choose_at, read_at, call_at, library_at, alloc_at, Trees, no_trees, tree_and, Stmt, declare_at, assign_at, write_at, plain_at, block_at, if_at, while_at, for_at, return_at, assert_at, raise_at, note_at, Stmts, no_stmts, stmt_and, Function}
use Rattle.gc0_tree.specs.Fits.{gives}
use Rattle.lowering_laws.specs.Counts.{same_shape}

abbrev mutual
  pub tree_words : Tree → Bool
  tree_words (number_at at n) = nat_lt n (2 ^ 32)
  tree_words (truth_at at b) = true
  tree_words (null_at at) = true
  tree_words (local_at at i) = true
  tree_words (result_at at) = true
  tree_words (unary_at at o a) = tree_words a
  tree_words (binary_at at o a b) = tree_words a && tree_words b
  tree_words (both_at at a b) = tree_words a && tree_words b
  tree_words (either_at at a b) = tree_words a && tree_words b
  tree_words (choose_at at x a b) = tree_words x && (tree_words a && tree_words b)
  tree_words (read_at at a k field) = tree_words a
  tree_words (call_at at g es) = trees_words es
  tree_words (library_at at l es t) = trees_words es
  tree_words (alloc_at at k) = true

  pub trees_words : Trees → Bool
  trees_words no_trees = true
  trees_words (tree_and e es) = tree_words e && trees_words es

abbrev pub gives_int : Option ExprOp → Bool
gives_int None = true
gives_int (Some o) = same_shape (gives o) Int

abbrev mutual
  pub stmt_words : Stmt → Bool
  stmt_words (declare_at at i es) = trees_words es
  stmt_words (assign_at at i o op_at e) = gives_int o && tree_words e
  stmt_words (write_at at base k field arrow o op_at e) = gives_int o && (tree_words base && tree_words e)
  stmt_words (plain_at at e) = tree_words e
  stmt_words (block_at at ss) = stmts_words ss
  stmt_words (if_at at e a b) = tree_words e && (stmt_words a && stmts_words b)
  stmt_words (while_at at inv e a) = tree_words e && stmt_words a
  stmt_words (for_at at first e last inv a) = stmts_words first && (tree_words e && (stmts_words last && stmt_words a))
  stmt_words (return_at at es) = trees_words es
  stmt_words (assert_at at e) = tree_words e
  stmt_words (raise_at at t) = true
  stmt_words (note_at at k formula) = true

  pub stmts_words : Stmts → Bool
  stmts_words no_stmts = true
  stmts_words (stmt_and s ss) = stmt_words s && stmts_words ss

-- the numbers in the body of a function
abbrev pub WordsFit : Function → Type 0
WordsFit f = IsTrue (stmts_words f.body)
