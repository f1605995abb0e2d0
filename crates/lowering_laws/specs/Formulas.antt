-- That formulas have no calls of functions, and that each `fold` and `unfold` states one instance.
-- Source: the formulas of Gradual C0; both are part of the grammar, and no rule on shapes says them.
use Rattle.std.specs.Prelude.{Bool, true, false, ◌&&◌, IsTrue, All}
use Rattle.gc0_tree.specs.Tree.{Tree, number_at, truth_at, null_at, local_at, result_at, unary_at, binary_at, both_at, either_at, choose_at, read_at, call_at, library_at, alloc_at, Trees, no_trees, tree_and, Conjuncts, no_parts, value_part, acc_part, instance_part, choice_part, Stmt, declare_at, assign_at, write_at, plain_at, block_at, if_at, while_at, for_at, return_at, assert_at, raise_at, note_at, Stmts, no_stmts, stmt_and, Predicate, Function, Program}
use Rattle.core_meaning.specs.CoreFits.{note_fits}

-- no call of a function in an expression
abbrev mutual
  pub tree_without_calls : Tree → Bool
  tree_without_calls (number_at at n) = true
  tree_without_calls (truth_at at b) = true
  tree_without_calls (null_at at) = true
  tree_without_calls (local_at at i) = true
  tree_without_calls (result_at at) = true
  tree_without_calls (unary_at at o a) = tree_without_calls a
  tree_without_calls (binary_at at o a b) = tree_without_calls a && tree_without_calls b
  tree_without_calls (both_at at a b) = tree_without_calls a && tree_without_calls b
  tree_without_calls (either_at at a b) = tree_without_calls a && tree_without_calls b
  tree_without_calls (choose_at at x a b) = tree_without_calls x && (tree_without_calls a && tree_without_calls b)
  tree_without_calls (read_at at a k field) = tree_without_calls a
  tree_without_calls (call_at at g es) = false
  tree_without_calls (library_at at l es t) = trees_without_calls es
  tree_without_calls (alloc_at at k) = true

  pub trees_without_calls : Trees → Bool
  trees_without_calls no_trees = true
  trees_without_calls (tree_and e es) = tree_without_calls e && trees_without_calls es

-- the same of conjuncts
abbrev pub parts_without_calls : Conjuncts → Bool
parts_without_calls no_parts = true
parts_without_calls (value_part e rest) = tree_without_calls e && parts_without_calls rest
parts_without_calls (acc_part e field rest) = tree_without_calls e && parts_without_calls rest
parts_without_calls (instance_part at q es rest) = trees_without_calls es && parts_without_calls rest
parts_without_calls (choice_part at e these those rest) =
    tree_without_calls e && (parts_without_calls these && (parts_without_calls those && parts_without_calls rest))

-- the formulas among statements
abbrev mutual
  pub stmt_formulas : Stmt → Bool
  stmt_formulas (declare_at at i es) = true
  stmt_formulas (assign_at at i o op_at e) = true
  stmt_formulas (write_at at base k field arrow o op_at e) = true
  stmt_formulas (plain_at at e) = true
  stmt_formulas (block_at at ss) = stmts_formulas ss
  stmt_formulas (if_at at e a b) = stmt_formulas a && stmts_formulas b
  stmt_formulas (while_at at inv e a) = parts_without_calls inv.parts && stmt_formulas a
  stmt_formulas (for_at at first e last inv a) =
      stmts_formulas first && (stmts_formulas last && (parts_without_calls inv.parts && stmt_formulas a))
  stmt_formulas (return_at at es) = true
  stmt_formulas (assert_at at e) = true
  stmt_formulas (raise_at at t) = true
  stmt_formulas (note_at at k formula) = parts_without_calls formula.parts && note_fits k formula

  pub stmts_formulas : Stmts → Bool
  stmts_formulas no_stmts = true
  stmts_formulas (stmt_and s ss) = stmt_formulas s && stmts_formulas ss

-- the formulas of a function
pub record FunctionFormulas (f : Function) : Type 0 where
  pub before : IsTrue (parts_without_calls f.before.parts)
  pub after : IsTrue (parts_without_calls f.after.parts)
  pub body : IsTrue (stmts_formulas f.body)

abbrev pub PredicateFormula : Predicate → Type 0
PredicateFormula d = IsTrue (parts_without_calls d.body)

-- the formulas of a program
pub record FormulasFit (p : Program) : Type 0 where
  pub predicates : All PredicateFormula p.predicates
  pub functions : All FunctionFormulas p.functions
