-- Which locals formulas name, and which statements set.
use Rattle.std.specs.Prelude.{ℕ, Bool, false, ◌||◌, eqb, List, [], ◌∷◌, ◌++◌, Option, Some, None}
use Rattle.gc0_tree.specs.Tree.{Tree, number_at, truth_at, null_at, local_at, result_at, unary_at, binary_at, both_at, either_at, choose_at, read_at, call_at, library_at, alloc_at, Trees, no_trees, tree_and, Conjuncts, no_parts, value_part, acc_part, instance_part, choice_part}
use Rattle.core_tree.specs.CoreTree.{CoreStmt, do_step, do_set, do_unary, do_binary, do_load, do_store, do_new, do_call, do_library, do_if, do_loop, do_return, do_assert, do_raise, do_note, Code, no_code, code_and}

-- the locals that an expression names
abbrev mutual
  pub tree_names : Tree → List ℕ
  tree_names (number_at at n) = []
  tree_names (truth_at at b) = []
  tree_names (null_at at) = []
  tree_names (local_at at i) = i ∷ []
  tree_names (result_at at) = []
  tree_names (unary_at at o a) = tree_names a
  tree_names (binary_at at o a b) = tree_names a ++ tree_names b
  tree_names (both_at at a b) = tree_names a ++ tree_names b
  tree_names (either_at at a b) = tree_names a ++ tree_names b
  tree_names (choose_at at a b c) = tree_names a ++ (tree_names b ++ tree_names c)
  tree_names (read_at at base k f) = tree_names base
  tree_names (call_at at g es) = trees_names es
  tree_names (library_at at l es t) = trees_names es
  tree_names (alloc_at at k) = []

  pub trees_names : Trees → List ℕ
  trees_names no_trees = []
  trees_names (tree_and e es) = tree_names e ++ trees_names es

-- the locals that conjuncts name
abbrev pub parts_names : Conjuncts → List ℕ
parts_names no_parts = []
parts_names (value_part e rest) = tree_names e ++ parts_names rest
parts_names (acc_part e f rest) = tree_names e ++ parts_names rest
parts_names (instance_part at q es rest) = trees_names es ++ parts_names rest
parts_names (choice_part at c these those rest) = tree_names c ++ (parts_names these ++ (parts_names those ++ parts_names rest))

abbrev pub is_target : ℕ → Option ℕ → Bool
is_target i None = false
is_target i (Some to) = eqb to i

-- whether statements set a local
abbrev mutual
  pub stmt_sets : ℕ → CoreStmt → Bool
  stmt_sets i do_step = false
  stmt_sets i (do_set to a) = eqb to i
  stmt_sets i (do_unary to o a) = eqb to i
  stmt_sets i (do_binary to o a b site) = eqb to i
  stmt_sets i (do_load to base k field site) = eqb to i
  stmt_sets i (do_store base k field value site) = false
  stmt_sets i (do_new to k) = eqb to i
  stmt_sets i (do_call to g args site) = is_target i to
  stmt_sets i (do_library to l a t site) = is_target i to
  stmt_sets i (do_if d a these those) = code_sets i these || code_sets i those
  stmt_sets i (do_loop entry again inv d test a body) = code_sets i test || code_sets i body
  stmt_sets i (do_return a site) = false
  stmt_sets i (do_assert a site) = false
  stmt_sets i (do_raise t site) = false
  stmt_sets i (do_note k formula site) = false

  pub code_sets : ℕ → Code → Bool
  code_sets i no_code = false
  code_sets i (code_and s rest) = stmt_sets i s || code_sets i rest
