-- Which formulas are imprecise, and which functions are plain. Source: Gradual C0; an absent clause is `?`, this project's own.
use Rattle.std.specs.Prelude.{◌≡◌, ℕ, Bool, false, ◌||◌, eqb, IsTrue, IsFalse, Some, slice_get}
use Rattle.gc0_tree.specs.Tree.{Tree, number_at, truth_at, null_at, local_at, result_at, unary_at, binary_at, both_at, either_at, choose_at, read_at, call_at, library_at, alloc_at, Trees, no_trees, tree_and, Formula, NoteKind, assert_note, fold_note, unfold_note, Stmt, declare_at, assign_at, write_at, plain_at, block_at, if_at, while_at, for_at, return_at, assert_at, raise_at, note_at, Stmts, no_stmts, stmt_and, Function, Program}

-- a formula that has a `?`
abbrev pub imprecise : Formula → Bool
imprecise f = f.imprecise

-- only an `assert` among the notes has a formula of its own
abbrev pub note_open : NoteKind → Formula → Bool
note_open assert_note f = imprecise f
note_open fold_note f = false
note_open unfold_note f = false

-- an invariant or an assert with a `?` in statements
abbrev mutual
  pub has_open : Stmt → Bool
  has_open (declare_at at i es) = false
  has_open (assign_at at i o op_at e) = false
  has_open (write_at at base k f arrow o op_at e) = false
  has_open (plain_at at e) = false
  has_open (block_at at ss) = any_open ss
  has_open (if_at at c a b) = has_open a || any_open b
  has_open (while_at at inv c body) = imprecise inv || has_open body
  has_open (for_at at first c last inv body) = imprecise inv || (any_open first || (any_open last || has_open body))
  has_open (return_at at es) = false
  has_open (assert_at at e) = false
  has_open (raise_at at t) = false
  has_open (note_at at k f) = note_open k f

  pub any_open : Stmts → Bool
  any_open no_stmts = false
  any_open (stmt_and s ss) = has_open s || any_open ss

-- a `?` in the clauses, invariants or asserts of a function
abbrev pub is_open : Function → Bool
is_open f = imprecise f.before || (imprecise f.after || any_open f.body)

-- a call of a function in an expression
abbrev mutual
  pub tree_calls : ℕ → Tree → Bool
  tree_calls g (number_at at n) = false
  tree_calls g (truth_at at b) = false
  tree_calls g (null_at at) = false
  tree_calls g (local_at at i) = false
  tree_calls g (result_at at) = false
  tree_calls g (unary_at at o a) = tree_calls g a
  tree_calls g (binary_at at o a b) = tree_calls g a || tree_calls g b
  tree_calls g (both_at at a b) = tree_calls g a || tree_calls g b
  tree_calls g (either_at at a b) = tree_calls g a || tree_calls g b
  tree_calls g (choose_at at a b c) = tree_calls g a || (tree_calls g b || tree_calls g c)
  tree_calls g (read_at at base k f) = tree_calls g base
  tree_calls g (call_at at h es) = eqb h g || trees_call g es
  tree_calls g (library_at at l es t) = trees_call g es
  tree_calls g (alloc_at at k) = false

  pub trees_call : ℕ → Trees → Bool
  trees_call g no_trees = false
  trees_call g (tree_and e es) = tree_calls g e || trees_call g es

-- a call of a function in statements
abbrev mutual
  pub stmt_calls : ℕ → Stmt → Bool
  stmt_calls g (declare_at at i es) = trees_call g es
  stmt_calls g (assign_at at i o op_at e) = tree_calls g e
  stmt_calls g (write_at at base k f arrow o op_at e) = tree_calls g base || tree_calls g e
  stmt_calls g (plain_at at e) = tree_calls g e
  stmt_calls g (block_at at ss) = stmts_call g ss
  stmt_calls g (if_at at c a b) = tree_calls g c || (stmt_calls g a || stmts_call g b)
  stmt_calls g (while_at at inv c body) = tree_calls g c || stmt_calls g body
  stmt_calls g (for_at at first c last inv body) = stmts_call g first || (tree_calls g c || (stmts_call g last || stmt_calls g body))
  stmt_calls g (return_at at es) = trees_call g es
  stmt_calls g (assert_at at e) = tree_calls g e
  stmt_calls g (raise_at at t) = false
  stmt_calls g (note_at at k f) = false

  pub stmts_call : ℕ → Stmts → Bool
  stmts_call g no_stmts = false
  stmts_call g (stmt_and s ss) = stmt_calls g s || stmts_call g ss

-- one function reaches another by calls
pub data Reaches (p : Program) : ℕ → ℕ → Type 0 where
  itself : (f : ℕ) → Reaches p f f
  through : (f g h : ℕ) (fn : Function) → slice_get p.functions f ≡ Some fn → IsTrue (stmts_call g fn.body) → Reaches p g h → Reaches p f h

-- no `?` stands in a function, nor in one that it reaches
abbrev pub IsPlain : Program → ℕ → Type 0
IsPlain p f = (g : ℕ) (fn : Function) → Reaches p f g → slice_get p.functions g ≡ Some fn → IsFalse (is_open fn)
