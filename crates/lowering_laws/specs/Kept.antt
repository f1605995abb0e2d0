-- That no parameter which `ensures` names is assigned. Source: C0 Reference, "Annotations".
use Rattle.std.specs.Prelude.{ℕ, Bool, false, not, ◌||◌, eqb, IsTrue}
use Rattle.std.specs.List.{list_all}
use Rattle.gc0_tree.specs.Tree.{Stmt, declare_at, assign_at, write_at, plain_at, block_at, if_at, while_at, for_at, return_at, assert_at, raise_at, note_at, Stmts, no_stmts, stmt_and, Function}
use Rattle.core_meaning.specs.Assigned.{parts_names}

-- whether statements set a local of this number
abbrev mutual
  pub stmt_sets : ℕ → Stmt → Bool
  stmt_sets i (declare_at at j es) = eqb j i
  stmt_sets i (assign_at at j o op_at e) = eqb j i
  stmt_sets i (write_at at base k field arrow o op_at e) = false
  stmt_sets i (plain_at at e) = false
  stmt_sets i (block_at at ss) = stmts_set i ss
  stmt_sets i (if_at at e a b) = stmt_sets i a || stmts_set i b
  stmt_sets i (while_at at inv e a) = stmt_sets i a
  stmt_sets i (for_at at first e last inv a) = stmts_set i first || (stmts_set i last || stmt_sets i a)
  stmt_sets i (return_at at es) = false
  stmt_sets i (assert_at at e) = false
  stmt_sets i (raise_at at t) = false
  stmt_sets i (note_at at k formula) = false

  pub stmts_set : ℕ → Stmts → Bool
  stmts_set i no_stmts = false
  stmts_set i (stmt_and s ss) = stmt_sets i s || stmts_set i ss

-- no parameter that `ensures` names is set in the body
abbrev pub KeepsParams : Function → Type 0
KeepsParams f = IsTrue (list_all (λ i. not (stmts_set i f.body)) (parts_names f.after.parts))
