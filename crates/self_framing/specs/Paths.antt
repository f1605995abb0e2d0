-- How many ways lead through a function: each decision of its code doubles them, and each choice of a formula wherever the
-- formula is assumed or shown. This project's own count, with `&&`, `||` and `?:` as decisions.
use Rattle.std.specs.Prelude.{ℕ, ◌+◌, ◌*◌, Option, Some, None, slice_get}
use Rattle.gc0_tree.specs.Tree.{Tree, number_at, truth_at, null_at, local_at, result_at, unary_at, binary_at, both_at, either_at, choose_at, read_at, call_at, library_at, alloc_at, Trees, no_trees, tree_and, Conjuncts, no_parts, value_part, acc_part, instance_part, choice_part, NoteKind, assert_note, fold_note, unfold_note, Stmt, declare_at, assign_at, write_at, plain_at, block_at, if_at, while_at, for_at, return_at, assert_at, raise_at, note_at, Stmts, no_stmts, stmt_and, Predicate, Function, Program}

-- the ways through conjuncts: each choice goes one way or the other
abbrev pub parts_paths : Conjuncts → ℕ
parts_paths no_parts = 1
parts_paths (value_part e rest) = parts_paths rest
parts_paths (acc_part e f rest) = parts_paths rest
parts_paths (instance_part at p es rest) = parts_paths rest
parts_paths (choice_part at c these those rest) = (parts_paths these + parts_paths those) * parts_paths rest

-- those of a callee's contract: its `requires` is shown, its `ensures` assumed
abbrev pub contract_paths : Option Function → ℕ
contract_paths None = 1
contract_paths (Some f) = parts_paths f.before.parts * parts_paths f.after.parts

-- the ways through an expression
abbrev mutual
  pub tree_paths : Program → Tree → ℕ
  tree_paths p (number_at at n) = 1
  tree_paths p (truth_at at b) = 1
  tree_paths p (null_at at) = 1
  tree_paths p (local_at at i) = 1
  tree_paths p (result_at at) = 1
  tree_paths p (unary_at at o a) = tree_paths p a
  tree_paths p (binary_at at o a b) = tree_paths p a * tree_paths p b
  tree_paths p (both_at at a b) = tree_paths p a * (tree_paths p b + 1)
  tree_paths p (either_at at a b) = tree_paths p a * (tree_paths p b + 1)
  tree_paths p (choose_at at a b c) = tree_paths p a * (tree_paths p b + tree_paths p c)
  tree_paths p (read_at at base k f) = tree_paths p base
  tree_paths p (call_at at g es) = trees_paths p es * contract_paths (slice_get p.functions g)
  tree_paths p (library_at at l es t) = trees_paths p es
  tree_paths p (alloc_at at k) = 1

  pub trees_paths : Program → Trees → ℕ
  trees_paths p no_trees = 1
  trees_paths p (tree_and e es) = tree_paths p e * trees_paths p es

-- the ways through statements: those that go on behind them, and those that end the function
pub record Ways : Type 0 where
  pub on : ℕ
  pub ended : ℕ

abbrev pub straight : ℕ → Ways
straight n = record { on = n; ended = 0 }

-- one statement after another
abbrev pub followed : Ways → Ways → Ways
followed a b = record { on = a.on * b.on; ended = a.ended + a.on * b.ended }

-- a test with two branches
abbrev pub branched : ℕ → Ways → Ways → Ways
branched w a b = record { on = w * (a.on + b.on); ended = w * (a.ended + b.ended) }

-- a loop: its invariant is shown at its entry and assumed at its head; a turn that goes on shows it again and ends there
abbrev pub looped : (invariant test : ℕ) → Ways → Ways
looped inv test body =
    record { on = inv * inv * test; ended = inv * inv * test * (body.on * inv + body.ended) }

abbrev pub predicate_paths : Option Predicate → ℕ
predicate_paths None = 1
predicate_paths (Some d) = parts_paths d.body

-- a fold or an unfold goes through the body of its predicate
abbrev pub unfolded_paths : Program → Conjuncts → ℕ
unfolded_paths p (instance_part at q es rest) = predicate_paths (slice_get p.predicates q)
unfolded_paths p cs = 1

abbrev pub note_paths : Program → NoteKind → Conjuncts → ℕ
note_paths p assert_note cs = parts_paths cs
note_paths p fold_note cs = unfolded_paths p cs
note_paths p unfold_note cs = unfolded_paths p cs

-- the ways through a statement of a function whose `ensures` has so many
abbrev mutual
  pub stmt_ways : Program → (ensured : ℕ) → Stmt → Ways
  stmt_ways p n (declare_at at i es) = straight (trees_paths p es)
  stmt_ways p n (assign_at at i o op_at e) = straight (tree_paths p e)
  stmt_ways p n (write_at at base k f arrow o op_at e) = straight (tree_paths p base * tree_paths p e)
  stmt_ways p n (plain_at at e) = straight (tree_paths p e)
  stmt_ways p n (block_at at ss) = stmts_ways p n ss
  stmt_ways p n (if_at at c a b) = branched (tree_paths p c) (stmt_ways p n a) (stmts_ways p n b)
  stmt_ways p n (while_at at inv c body) = looped (parts_paths inv.parts) (tree_paths p c) (stmt_ways p n body)
  stmt_ways p n (for_at at first c last inv body) =
      followed (stmts_ways p n first) (looped (parts_paths inv.parts) (tree_paths p c) (followed (stmt_ways p n body) (stmts_ways p n last)))
  stmt_ways p n (return_at at es) = record { on = 0; ended = trees_paths p es * n }
  stmt_ways p n (assert_at at e) = straight (tree_paths p e)
  stmt_ways p n (raise_at at t) = record { on = 0; ended = 1 }
  stmt_ways p n (note_at at k f) = straight (note_paths p k f.parts)

  pub stmts_ways : Program → (ensured : ℕ) → Stmts → Ways
  stmts_ways p n no_stmts = straight 1
  stmts_ways p n (stmt_and s ss) = followed (stmt_ways p n s) (stmts_ways p n ss)

-- the ways through a function; one that reaches the end of its body shows `ensures` there
abbrev pub closed : Function → Ways → ℕ
closed f w = parts_paths f.before.parts * (w.ended + w.on * parts_paths f.after.parts)

abbrev pub function_paths : Program → Function → ℕ
function_paths p f = closed f (stmts_ways p (parts_paths f.after.parts) f.body)

abbrev pub paths_of : Program → Option Function → ℕ
paths_of p None = 0
paths_of p (Some f) = function_paths p f
