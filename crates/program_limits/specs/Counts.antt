-- How large the parts of a program may be, and the first limit that one passes. The limits and their order are this
-- project's own.
use Rattle.std.specs.Prelude.{ℕ, suc, ◌+◌, nat_lt, List, [], ◌∷◌, length, map, max, Option, Some, None, if◌then◌else◌}
use Rattle.std.specs.Option.{option_map}
use Rattle.gc0_base.specs.declared.limits.TheConstants.Limits as limits
use Rattle.gc0_tree.specs.Tree.{Tree, number_at, truth_at, null_at, local_at, result_at, unary_at, binary_at, both_at, either_at, choose_at, read_at, call_at, library_at, alloc_at, Trees, no_trees, tree_and, Stmt, declare_at, assign_at, write_at, plain_at, block_at, if_at, while_at, for_at, return_at, assert_at, raise_at, note_at, Stmts, no_stmts, stmt_and, Program}
use Rattle.program_limits.specs.declared.passed.Limit.{Limit}
use Rattle.program_limits.specs.declared.passed.Limit.TheVariants as limit

-- The temporaries of an expression: its nodes that are neither a literal nor a local. `\result` counts as a local.
abbrev mutual
  pub temporaries : Tree → ℕ
  temporaries (number_at at n) = 0
  temporaries (truth_at at b) = 0
  temporaries (null_at at) = 0
  temporaries (local_at at i) = 0
  temporaries (result_at at) = 0
  temporaries (unary_at at o a) = 1 + temporaries a
  temporaries (binary_at at o a b) = 1 + (temporaries a + temporaries b)
  temporaries (both_at at a b) = 1 + (temporaries a + temporaries b)
  temporaries (either_at at a b) = 1 + (temporaries a + temporaries b)
  temporaries (choose_at at a b c) = 1 + (temporaries a + (temporaries b + temporaries c))
  temporaries (read_at at base k f) = 1 + temporaries base
  temporaries (call_at at g es) = 1 + all_temporaries es
  temporaries (library_at at l es t) = 1 + all_temporaries es
  temporaries (alloc_at at k) = 1

  pub all_temporaries : Trees → ℕ
  all_temporaries no_trees = 0
  all_temporaries (tree_and e es) = temporaries e + all_temporaries es

-- the most that one statement, or one test, has; the parts of a `for` are statements of their own
abbrev mutual
  pub stmt_temporaries : Stmt → ℕ
  stmt_temporaries (declare_at at i es) = all_temporaries es
  stmt_temporaries (assign_at at i o op_at e) = temporaries e
  stmt_temporaries (write_at at base k f arrow o op_at e) = temporaries base + temporaries e
  stmt_temporaries (plain_at at e) = temporaries e
  stmt_temporaries (block_at at ss) = stmts_temporaries ss
  stmt_temporaries (if_at at c a b) = max (temporaries c) (max (stmt_temporaries a) (stmts_temporaries b))
  stmt_temporaries (while_at at inv c body) = max (temporaries c) (stmt_temporaries body)
  stmt_temporaries (for_at at first c last inv body) =
      max (stmts_temporaries first) (max (temporaries c) (max (stmts_temporaries last) (stmt_temporaries body)))
  stmt_temporaries (return_at at es) = all_temporaries es
  stmt_temporaries (assert_at at e) = temporaries e
  stmt_temporaries (raise_at at t) = 0
  stmt_temporaries (note_at at k f) = 0

  pub stmts_temporaries : Stmts → ℕ
  stmts_temporaries no_stmts = 0
  stmts_temporaries (stmt_and s ss) = max (stmt_temporaries s) (stmts_temporaries ss)

-- the first number from this one on with a size past a limit
abbrev pub first_past : (most : ℕ) → (from : ℕ) → List ℕ → Option ℕ
first_past most from [] = None
first_past most from (n ∷ ns) = if nat_lt most n then Some from else first_past most (suc from) ns

-- what the next in the order of limits says, where the first says nothing
abbrev pub or_next : Option Limit → Option Limit → Option Limit
or_next None next = next
or_next (Some l) next = Some l

abbrev pub where_past : (most size : ℕ) → Limit → Option Limit
where_past most size l = if nat_lt most size then Some l else None

-- the first limit that a program passes: structs, predicates, functions, the fields of a struct, the locals of a function,
-- the temporaries of one of its statements; of each the one with the least number
abbrev pub limit_passed : Program → Option Limit
limit_passed p =
    or_next (where_past limits.STRUCTS (length p.structs) limit.Structs)
    (or_next (where_past limits.PREDICATES (length p.predicates) limit.Predicates)
    (or_next (where_past limits.FUNCTIONS (length p.functions) limit.Functions)
    (or_next (option_map limit.Fields (first_past limits.FIELDS 0 (map (λ s. length s.fields) p.structs)))
    (or_next (option_map limit.Locals (first_past limits.LOCALS 0 (map (λ f. length f.locals) p.functions)))
    (option_map limit.Temporaries (first_past limits.TEMPORARIES 0 (map (λ f. stmts_temporaries f.body) p.functions)))))))
