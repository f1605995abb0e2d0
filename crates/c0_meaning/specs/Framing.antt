-- Which reads of a formula have their permission, and which instances in predicates are guarded.
-- Self-framing is that of Gradual C0; that it is judged by the tree alone, and the guards, are this project's own.
use Rattle.std.specs.Prelude.{◌≡◌, ℕ, suc, Bool, true, false, not, ◌&&◌, ◌||◌, eqb, nat_lt, List, [], ◌∷◌, ◌++◌, flat_map, if◌then◌else◌}
use Rattle.gc0_base.specs.declared.place.Place.{Place}
use Rattle.gc0_tree.specs.Sites.{token_if}
use Rattle.gc0_tree.specs.Tree.{Tree, number_at, truth_at, null_at, local_at, result_at, unary_at, binary_at, both_at, either_at, choose_at, read_at, call_at, library_at, alloc_at, Trees, no_trees, tree_and, Conjuncts, no_parts, value_part, acc_part, instance_part, choice_part, Formula, Stmt, declare_at, assign_at, write_at, plain_at, block_at, if_at, while_at, for_at, return_at, assert_at, raise_at, note_at, Stmts, no_stmts, stmt_and, Predicate, Function, Program}

-- The same path, wherever it stands: a local, `\result`, or a field of a path. Before a `->` of a formula stands nothing else.
abbrev pub same_path : Tree → Tree → Bool
same_path (local_at at i) (local_at place j) = eqb i j
same_path (result_at at) (result_at place) = true
same_path (read_at at a k f) (read_at place b j g) = same_path a b && (eqb k j && eqb f g)
same_path a b = false

-- what an `acc` permits: the path before its `->`, and the field
abbrev pub Permission : Type 0
Permission = Tree × ℕ

-- whether a field of a path is permitted
abbrev pub is_permitted : List Permission → (base : Tree) (field : ℕ) → Bool
is_permitted [] base field = false
is_permitted (a ∷ left) base field = (same_path a.0 base && eqb a.1 field) || is_permitted left base field

-- the reads of an expression that are not permitted, each at its `->`
abbrev mutual
  pub unframed : List Permission → Tree → List Place
  unframed left (number_at at n) = []
  unframed left (truth_at at b) = []
  unframed left (null_at at) = []
  unframed left (local_at at i) = []
  unframed left (result_at at) = []
  unframed left (unary_at at o a) = unframed left a
  unframed left (binary_at at o a b) = unframed left a ++ unframed left b
  unframed left (both_at at a b) = unframed left a ++ unframed left b
  unframed left (either_at at a b) = unframed left a ++ unframed left b
  unframed left (choose_at at a b c) = unframed left a ++ (unframed left b ++ unframed left c)
  unframed left (read_at at base k f) = unframed left base ++ token_if (not (is_permitted left base f)) at
  unframed left (call_at at g es) = all_unframed left es
  unframed left (library_at at l es t) = all_unframed left es
  unframed left (alloc_at at k) = []

  pub all_unframed : List Permission → Trees → List Place
  all_unframed left no_trees = []
  all_unframed left (tree_and e es) = unframed left e ++ all_unframed left es

-- The same of conjuncts from left to right, with what is permitted to their left. An `acc` in a branch counts in that
-- branch alone.
abbrev pub parts_unframed : List Permission → Conjuncts → List Place
parts_unframed left no_parts = []
parts_unframed left (value_part e rest) = unframed left e ++ parts_unframed left rest
parts_unframed left (acc_part e f rest) = unframed left e ++ parts_unframed ((e, f) ∷ left) rest
parts_unframed left (instance_part at p es rest) = all_unframed left es ++ parts_unframed left rest
parts_unframed left (choice_part at c these those rest) =
    unframed left c ++ (parts_unframed left these ++ (parts_unframed left those ++ parts_unframed left rest))

-- an imprecise formula needs no framing
abbrev pub formula_unframed : Formula → List Place
formula_unframed f = if f.imprecise then [] else parts_unframed [] f.parts

-- The same of the invariants of statements; an `assert`, `fold` or `unfold` needs no framing.
abbrev mutual
  pub stmt_unframed : Stmt → List Place
  stmt_unframed (declare_at at i es) = []
  stmt_unframed (assign_at at i o op_at e) = []
  stmt_unframed (write_at at base k f arrow o op_at e) = []
  stmt_unframed (plain_at at e) = []
  stmt_unframed (block_at at ss) = stmts_unframed ss
  stmt_unframed (if_at at c a b) = stmt_unframed a ++ stmts_unframed b
  stmt_unframed (while_at at inv c body) = formula_unframed inv ++ stmt_unframed body
  stmt_unframed (for_at at first c last inv body) =
      stmts_unframed first ++ (stmts_unframed last ++ (formula_unframed inv ++ stmt_unframed body))
  stmt_unframed (return_at at es) = []
  stmt_unframed (assert_at at e) = []
  stmt_unframed (raise_at at t) = []
  stmt_unframed (note_at at k f) = []

  pub stmts_unframed : Stmts → List Place
  stmts_unframed no_stmts = []
  stmts_unframed (stmt_and s ss) = stmt_unframed s ++ stmts_unframed ss

abbrev pub function_unframed : Function → List Place
function_unframed f = formula_unframed f.before ++ (formula_unframed f.after ++ stmts_unframed f.body)

abbrev pub predicate_unframed : Predicate → List Place
predicate_unframed d = parts_unframed [] d.body

-- the reads of a program without their permission
abbrev pub program_unframed : Program → List Place
program_unframed p = flat_map predicate_unframed p.predicates ++ flat_map function_unframed p.functions

-- The instances in the body of the predicate of this number that are not guarded, each at its name: of the same or a later
-- predicate, and without an `acc` to their left in their branch or outside it.
abbrev pub parts_unguarded : (own : ℕ) → (guarded : Bool) → Conjuncts → List Place
parts_unguarded own guarded no_parts = []
parts_unguarded own guarded (value_part e rest) = parts_unguarded own guarded rest
parts_unguarded own guarded (acc_part e f rest) = parts_unguarded own true rest
parts_unguarded own guarded (instance_part at p es rest) =
    token_if (not (guarded || nat_lt p own)) at ++ parts_unguarded own guarded rest
parts_unguarded own guarded (choice_part at c these those rest) =
    parts_unguarded own guarded these ++ (parts_unguarded own guarded those ++ parts_unguarded own guarded rest)

-- the same of predicates from this number on
abbrev pub predicates_unguarded : ℕ → List Predicate → List Place
predicates_unguarded own [] = []
predicates_unguarded own (d ∷ ds) = parts_unguarded own false d.body ++ predicates_unguarded (suc own) ds

-- the instances of a program without their guard
abbrev pub program_unguarded : Program → List Place
program_unguarded p = predicates_unguarded 0 p.predicates

-- each read of a precise clause or invariant, and of a predicate, has its `acc` to its left
abbrev pub IsFramed : Program → Type 0
IsFramed p = program_unframed p ≡ []

-- before a predicate comes again in itself, a cell was taken
abbrev pub IsGuarded : Program → Type 0
IsGuarded p = program_unguarded p ≡ []
