-- The shapes of values, and what is counted along an expression: the temporaries of each shape, and the decisions.
-- The order of counting is this project's own.
use Rattle.std.specs.Prelude.{ℕ, suc, ◌+◌, Bool, true, false, eqb, length, Option, Some, None, if◌then◌else◌, slice_get}
use Rattle.gc0_tree.specs.declared.Shape.{Shape}
use Rattle.gc0_tree.specs.declared.Shape.TheVariants.{Int, Bool as Truth, Pointer, Null}
use Rattle.gc0_tree.specs.Tree.{Tree, number_at, truth_at, null_at, local_at, result_at, unary_at, binary_at, both_at, either_at, choose_at, read_at, call_at, library_at, alloc_at, Trees, no_trees, tree_and, Formula, Function, Program}
use Rattle.gc0_tree.specs.Fits.{common, unary_shape, gives, field_shape, library_gives, Room}
use Rattle.core_meaning.specs.Choices.{choices}

-- ---- shapes
abbrev pub same_shape : Shape → Shape → Bool
same_shape Int Int = true
same_shape Truth Truth = true
same_shape Null Null = true
same_shape (Pointer j) (Pointer k) = eqb j k
same_shape s u = false

-- no well-typed part of a program lacks its shape
abbrev pub or_int : Option Shape → Shape
or_int None = Int
or_int (Some s) = s

abbrev pub result_of : Option Function → Option Shape
result_of None = None
result_of (Some f) = f.result

-- the shape of a field that is read
abbrev pub read_shape : Program → (of_struct field : ℕ) → Shape
read_shape p k field = or_int (field_shape p k field)

-- the shape of the value of an expression
abbrev pub tree_shape : Program → Room → Tree → Shape
tree_shape p r (number_at at n) = Int
tree_shape p r (truth_at at b) = Truth
tree_shape p r (null_at at) = Null
tree_shape p r (local_at at i) = or_int (slice_get r.locals i)
tree_shape p r (result_at at) = or_int r.outcome
tree_shape p r (unary_at at o a) = unary_shape o
tree_shape p r (binary_at at o a b) = gives o
tree_shape p r (both_at at a b) = Truth
tree_shape p r (either_at at a b) = Truth
tree_shape p r (choose_at at x a b) = or_int (common (tree_shape p r a) (tree_shape p r b))
tree_shape p r (read_at at a k field) = read_shape p k field
tree_shape p r (call_at at g es) = or_int (result_of (slice_get p.functions g))
tree_shape p r (library_at at l es t) = or_int (library_gives l)
tree_shape p r (alloc_at at k) = Pointer k

-- the shape of `c ? a : b`
abbrev pub chosen_shape : Program → Room → (a b : Tree) → Shape
chosen_shape p r a b = or_int (common (tree_shape p r a) (tree_shape p r b))

-- ---- counts
pub record Counts : Type 0 where
  -- how many temporaries of each shape the statement uses so far
  pub used : Shape → ℕ
  -- the number of the function's next decision
  pub next : ℕ

-- each statement and each test uses the temporaries from the first on
abbrev pub fresh : ℕ → Counts
fresh n = record { used = λ s. 0; next = n }

abbrev pub one_more : Shape → (Shape → ℕ) → Shape → ℕ
one_more s used u = if same_shape s u then suc (used u) else used u

-- behind a temporary of a shape
abbrev pub with_temp : Shape → Counts → Counts
with_temp s c = record c { used = one_more s c.used }

-- behind a temporary for a result, where there is one
abbrev pub with_result : Option Shape → Counts → Counts
with_result None c = c
with_result (Some s) c = with_temp s c

-- behind so many decisions
abbrev pub decided : ℕ → Counts → Counts
decided n c = record c { next = c.next + n }

-- how many choices a formula has
abbrev pub choices_in : Formula → ℕ
choices_in formula = length (choices formula.parts)

-- the choices of a call: it consumes the callee's `requires`, and produces its `ensures`
abbrev pub call_choices : Option Function → ℕ
call_choices None = 0
call_choices (Some f) = choices_in f.before + choices_in f.after

-- a value that no local and no temporary holds
abbrev pub is_constant : Tree → Bool
is_constant (number_at at n) = true
is_constant (truth_at at b) = true
is_constant (null_at at) = true
is_constant (result_at at) = true
is_constant e = false

-- an argument of a call has a temporary where it is constant
abbrev pub with_constant : Bool → Shape → Counts → Counts
with_constant true s c = with_temp s c
with_constant false s c = c

-- the counts behind an expression: those of its parts from left to right, and then the temporary of its own value
abbrev mutual
  pub counted : Program → Room → Counts → Tree → Counts
  counted p r c (number_at at n) = c
  counted p r c (truth_at at b) = c
  counted p r c (null_at at) = c
  counted p r c (local_at at i) = c
  counted p r c (result_at at) = c
  counted p r c (unary_at at o a) = with_temp (unary_shape o) (counted p r c a)
  counted p r c (binary_at at o a b) = with_temp (gives o) (counted p r (counted p r c a) b)
  counted p r c (both_at at a b) = with_temp Truth (counted p r (decided 1 (counted p r c a)) b)
  counted p r c (either_at at a b) = with_temp Truth (counted p r (decided 1 (counted p r c a)) b)
  counted p r c (choose_at at x a b) =
      with_temp (chosen_shape p r a b) (counted p r (counted p r (decided 1 (counted p r c x)) a) b)
  counted p r c (read_at at a k field) = with_temp (read_shape p k field) (counted p r c a)
  counted p r c (call_at at g es) =
      with_result (result_of (slice_get p.functions g)) (decided (call_choices (slice_get p.functions g)) (args_counted p r c es))
  counted p r c (library_at at l es t) = with_result (library_gives l) (first_counted p r c es)
  counted p r c (alloc_at at k) = with_temp (Pointer k) c

  -- the same of the arguments of a call
  pub args_counted : Program → Room → Counts → Trees → Counts
  args_counted p r c no_trees = c
  args_counted p r c (tree_and e es) =
      args_counted p r (with_constant (is_constant e) (tree_shape p r e) (counted p r c e)) es

  -- the same of a value that may be absent
  pub first_counted : Program → Room → Counts → Trees → Counts
  first_counted p r c no_trees = c
  first_counted p r c (tree_and e es) = counted p r c e
