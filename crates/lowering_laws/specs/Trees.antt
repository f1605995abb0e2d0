-- The code of expressions, flattened from left to right, and where their values are.
-- The forms of the core are this project's own.
use Rattle.std.specs.Prelude.{ℕ, Bool, true, false, List, [], ◌∷◌, Option, Some, None, slice_get}
use Rattle.gc0_base.specs.declared.site.Site.{Site}
use Rattle.gc0_base.specs.declared.site.Kind.TheVariants as kind
use Rattle.gc0_base.specs.declared.site.Decision.{Decision}
use Rattle.gc0_tree.specs.declared.Shape.{Shape}
use Rattle.gc0_tree.specs.declared.Shape.TheVariants.{Bool as Truth, Pointer}
use Rattle.gc0_tree.specs.declared.UnaryOp.TheVariants as unary
use Rattle.gc0_tree.specs.declared.ExprOp.{ExprOp}
use Rattle.gc0_tree.specs.declared.ExprOp.TheVariants as op
use Rattle.gc0_tree.specs.Tree.{Tree, number_at, truth_at, null_at, local_at, result_at, unary_at, binary_at, both_at, either_at, choose_at, read_at, call_at, library_at, alloc_at, Trees, no_trees, tree_and, Program}
use Rattle.gc0_tree.specs.Fits.{unary_shape, gives, library_gives, Room}
use Rattle.gc0_tree.specs.Sites.{Places, reads_input}
use Rattle.core_tree.specs.declared.BinaryOp.TheVariants as binary
use Rattle.core_tree.specs.declared.Simple.{Simple}
use Rattle.core_tree.specs.declared.Simple.TheVariants as simple
use Rattle.core_tree.specs.CoreTree.{CoreStmt, do_step, do_set, do_unary, do_binary, do_load, do_new, do_call, do_library, do_if, Code, no_code, code_and}
use Rattle.c0_meaning.specs.Operators.{truth_word}
use Rattle.lowering_laws.specs.Counts.{tree_shape, result_of, read_shape, chosen_shape, Counts, with_constant, decided, counted, args_counted, first_counted, is_constant}

-- what code is lowered for: its function's number and sites, and the number of each temporary
pub record Target : Type 0 where
  pub function : ℕ
  pub at : Places
  -- the k-th temporary of a shape
  pub slot : Shape → ℕ → ℕ

-- one after the other
abbrev pub join : Code → Code → Code
join no_code d = d
join (code_and a c) d = code_and a (join c d)

abbrev pub one : CoreStmt → Code
one a = code_and a no_code

-- ---- values
-- the next temporary of a shape
abbrev pub temp : Target → Shape → Counts → ℕ
temp w s c = w.slot s (c.used s)

-- a temporary for a result, where there is one
abbrev pub temp_if : Target → Option Shape → Counts → Option ℕ
temp_if w None c = None
temp_if w (Some s) c = Some (temp w s c)

abbrev pub constant : ℕ → Simple
constant n = simple.Const record { 0 = n }

-- the word of a temporary; nobody asks for a result where there is none
abbrev pub held : Option ℕ → Simple
held None = constant 0
held (Some i) = simple.Local i

-- where the value of an expression is behind its code
abbrev pub value_of : Program → Room → Target → Counts → Tree → Simple
value_of p r w c (number_at at n) = constant n
value_of p r w c (truth_at at b) = constant (truth_word b)
value_of p r w c (null_at at) = constant 0
value_of p r w c (local_at at i) = simple.Local i
value_of p r w c (result_at at) = constant 0
value_of p r w c (unary_at at o a) = simple.Local (temp w (unary_shape o) (counted p r c a))
value_of p r w c (binary_at at o a b) = simple.Local (temp w (gives o) (counted p r (counted p r c a) b))
value_of p r w c (both_at at a b) = simple.Local (temp w Truth (counted p r (decided 1 (counted p r c a)) b))
value_of p r w c (either_at at a b) = simple.Local (temp w Truth (counted p r (decided 1 (counted p r c a)) b))
value_of p r w c (choose_at at x a b) =
    simple.Local (temp w (chosen_shape p r a b) (counted p r (counted p r (decided 1 (counted p r c x)) a) b))
value_of p r w c (read_at at a k field) = simple.Local (temp w (read_shape p k field) (counted p r c a))
value_of p r w c (call_at at g es) = held (temp_if w (result_of (slice_get p.functions g)) (args_counted p r c es))
value_of p r w c (library_at at l es t) = held (temp_if w (library_gives l) (first_counted p r c es))
value_of p r w c (alloc_at at k) = simple.Local (temp w (Pointer k) c)

-- a value that may be absent
abbrev pub first_value : Program → Room → Target → Counts → Trees → Option Simple
first_value p r w c no_trees = None
first_value p r w c (tree_and e es) = Some (value_of p r w c e)

-- the local of an argument that isn't constant
abbrev pub local_in : Simple → ℕ
local_in (simple.Const w) = 0
local_in (simple.Local i) = i

-- where an argument of a call is, and the code that puts a constant there
abbrev pub argument : Bool → (to : ℕ) → Simple → ℕ
argument true to a = to
argument false to a = local_in a

abbrev pub argument_code : Bool → (to : ℕ) → Simple → Code
argument_code true to a = one (do_set to a)
argument_code false to a = no_code

abbrev pub arguments : Program → Room → Target → Counts → Trees → List ℕ
arguments p r w c no_trees = []
arguments p r w c (tree_and e es) =
    let behind : Counts = counted p r c e in
    argument (is_constant e) (temp w (tree_shape p r e) behind) (value_of p r w c e)
    ∷ arguments p r w (with_constant (is_constant e) (tree_shape p r e) behind) es

-- ---- code
abbrev pub decision : Target → Counts → Decision
decision w c = record { function = w.function; number = c.next }

abbrev pub site_if : Bool → Site → Option Site
site_if true site = Some site
site_if false site = None

-- `to = a o b`, where the core has no `>`, `>=` and `!=` of its own
abbrev pub operator_code : (to : ℕ) → ExprOp → Site → Simple → Simple → Code
operator_code to op.Add site a b = one (do_binary to binary.Add a b None)
operator_code to op.Sub site a b = one (do_binary to binary.Sub a b None)
operator_code to op.Mul site a b = one (do_binary to binary.Mul a b None)
operator_code to op.Div site a b = one (do_binary to binary.Div a b (Some site))
operator_code to op.Rem site a b = one (do_binary to binary.Rem a b (Some site))
operator_code to op.Shl site a b = one (do_binary to binary.Shl a b (Some site))
operator_code to op.Shr site a b = one (do_binary to binary.Shr a b (Some site))
operator_code to op.And site a b = one (do_binary to binary.And a b None)
operator_code to op.Or site a b = one (do_binary to binary.Or a b None)
operator_code to op.Xor site a b = one (do_binary to binary.Xor a b None)
operator_code to op.Less site a b = one (do_binary to binary.Less a b None)
operator_code to op.LessEq site a b = one (do_binary to binary.LessEq a b None)
operator_code to op.Greater site a b = one (do_binary to binary.Less b a None)
operator_code to op.GreaterEq site a b = code_and (do_binary to binary.Less a b None) (one (do_unary to unary.Flip (simple.Local to)))
operator_code to op.Equal site a b = one (do_binary to binary.Equal a b None)
operator_code to op.NotEqual site a b = code_and (do_binary to binary.Equal a b None) (one (do_unary to unary.Flip (simple.Local to)))

abbrev mutual
  pub tree_code : Program → Room → Target → Counts → Tree → Code
  tree_code p r w c (number_at at n) = no_code
  tree_code p r w c (truth_at at b) = no_code
  tree_code p r w c (null_at at) = no_code
  tree_code p r w c (local_at at i) = no_code
  tree_code p r w c (result_at at) = no_code
  tree_code p r w c (unary_at at o a) =
      join (tree_code p r w c a) (one (do_unary (temp w (unary_shape o) (counted p r c a)) o (value_of p r w c a)))
  tree_code p r w c (binary_at at o a b) =
      let c1 : Counts = counted p r c a in
      let to : ℕ = temp w (gives o) (counted p r c1 b) in
      join (tree_code p r w c a)
      (join (tree_code p r w c1 b)
      (operator_code to o (w.at kind.Trap at) (value_of p r w c a) (value_of p r w c1 b)))
  tree_code p r w c (both_at at a b) =
      let c1 : Counts = counted p r c a in
      let to : ℕ = temp w Truth (counted p r (decided 1 c1) b) in
      join (tree_code p r w c a)
      (one (do_if (decision w c1) (value_of p r w c a)
      (join (tree_code p r w (decided 1 c1) b) (one (do_set to (value_of p r w (decided 1 c1) b))))
      (one (do_set to (constant 0)))))
  tree_code p r w c (either_at at a b) =
      let c1 : Counts = counted p r c a in
      let to : ℕ = temp w Truth (counted p r (decided 1 c1) b) in
      join (tree_code p r w c a)
      (one (do_if (decision w c1) (value_of p r w c a)
      (one (do_set to (value_of p r w c a)))
      (join (tree_code p r w (decided 1 c1) b) (one (do_set to (value_of p r w (decided 1 c1) b))))))
  tree_code p r w c (choose_at at x a b) =
      let c1 : Counts = counted p r c x in
      let c2 : Counts = counted p r (decided 1 c1) a in
      let to : ℕ = temp w (chosen_shape p r a b) (counted p r c2 b) in
      join (tree_code p r w c x)
      (one (do_if (decision w c1) (value_of p r w c x)
      (join (tree_code p r w (decided 1 c1) a) (one (do_set to (value_of p r w (decided 1 c1) a))))
      (join (tree_code p r w c2 b) (one (do_set to (value_of p r w c2 b))))))
  tree_code p r w c (read_at at a k field) =
      join (tree_code p r w c a)
      (one (do_load (temp w (read_shape p k field) (counted p r c a)) (value_of p r w c a) k field (w.at kind.Access at)))
  tree_code p r w c (call_at at g es) =
      join (args_code p r w c es)
      (code_and do_step
      (one (do_call (temp_if w (result_of (slice_get p.functions g)) (args_counted p r c es)) g (arguments p r w c es) (w.at kind.Requires at))))
  tree_code p r w c (library_at at l es t) =
      join (first_code p r w c es)
      (code_and do_step
      (one (do_library (temp_if w (library_gives l) (first_counted p r c es)) l (first_value p r w c es) t (site_if (reads_input l) (w.at kind.Trap at)))))
  tree_code p r w c (alloc_at at k) = code_and do_step (one (do_new (temp w (Pointer k) c) k))

  -- the arguments of a call, each in a local
  pub args_code : Program → Room → Target → Counts → Trees → Code
  args_code p r w c no_trees = no_code
  args_code p r w c (tree_and e es) =
      let behind : Counts = counted p r c e in
      join (tree_code p r w c e)
      (join (argument_code (is_constant e) (temp w (tree_shape p r e) behind) (value_of p r w c e))
      (args_code p r w (with_constant (is_constant e) (tree_shape p r e) behind) es))

  -- a value that may be absent
  pub first_code : Program → Room → Target → Counts → Trees → Code
  first_code p r w c no_trees = no_code
  first_code p r w c (tree_and e es) = tree_code p r w c e
