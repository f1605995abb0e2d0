-- Expressions with numbers in place of names. `ts` are the texts before.
-- Source: C0 Reference, "Expressions"; the numbers are this project's own.
use Rattle.std.specs.Prelude.{ℕ, Bool, true, List, length, Option, Some, None}
use Rattle.std.specs.Option.{unwrap_or}
use Rattle.gc0_base.specs.declared.place.Place.{Place}
use Rattle.parsed_tree.specs.declared.expressions.Spot.{Spot}
use Rattle.parsed_tree.specs.declared.expressions.UnaryOperator.{UnaryOperator}
use Rattle.parsed_tree.specs.declared.expressions.UnaryOperator.TheVariants as unary_op
use Rattle.parsed_tree.specs.declared.expressions.Operator.{Operator}
use Rattle.parsed_tree.specs.declared.expressions.Operator.TheVariants as op
use Rattle.parsed_tree.specs.Tree.{ExprTree, number, truth, null, local, outcome, unary, binary, choose, arrow, call, call_text, alloc, acc, ExprTrees, no_exprs, expr_and}
use Rattle.gc0_tree.specs.declared.UnaryOp.{UnaryOp}
use Rattle.gc0_tree.specs.declared.UnaryOp.TheVariants as gc0_unary
use Rattle.gc0_tree.specs.declared.ExprOp.{ExprOp}
use Rattle.gc0_tree.specs.declared.ExprOp.TheVariants as gc0_op
use Rattle.gc0_tree.specs.declared.LibraryCall.{LibraryCall}
use Rattle.gc0_tree.specs.declared.LibraryCall.TheVariants as library
use Rattle.gc0_tree.specs.Tree as gc0
use Rattle.c0_names.specs.declared.types.BaseType.{BaseType}
use Rattle.c0_names.specs.declared.types.BaseType.TheVariants as plain_type
use Rattle.c0_names.specs.declared.types.ValueType.{ValueType}
use Rattle.c0_names.specs.declared.types.ValueType.TheVariants.{Written, Null, Void, Text}
use Rattle.c0_names.specs.declared.tables.Tables.{Tables}
use Rattle.c0_value_numbers.specs.declared.frame.Frame.{Frame}
use Rattle.c0_value_numbers.specs.declared.values.FieldPlace.{FieldPlace}
use Rattle.c0_value_numbers.specs.declared.expressions.Joint.{Joint}
use Rattle.c0_value_numbers.specs.declared.expressions.Joint.TheVariants as joint
use Rattle.c0_names.specs.Tables.{value_type}
use Rattle.gc0_tree.specs.Calls.{library_named}
use Rattle.c0_value_numbers.specs.Values.{number_in, accessed, type_in_frame}
use Rattle.c0_value_numbers.specs.Texts.{Texts, expr_texts, exprs_texts}

abbrev pub unary_of : UnaryOperator → UnaryOp
unary_of unary_op.Negate = gc0_unary.Neg
unary_of unary_op.Not = gc0_unary.Not
unary_of unary_op.Flip = gc0_unary.Flip

-- `&&` and `||` may leave the right operand, the others take both
abbrev pub joint_of : Operator → Joint
joint_of op.Mul = joint.Of gc0_op.Mul
joint_of op.Div = joint.Of gc0_op.Div
joint_of op.Rem = joint.Of gc0_op.Rem
joint_of op.Add = joint.Of gc0_op.Add
joint_of op.Sub = joint.Of gc0_op.Sub
joint_of op.Shl = joint.Of gc0_op.Shl
joint_of op.Shr = joint.Of gc0_op.Shr
joint_of op.Less = joint.Of gc0_op.Less
joint_of op.LessEq = joint.Of gc0_op.LessEq
joint_of op.Greater = joint.Of gc0_op.Greater
joint_of op.GreaterEq = joint.Of gc0_op.GreaterEq
joint_of op.Equal = joint.Of gc0_op.Equal
joint_of op.NotEqual = joint.Of gc0_op.NotEqual
joint_of op.And = joint.Of gc0_op.And
joint_of op.Xor = joint.Of gc0_op.Xor
joint_of op.Or = joint.Of gc0_op.Or
joint_of op.Both = joint.Both
joint_of op.Either = joint.Either

abbrev pub joint_tree : Place → Joint → gc0.Tree → gc0.Tree → gc0.Tree
joint_tree p (joint.Of o) x y = gc0.binary_at p o x y
joint_tree p joint.Both x y = gc0.both_at p x y
joint_tree p joint.Either x y = gc0.either_at p x y

abbrev pub binary_tree : Place → Operator → gc0.Tree → gc0.Tree → gc0.Tree
binary_tree p o x y = joint_tree p (joint_of o) x y

-- a field's access behind a base
abbrev pub read_tree : Place → gc0.Tree → FieldPlace → gc0.Tree
read_tree p base a = gc0.read_at p base a.of_struct a.field

-- a library call takes at most one argument
abbrev pub first_tree : gc0.Trees → gc0.Trees
first_tree gc0.no_trees = gc0.no_trees
first_tree (gc0.tree_and x xs) = gc0.tree_and x gc0.no_trees

abbrev pub call_tree : Tables → Place → List ℕ → Option LibraryCall → gc0.Trees → gc0.Tree
call_tree t p name None args = gc0.call_at p (number_in t.functions.names name) args
call_tree t p name (Some c) args = gc0.library_at p c (first_tree args) None

-- the struct that `alloc` makes; where it is none, the number 0
abbrev pub base_struct : BaseType → ℕ
base_struct plain_type.Int = 0
base_struct plain_type.Bool = 0
base_struct (plain_type.Struct k) = k

abbrev pub made_struct : ValueType → ℕ
made_struct (Written b stars) = base_struct b
made_struct Null = 0
made_struct Void = 0
made_struct Text = 0

abbrev mutual
  pub expr_tree : Tables → Frame → Texts → ExprTree → gc0.Tree
  expr_tree t f ts (number s w) = gc0.number_at s.place w.0
  expr_tree t f ts (truth s b) = gc0.truth_at s.place b
  expr_tree t f ts (null s) = gc0.null_at s.place
  expr_tree t f ts (local s n) = gc0.local_at s.place (number_in f.locals.names n)
  expr_tree t f ts (outcome s) = gc0.result_at s.place
  expr_tree t f ts (unary s o x) = gc0.unary_at s.place (unary_of o) (expr_tree t f ts x)
  expr_tree t f ts (binary s o x y) = binary_tree s.place o (expr_tree t f ts x) (expr_tree t f (expr_texts ts x) y)
  expr_tree t f ts (choose s x y z) = gc0.choose_at s.place (expr_tree t f ts x) (expr_tree t f (expr_texts ts x) y) (expr_tree t f (expr_texts (expr_texts ts x) y) z)
  expr_tree t f ts (arrow s x n) = read_tree s.place (expr_tree t f ts x) (accessed t (type_in_frame t f x) n.name)
  expr_tree t f ts (call s n xs) = call_tree t s.place n (library_named n) (exprs_tree t f ts xs)
  -- no other call than `print` and `println` takes a text
  expr_tree t f ts (call_text s n text) = gc0.library_at s.place (unwrap_or (library_named n) library.Print) gc0.no_trees (Some (length ts))
  expr_tree t f ts (alloc s n) = gc0.alloc_at s.place (made_struct (value_type t n))
  -- no `acc` stands in a value; it would be a truth
  expr_tree t f ts (acc s x p n) = gc0.truth_at s.place true

  pub exprs_tree : Tables → Frame → Texts → ExprTrees → gc0.Trees
  exprs_tree t f ts no_exprs = gc0.no_trees
  exprs_tree t f ts (expr_and x xs) = gc0.tree_and (expr_tree t f ts x) (exprs_tree t f (expr_texts ts x) xs)

abbrev pub one_tree : gc0.Tree → gc0.Trees
one_tree x = gc0.tree_and x gc0.no_trees
