-- The text of formulas over numbers: the names come from the program, and a scope tells whose locals
-- they speak of.
use Rattle.std.specs.Prelude.{ℕ, ◌+◌, Bool, true, false, List, [], ◌∷◌, ◌++◌, Option, Some, None, slice_get, codes}
use Rattle.gc0_base.specs.declared.place.Place.{Place}
use Rattle.gc0_base.specs.declared.word.Word.{Word}
use Rattle.gc0_tree.specs.declared.Shape.{Shape}
use Rattle.gc0_tree.specs.declared.Shape.TheVariants as shape
use Rattle.gc0_tree.specs.declared.UnaryOp.{UnaryOp}
use Rattle.gc0_tree.specs.declared.UnaryOp.TheVariants as unary_op
use Rattle.gc0_tree.specs.declared.ExprOp.{ExprOp}
use Rattle.gc0_tree.specs.declared.ExprOp.TheVariants as expr_op
use Rattle.gc0_tree.specs.Calls.{library_name}
use Rattle.gc0_tree.specs.declared.Struct.{Struct}
use Rattle.gc0_tree.specs.declared.Predicate.{Predicate}
use Rattle.gc0_tree.specs.declared.Function.{Function}
use Rattle.gc0_tree.specs.declared.Program.{Program}
use Rattle.gc0_tree.specs.Tree.{Tree, number_at, truth_at, null_at, local_at, result_at, unary_at, binary_at, both_at, either_at, choose_at, read_at, call_at, library_at, alloc_at, Trees, no_trees, tree_and, Conjuncts, no_parts, value_part, acc_part, instance_part, choice_part, Formula}
use Rattle.parsed_tree.specs.declared.expressions.UnaryOperator.{UnaryOperator}
use Rattle.parsed_tree.specs.declared.expressions.UnaryOperator.TheVariants as read_unary
use Rattle.parsed_tree.specs.declared.expressions.Operator.{Operator}
use Rattle.parsed_tree.specs.declared.expressions.Operator.TheVariants as op
use Rattle.c0_grammar.specs.Written.{struct_word, TypeText, Written, digits, truth_token, null_token, word, result_word, before, between, choice, called, called_text, allocated, arrow_to, permission, Args, no_args, some_args, More, no_more, more_and}
use Rattle.c0_grammar.specs.Allowed.{rank, ranks}
use Rattle.formula_print.specs.declared.scope.Scope.{Scope}
use Rattle.formula_print.specs.declared.scope.Scope.TheVariants as scope
use Rattle.c0_layout.specs.Layout.{expr_text}
use Rattle.c0_layout.specs.Rounding.{nowhere, closed, based}

-- ---- names; a number that the program does not have has none
abbrev pub Locals : Type 0
Locals = List (List ℕ × Shape)

abbrev pub name_in : Option (List ℕ × Shape) → List ℕ
name_in None = []
name_in (Some x) = x.0

abbrev pub shape_in : Option (List ℕ × Shape) → Option Shape
shape_in None = None
shape_in (Some x) = Some x.1

abbrev pub function_locals : Option Function → Locals
function_locals None = []
function_locals (Some f) = f.locals

abbrev pub predicate_locals : Option Predicate → Locals
predicate_locals None = []
predicate_locals (Some q) = q.params

abbrev pub locals_of : Program → Scope → Locals
locals_of p (scope.Function g) = function_locals (slice_get p.functions g)
locals_of p (scope.Predicate q) = predicate_locals (slice_get p.predicates q)

abbrev pub function_result : Option Function → Option Shape
function_result None = None
function_result (Some f) = f.result

-- what `\result` is
abbrev pub result_of : Program → Scope → Option Shape
result_of p (scope.Function g) = function_result (slice_get p.functions g)
result_of p (scope.Predicate q) = None

abbrev pub function_name : Option Function → List ℕ
function_name None = []
function_name (Some f) = f.name

abbrev pub predicate_name : Option Predicate → List ℕ
predicate_name None = []
predicate_name (Some q) = q.name

abbrev pub struct_name : Option Struct → List ℕ
struct_name None = []
struct_name (Some s) = s.name

abbrev pub struct_fields : Option Struct → Locals
struct_fields None = []
struct_fields (Some s) = s.fields

-- a field of a struct
abbrev pub field_at : Program → (of_struct field : ℕ) → Option (List ℕ × Shape)
field_at p s f = slice_get (struct_fields (slice_get p.structs s)) f

abbrev pub field_name : Program → (of_struct field : ℕ) → List ℕ
field_name p s f = name_in (field_at p s f)

abbrev pub text_at : Option (List ℕ) → List ℕ
text_at None = []
text_at (Some t) = t

-- what a path of `acc` is: a local, `\result`, or what a `->` leads to
abbrev pub shape_of : Program → Scope → Tree → Option Shape
shape_of p s (local_at at i) = shape_in (slice_get (locals_of p s) i)
shape_of p s (result_at at) = result_of p s
shape_of p s (read_at at base t f) = shape_in (field_at p t f)
shape_of p s e = None

-- a field of the struct to which a pointer leads
abbrev pub pointed_field : Program → Option Shape → ℕ → List ℕ
pointed_field p (Some (shape.Pointer s)) f = field_name p s f
pointed_field p x f = []

-- ---- operators
abbrev pub unary_of : UnaryOp → UnaryOperator
unary_of unary_op.Neg = read_unary.Negate
unary_of unary_op.Not = read_unary.Not
unary_of unary_op.Flip = read_unary.Flip

abbrev pub operator_of : ExprOp → Operator
operator_of expr_op.Add = op.Add
operator_of expr_op.Sub = op.Sub
operator_of expr_op.Mul = op.Mul
operator_of expr_op.Div = op.Div
operator_of expr_op.Rem = op.Rem
operator_of expr_op.Shl = op.Shl
operator_of expr_op.Shr = op.Shr
operator_of expr_op.And = op.And
operator_of expr_op.Or = op.Or
operator_of expr_op.Xor = op.Xor
operator_of expr_op.Less = op.Less
operator_of expr_op.LessEq = op.LessEq
operator_of expr_op.Greater = op.Greater
operator_of expr_op.GreaterEq = op.GreaterEq
operator_of expr_op.Equal = op.Equal
operator_of expr_op.NotEqual = op.NotEqual

-- ---- expressions
abbrev pub joined_by : Operator → Written → Written → Written
joined_by o x y = between (closed (rank o + 1) x) nowhere o (closed (rank o) y)

abbrev pub struct_type : List ℕ → TypeText
struct_type name = record { base = struct_word nowhere nowhere name; stars = [] }

-- a call of the library: with a text, or with an argument or none
abbrev pub library_call : Program → List ℕ → Args → Option ℕ → Written
library_call p name xs None = called nowhere name nowhere xs nowhere
library_call p name xs (Some t) =
    called_text nowhere name nowhere nowhere (text_at (slice_get p.texts t)) nowhere

abbrev mutual
  pub shown : Program → Scope → Tree → Written
  shown p s (number_at at n) = digits nowhere (record { 0 = n })
  shown p s (truth_at at b) = truth_token nowhere b
  shown p s (null_at at) = null_token nowhere
  shown p s (local_at at i) = word nowhere (name_in (slice_get (locals_of p s) i))
  shown p s (result_at at) = result_word nowhere
  shown p s (unary_at at o x) = before nowhere (unary_of o) (closed 0 (shown p s x))
  shown p s (binary_at at o x y) = joined_by (operator_of o) (shown p s x) (shown p s y)
  shown p s (both_at at x y) = joined_by op.Both (shown p s x) (shown p s y)
  shown p s (either_at at x y) = joined_by op.Either (shown p s x) (shown p s y)
  shown p s (choose_at at x y z) =
      choice (closed ranks (shown p s x)) nowhere (shown p s y) nowhere (shown p s z)
  shown p s (read_at at x t f) = arrow_to (based (shown p s x)) nowhere nowhere (field_name p t f)
  shown p s (call_at at g xs) =
      called nowhere (function_name (slice_get p.functions g)) nowhere (shown_args p s xs) nowhere
  shown p s (library_at at l xs t) = library_call p (library_name l) (shown_args p s xs) t
  shown p s (alloc_at at t) =
      allocated nowhere nowhere (struct_type (struct_name (slice_get p.structs t))) nowhere

  pub shown_args : Program → Scope → Trees → Args
  shown_args p s no_trees = no_args
  shown_args p s (tree_and x xs) = some_args (shown p s x) (shown_more p s xs)

  pub shown_more : Program → Scope → Trees → More
  shown_more p s no_trees = no_more
  shown_more p s (tree_and x xs) = more_and nowhere (shown p s x) (shown_more p s xs)

-- ---- conjuncts
-- acc(path->f)
abbrev pub shown_acc : Program → Scope → Tree → ℕ → Written
shown_acc p s base f = permission nowhere nowhere (shown p s base) nowhere nowhere (pointed_field p (shape_of p s base) f) nowhere

-- p(a, b)
abbrev pub shown_instance : Program → Scope → ℕ → Trees → Written
shown_instance p s q xs =
    called nowhere (predicate_name (slice_get p.predicates q)) nowhere (shown_args p s xs) nowhere

-- a value among conjuncts: what binds less than `&&`, or is one, stands in parentheses
abbrev pub value_text : Program → Scope → Tree → List ℕ
value_text p s e = expr_text (closed (rank op.Both) (shown p s e))

-- no conjunct at all says `true`
abbrev pub or_true : Conjuncts → List ℕ
or_true no_parts = codes "true"
or_true cs = []

-- Conjuncts are joined by `&&`; before the first stands what is given. A choice stands in parentheses,
-- also the one that `||` is.
abbrev pub parts_text : Program → Scope → List ℕ → Conjuncts → List ℕ
parts_text p s front no_parts = []
parts_text p s front (value_part e rest) =
    front ++ (value_text p s e ++ parts_text p s (codes " && ") rest)
parts_text p s front (acc_part e f rest) =
    front ++ (expr_text (shown_acc p s e f) ++ parts_text p s (codes " && ") rest)
parts_text p s front (instance_part at q xs rest) =
    front ++ (expr_text (shown_instance p s q xs) ++ parts_text p s (codes " && ") rest)
parts_text p s front (choice_part at c these those rest) =
    front
    ++ (codes "("
    ++ (expr_text (closed ranks (shown p s c))
    ++ (codes " ? "
    ++ (or_true these
    ++ (parts_text p s [] these
    ++ (codes " : "
    ++ (or_true those
    ++ (parts_text p s [] those
    ++ (codes ")" ++ parts_text p s (codes " && ") rest)))))))))

abbrev pub conjuncts_text : Program → Scope → Conjuncts → List ℕ
conjuncts_text p s cs = or_true cs ++ parts_text p s [] cs

-- one conjunct
abbrev pub conjunct_text : Program → Scope → (Conjuncts → Conjuncts) → List ℕ
conjunct_text p s c = parts_text p s [] (c no_parts)

abbrev pub either_text : Program → Scope → Bool → Conjuncts → List ℕ
either_text p s true cs = codes "?" ++ parts_text p s (codes " && ") cs
either_text p s false cs = conjuncts_text p s cs

abbrev pub formula_text : Program → Scope → Formula → List ℕ
formula_text p s f = either_text p s f.imprecise f.parts
