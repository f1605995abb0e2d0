-- The type of an expression, by a look-up for the names that are read: the one typing of values. An expression that breaks a rule inside
-- has no type, so that nothing more is said of it.
-- Source: C0 Reference, "Types", "Expressions" and "Structs".
use Rattle.std.specs.Prelude.{ℕ, suc, ◌+◌, Bool, true, false, ◌&&◌, eqb, length, List, [], ◌∷◌, Option, Some, None, is_some, slice_get, if◌then◌else◌}
use Rattle.std.specs.Option.{option_map, option_and_then}
use Rattle.parsed_tree.specs.declared.expressions.UnaryOperator.{UnaryOperator}
use Rattle.parsed_tree.specs.declared.expressions.Operator.{Operator}
use Rattle.parsed_tree.specs.Tree.{ExprTree, number, truth, null, local, outcome, unary, binary, choose, arrow, call, call_text, alloc, acc, ExprTrees, no_exprs, expr_and}
use Rattle.c0_names.specs.declared.types.BaseType.TheVariants.{Struct}
use Rattle.c0_names.specs.declared.types.ValueType.{ValueType}
use Rattle.c0_names.specs.declared.types.ValueType.TheVariants.{Written, Null, Void}
use Rattle.c0_names.specs.declared.tables.Signature.{Signature}
use Rattle.c0_names.specs.declared.tables.Tables.{Tables}
use Rattle.c0_names.specs.Tables.{type_in, fields_of, value_type}
use Rattle.c0_names.specs.Types.{int, bool, struct_behind, pointed, fits, unary_type, binary_type, choice_type, prints_text, callee}

-- the types of the names that may be read
abbrev pub Look : Type 0
Look = List ℕ → Option ValueType

-- ---- operators and fields
abbrev pub unary_typed : UnaryOperator → Option ValueType → Option ValueType
unary_typed o None = None
unary_typed o (Some v) = unary_type o v

abbrev pub binary_typed : Operator → Option ValueType → Option ValueType → Option ValueType
binary_typed o None w = None
binary_typed o (Some v) None = None
binary_typed o (Some v) (Some w) = binary_type o v w

abbrev pub choice_typed : Option ValueType → Option ValueType → Option ValueType → Option ValueType
choice_typed None v w = None
choice_typed (Some c) None w = None
choice_typed (Some c) (Some v) None = None
choice_typed (Some c) (Some v) (Some w) = choice_type c v w

-- the field of this name of the struct behind a pointer
abbrev pub field_in : Tables → Option ℕ → List ℕ → Option ValueType
field_in t None name = None
field_in t (Some s) name = option_and_then (λ fs. type_in fs name) (fields_of t s)

abbrev pub arrow_typed : Tables → Option ValueType → List ℕ → Option ValueType
arrow_typed t None name = None
arrow_typed t (Some v) name = field_in t (pointed v) name

-- a pointer to the struct that is allocated, which is defined
abbrev pub allocated : Tables → Option ℕ → Option ValueType
allocated t None = None
allocated t (Some s) = if is_some (fields_of t s) then Some (Written (Struct s) 1) else None

-- an argument has a type, that of its parameter if it has one
abbrev pub argument_fits : Option ValueType → Option ValueType → Bool
argument_fits due None = false
argument_fits None (Some v) = true
argument_fits (Some due) (Some v) = fits due v

-- the parameters of a function; one that is not known has none
abbrev pub params_of : Option Signature → List ValueType
params_of None = []
params_of (Some s) = s.params

-- there is such a function, with so many parameters
abbrev pub takes : Option Signature → ℕ → Bool
takes None n = false
takes (Some s) n = eqb (length s.params) n

abbrev pub result_of : Option Signature → Option ValueType
result_of s = option_map (λ x. x.result) s

abbrev pub called : Option Signature → (fit : Bool) → (count : ℕ) → Option ValueType
called s fit count = if fit && takes s count then result_of s else None

abbrev pub count_of : ExprTrees → ℕ
count_of no_exprs = 0
count_of (expr_and e es) = suc (count_of es)

-- ---- expressions, where `\result` has the type `r`, or none outside the `ensures` of a function with a result
abbrev mutual
  pub type_of : Tables → Look → (r : Option ValueType) → ExprTree → Option ValueType
  type_of t look r (number s w) = Some int
  type_of t look r (truth s b) = Some bool
  type_of t look r (null s) = Some Null
  type_of t look r (local s n) = look n
  type_of t look r (outcome s) = r
  type_of t look r (unary s o x) = unary_typed o (type_of t look r x)
  type_of t look r (binary s o x y) = binary_typed o (type_of t look r x) (type_of t look r y)
  type_of t look r (choose s c x y) = choice_typed (type_of t look r c) (type_of t look r x) (type_of t look r y)
  type_of t look r (arrow s x n) = arrow_typed t (type_of t look r x) n.name
  type_of t look r (call s n es) = let f = callee t.functions n in called f (arguments_fit t look r (params_of f) 0 es) (count_of es)
  type_of t look r (call_text s n x) = if prints_text n then Some Void else None
  type_of t look r (alloc s n) = allocated t (struct_behind 0 (value_type t n))
  type_of t look r (acc s x a n) = option_map (λ v. bool) (arrow_typed t (type_of t look r x) n.name)

  -- whether the arguments from the number `i` on have the types of their parameters
  pub arguments_fit : Tables → Look → (r : Option ValueType) → (params : List ValueType) → (i : ℕ) → ExprTrees → Bool
  arguments_fit t look r ps i no_exprs = true
  arguments_fit t look r ps i (expr_and e es) = argument_fits (slice_get ps i) (type_of t look r e) && arguments_fit t look r ps (i + 1) es
