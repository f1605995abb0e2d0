-- The types of expressions, and the violations inside them. An expression with a violation inside gives no further one, and has no type.
-- Source: C0 Reference, "Types", "Expressions" and "Structs".
use Rattle.std.specs.Prelude.{ℕ, suc, ◌+◌, Bool, true, false, ◌&&◌, eqb, length, List, [], ◌∷◌, ◌++◌, Option, Some, None, is_some, slice_get, if◌then◌else◌}
use Rattle.std.specs.Option.{option_map, option_and_then}
use Rattle.gc0_base.specs.declared.place.Place.{Place}
use Rattle.parsed_tree.specs.declared.expressions.Base.{Base}
use Rattle.parsed_tree.specs.declared.expressions.Base.TheVariants as base
use Rattle.parsed_tree.specs.declared.expressions.TypeName.{TypeName}
use Rattle.parsed_tree.specs.declared.expressions.Named.{Named}
use Rattle.parsed_tree.specs.declared.expressions.UnaryOperator.{UnaryOperator}
use Rattle.parsed_tree.specs.declared.expressions.Operator.{Operator}
use Rattle.parsed_tree.specs.Tree.{ExprTree, number, truth, null, local, outcome, unary, binary, choose, arrow, call, call_text, alloc, acc, spot_of, ExprTrees, no_exprs, expr_and}
use Rattle.c0_names.specs.declared.types.BaseType.TheVariants.{Struct}
use Rattle.c0_names.specs.declared.types.ValueType.{ValueType}
use Rattle.c0_names.specs.declared.types.ValueType.TheVariants.{Written, Null, Void}
use Rattle.c0_value_rules.specs.declared.violation.Rule.TheVariants as rule
use Rattle.c0_value_rules.specs.declared.violation.Violation.{Violation}
use Rattle.c0_names.specs.declared.tables.Signature.{Signature}
use Rattle.c0_names.specs.declared.tables.Tables.{Tables}
use Rattle.c0_value_rules.specs.declared.scope.Scope.{Scope}
use Rattle.c0_value_rules.specs.Violations.{violation, unless}
use Rattle.c0_names.specs.Names.{last_place}
use Rattle.c0_names.specs.Tables.{type_in, fields_of, value_type}
use Rattle.c0_names.specs.Types.{int, bool, struct_behind, pointed, fits, unary_type, binary_type, choice_type, prints_text, callee}
use Rattle.c0_names.specs.Typing.{field_in, params_of, count_of, type_of, arguments_fit}
use Rattle.c0_value_rules.specs.Scopes.{is_read_well, read_type}

-- ---- the types of expressions, where `\result` has the type `r`, or none outside the `ensures` of a function with a result
abbrev pub type_here : Tables → Scope → (r : Option ValueType) → ExprTree → Option ValueType
type_here t scope r e = type_of t (read_type scope) r e

-- whether the arguments from the number `i` on have the types of their parameters
abbrev pub arguments_fit_here : Tables → Scope → (r : Option ValueType) → (params : List ValueType) → (i : ℕ) → ExprTrees → Bool
arguments_fit_here t scope r ps i es = arguments_fit t (read_type scope) r ps i es

-- ---- violations in expressions. That of an operand stands at the operator.
abbrev pub operand_violations : Place → UnaryOperator → Option ValueType → List Violation
operand_violations at o None = []
operand_violations at o (Some v) = unless (is_some (unary_type o v)) rule.WrongType at

abbrev pub operands_violations : Place → Operator → Option ValueType → Option ValueType → List Violation
operands_violations at o None w = []
operands_violations at o (Some v) None = []
operands_violations at o (Some v) (Some w) = unless (is_some (binary_type o v w)) rule.WrongType at

-- of a condition and two branches: at the `?`
abbrev pub branches_violations : Place → Option ValueType → Option ValueType → Option ValueType → List Violation
branches_violations at None v w = []
branches_violations at (Some c) None w = []
branches_violations at (Some c) (Some v) None = []
branches_violations at (Some c) (Some v) (Some w) = unless (is_some (choice_type c v w)) rule.WrongType at

-- a pointer to a struct stands before the `->`, and the struct has a field of the name behind it
abbrev pub field_violations : Tables → Place → Option ℕ → Named → List Violation
field_violations t at None n = violation rule.WrongType at ∷ []
field_violations t at (Some s) n = unless (is_some (field_in t (Some s) n.name)) rule.Unknown n.place

abbrev pub arrow_violations : Tables → Place → Option ValueType → Named → List Violation
arrow_violations t at None n = []
arrow_violations t at (Some v) n = field_violations t at (pointed v) n

-- a local that is read is in scope, and each path has assigned it
abbrev pub local_violations : Scope → Place → List ℕ → List Violation
local_violations scope at name = if is_some (last_place scope.names name) then unless (is_read_well scope name) rule.Unassigned at else (violation rule.Unknown at ∷ [])

-- the name of the struct that `alloc` names
abbrev pub struct_place : Place → Base → Place
struct_place at base.Int = at
struct_place at base.Bool = at
struct_place at (base.Struct n) = n.place
struct_place at (base.Alias n) = at

-- a struct is allocated, and it is defined
abbrev pub alloc_violations : Tables → TypeName → Option ℕ → List Violation
alloc_violations t n None = violation rule.WrongType n.place ∷ []
alloc_violations t n (Some s) = unless (is_some (fields_of t s)) rule.Unknown (struct_place n.place n.base)

-- where a value has a type, it may stand where this one is due
abbrev pub due_violations : Place → (due : ValueType) → Option ValueType → List Violation
due_violations at due None = []
due_violations at due (Some v) = unless (fits due v) rule.WrongType at

abbrev pub argument_violations : Place → (due : Option ValueType) → Option ValueType → List Violation
argument_violations at None v = []
argument_violations at (Some due) v = due_violations at due v

-- the called name is known, with a parameter for each argument
abbrev pub callee_violations : Place → Option Signature → (count : ℕ) → List Violation
callee_violations at None n = violation rule.Unknown at ∷ []
callee_violations at (Some s) n = unless (eqb (length s.params) n) rule.WrongCount at

-- where each argument has its parameter's type
abbrev pub counted_violations : (fit : Bool) → Place → Option Signature → (count : ℕ) → List Violation
counted_violations fit at f n = if fit then callee_violations at f n else []

abbrev mutual
  pub expr_violations : Tables → Scope → (r : Option ValueType) → ExprTree → List Violation
  expr_violations t scope r (number s w) = []
  expr_violations t scope r (truth s b) = []
  expr_violations t scope r (null s) = []
  expr_violations t scope r (local s n) = local_violations scope s.place n
  expr_violations t scope r (outcome s) = unless (is_some r) rule.Unknown s.place
  expr_violations t scope r (unary s o x) = expr_violations t scope r x ++ operand_violations s.place o (type_here t scope r x)
  expr_violations t scope r (binary s o x y) = expr_violations t scope r x ++ (expr_violations t scope r y ++ operands_violations s.place o (type_here t scope r x) (type_here t scope r y))
  expr_violations t scope r (choose s c x y) = expr_violations t scope r c ++ (expr_violations t scope r x ++ (expr_violations t scope r y ++ branches_violations s.place (type_here t scope r c) (type_here t scope r x) (type_here t scope r y)))
  expr_violations t scope r (arrow s x n) = expr_violations t scope r x ++ arrow_violations t s.place (type_here t scope r x) n
  expr_violations t scope r (call s n es) = let f = callee t.functions n in arguments_violations t scope r (params_of f) 0 es ++ counted_violations (arguments_fit_here t scope r (params_of f) 0 es) s.place f (count_of es)
  expr_violations t scope r (call_text s n x) = unless (prints_text n) rule.WrongType x.place
  expr_violations t scope r (alloc s n) = alloc_violations t n (struct_behind 0 (value_type t n))
  expr_violations t scope r (acc s x a n) = expr_violations t scope r x ++ arrow_violations t a (type_here t scope r x) n

  -- the arguments from the number `i` on: at the first token of each
  pub arguments_violations : Tables → Scope → (r : Option ValueType) → (params : List ValueType) → (i : ℕ) → ExprTrees → List Violation
  arguments_violations t scope r ps i no_exprs = []
  arguments_violations t scope r ps i (expr_and e es) = (expr_violations t scope r e ++ argument_violations (spot_of e).first (slice_get ps i) (type_here t scope r e)) ++ arguments_violations t scope r ps (i + 1) es

-- a call of a function, or an instance of a predicate
abbrev pub call_violations : Tables → Scope → (r : Option ValueType) → Place → Option Signature → ExprTrees → List Violation
call_violations t scope r at f es = arguments_violations t scope r (params_of f) 0 es ++ counted_violations (arguments_fit_here t scope r (params_of f) 0 es) at f (count_of es)

-- an expression of which a type is due: at its first token
abbrev pub value_violations : Tables → Scope → (r : Option ValueType) → (due : ValueType) → ExprTree → List Violation
value_violations t scope r due e = expr_violations t scope r e ++ due_violations (spot_of e).first due (type_here t scope r e)
