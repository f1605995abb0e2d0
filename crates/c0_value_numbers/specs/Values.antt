-- Shapes, numbers and fields. Where a name is unknown or a value has no type, each definition says what it takes.
-- Source: C0 Reference, "Types" and "Expressions".
use Rattle.std.specs.Prelude.{ℕ, ◌==◌, Bool, List, Option, Some, None, if◌then◌else◌}
use Rattle.std.specs.Option.{option_and_then, unwrap_or}
use Rattle.parsed_tree.specs.Tree.{ExprTree, ExprTrees}
use Rattle.gc0_tree.specs.declared.Shape.{Shape}
use Rattle.gc0_tree.specs.declared.Shape.TheVariants as shape
use Rattle.c0_names.specs.declared.types.BaseType.{BaseType}
use Rattle.c0_names.specs.declared.types.BaseType.TheVariants as plain_type
use Rattle.c0_names.specs.declared.types.ValueType.{ValueType}
use Rattle.c0_names.specs.declared.types.ValueType.TheVariants.{Written, Null, Void, Text}
use Rattle.c0_names.specs.declared.tables.TypedNames.{TypedNames}
use Rattle.c0_names.specs.declared.tables.Tables.{Tables}
use Rattle.c0_value_numbers.specs.declared.frame.Frame.{Frame}
use Rattle.c0_value_numbers.specs.declared.values.FieldPlace.{FieldPlace}
use Rattle.c0_names.specs.Names.{last_place}
use Rattle.c0_names.specs.Tables.{type_in, fields_of}
use Rattle.c0_names.specs.Types.{pointed}
use Rattle.c0_names.specs.Typing.{type_of, arguments_fit}

-- ---- shapes: `int`, `bool`, and pointers to structs. No other type stands beside a name; it would have the shape of NULL.
abbrev pub base_shape : BaseType → ℕ → Shape
base_shape plain_type.Int stars = if stars == 0 then shape.Int else shape.Null
base_shape plain_type.Bool stars = if stars == 0 then shape.Bool else shape.Null
base_shape (plain_type.Struct k) stars = if stars == 1 then shape.Pointer k else shape.Null

abbrev pub shape_of : ValueType → Shape
shape_of (Written b stars) = base_shape b stars
shape_of Null = shape.Null
shape_of Void = shape.Null
shape_of Text = shape.Null

-- ---- names: the number 0 and no type, where a name is unknown
abbrev pub number_in : List (List ℕ) → List ℕ → ℕ
number_in names name = unwrap_or (last_place names name) 0

-- ---- fields
-- a field of the struct of number `k`, whose fields are these
abbrev pub field_of : ℕ → Option TypedNames → List ℕ → FieldPlace
field_of k None name = record { of_struct = k; field = 0 }
field_of k (Some fs) name = record { of_struct = k; field = number_in fs.names name }

abbrev pub field_at : Tables → Option ℕ → List ℕ → FieldPlace
field_at t None name = record { of_struct = 0; field = 0 }
field_at t (Some k) name = field_of k (fields_of t k) name

-- the field that `->` reads behind a value of this type
abbrev pub accessed : Tables → Option ValueType → List ℕ → FieldPlace
accessed t v name = field_at t (option_and_then pointed v) name

-- ---- the types of expressions, where the locals of a frame may be read
abbrev pub type_in_frame : Tables → Frame → ExprTree → Option ValueType
type_in_frame t f e = type_of t (type_in f.locals) (Some f.result) e

-- whether the arguments from the number `i` on have the types of their parameters
abbrev pub arguments_fit_in_frame : Tables → Frame → (params : List ValueType) → (i : ℕ) → ExprTrees → Bool
arguments_fit_in_frame t f ps i es = arguments_fit t (type_in f.locals) (Some f.result) ps i es
