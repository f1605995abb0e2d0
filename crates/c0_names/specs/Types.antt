-- The types of values, and what the operators take and give.
-- Source: C0 Reference, "Types" and "Expressions".
use Rattle.std.specs.Prelude.{ℕ, Bool, true, false, ◌&&◌, ◌||◌, eqb, nat_lt, List, [], ◌∷◌, Option, Some, None, is_some, if◌then◌else◌}
use Rattle.std.specs.Option.{option_map, unwrap_or}
use Rattle.parsed_tree.specs.declared.expressions.UnaryOperator.{UnaryOperator}
use Rattle.parsed_tree.specs.declared.expressions.UnaryOperator.TheVariants as sign
use Rattle.parsed_tree.specs.declared.expressions.Operator.{Operator}
use Rattle.parsed_tree.specs.declared.expressions.Operator.TheVariants as op
use Rattle.gc0_tree.specs.declared.LibraryCall.{LibraryCall}
use Rattle.gc0_tree.specs.declared.LibraryCall.TheVariants.{PrintInt, PrintBool, Print, PrintLine, ReadInt, MoreInt}
use Rattle.gc0_tree.specs.Calls.{library_named, takes_text}
use Rattle.c0_names.specs.declared.types.BaseType.{BaseType}
use Rattle.c0_names.specs.declared.types.BaseType.TheVariants.{Int, Bool as Truth, Struct}
use Rattle.c0_names.specs.declared.types.ValueType.{ValueType}
use Rattle.c0_names.specs.declared.types.ValueType.TheVariants.{Written, Null, Void, Text}
use Rattle.c0_names.specs.declared.tables.Signature.{Signature}
use Rattle.c0_names.specs.declared.tables.Callables.{Callables}
use Rattle.c0_names.specs.Tables.{signature_in}

abbrev pub int : ValueType
int = Written Int 0

abbrev pub bool : ValueType
bool = Written Truth 0

abbrev pub same_base : BaseType → BaseType → Bool
same_base Int Int = true
same_base Int Truth = false
same_base Int (Struct n) = false
same_base Truth Int = false
same_base Truth Truth = true
same_base Truth (Struct n) = false
same_base (Struct m) Int = false
same_base (Struct m) Truth = false
same_base (Struct m) (Struct n) = eqb m n

abbrev pub same_type : ValueType → ValueType → Bool
same_type (Written b m) (Written c n) = same_base b c && eqb m n
same_type (Written b m) Null = false
same_type (Written b m) Void = false
same_type (Written b m) Text = false
same_type Null v = false
same_type Void (Written c n) = false
same_type Void Null = false
same_type Void Void = true
same_type Void Text = false
same_type Text v = false

abbrev pub is_int : ValueType → Bool
is_int v = same_type v int

abbrev pub is_truth : ValueType → Bool
is_truth v = same_type v bool

abbrev pub is_void : ValueType → Bool
is_void v = same_type v Void

abbrev pub is_pointer : ValueType → Bool
is_pointer (Written b n) = nat_lt 0 n
is_pointer Null = true
is_pointer Void = false
is_pointer Text = false

abbrev pub struct_in : BaseType → Option ℕ
struct_in Int = None
struct_in Truth = None
struct_in (Struct s) = Some s

-- the struct that such a type is, where so many `*` make it one
abbrev pub struct_behind : (stars : ℕ) → ValueType → Option ℕ
struct_behind stars (Written b n) = if eqb n stars then struct_in b else None
struct_behind stars Null = None
struct_behind stars Void = None
struct_behind stars Text = None

-- the struct to which a pointer points
abbrev pub pointed : ValueType → Option ℕ
pointed v = struct_behind 1 v

-- what a local, a field, a parameter and a result may be: an int, a truth, or a pointer to a struct
abbrev pub is_held : ValueType → Bool
is_held v = is_int v || (is_truth v || is_some (pointed v))

-- a value of this type may stand where that one is due: `NULL` fits every pointer
abbrev pub fits : (due : ValueType) → ValueType → Bool
fits due Null = is_pointer due
fits due (Written b n) = same_type due (Written b n)
fits due Void = false
fits due Text = false

-- the common type of two ints, two truths, or two pointers to one struct; `NULL` fits every pointer, and two `NULL`s fit each other
abbrev pub common : ValueType → ValueType → Option ValueType
common Null w = if is_pointer w then Some w else None
common (Written b m) (Written c n) = if is_held (Written b m) && same_type (Written b m) (Written c n) then Some (Written b m) else None
common (Written b m) Null = if is_pointer (Written b m) then Some (Written b m) else None
common (Written b m) Void = None
common (Written b m) Text = None
common Void w = None
common Text w = None

-- ---- operators
abbrev pub of_int : (made : ValueType) → ValueType → Option ValueType
of_int made v = if is_int v then Some made else None

abbrev pub of_truth : ValueType → Option ValueType
of_truth v = if is_truth v then Some bool else None

-- `- ~` take an int, and `!` a truth
abbrev pub unary_type : UnaryOperator → ValueType → Option ValueType
unary_type sign.Negate v = of_int int v
unary_type sign.Not v = of_int int v
unary_type sign.Flip v = of_truth v

abbrev pub of_ints : (made : ValueType) → ValueType → ValueType → Option ValueType
of_ints made v w = if is_int v && is_int w then Some made else None

abbrev pub of_truths : ValueType → ValueType → Option ValueType
of_truths v w = if is_truth v && is_truth w then Some bool else None

abbrev pub of_equals : ValueType → ValueType → Option ValueType
of_equals v w = if is_some (common v w) then Some bool else None

-- arithmetic, bits and orders take ints, `&& ||` truths, and `== !=` two of a common type
abbrev pub binary_type : Operator → ValueType → ValueType → Option ValueType
binary_type op.Mul v w = of_ints int v w
binary_type op.Div v w = of_ints int v w
binary_type op.Rem v w = of_ints int v w
binary_type op.Add v w = of_ints int v w
binary_type op.Sub v w = of_ints int v w
binary_type op.Shl v w = of_ints int v w
binary_type op.Shr v w = of_ints int v w
binary_type op.Less v w = of_ints bool v w
binary_type op.LessEq v w = of_ints bool v w
binary_type op.Greater v w = of_ints bool v w
binary_type op.GreaterEq v w = of_ints bool v w
binary_type op.Equal v w = of_equals v w
binary_type op.NotEqual v w = of_equals v w
binary_type op.And v w = of_ints int v w
binary_type op.Xor v w = of_ints int v w
binary_type op.Or v w = of_ints int v w
binary_type op.Both v w = of_truths v w
binary_type op.Either v w = of_truths v w

-- `c ? a : b` takes a truth and two of a common type
abbrev pub choice_type : ValueType → ValueType → ValueType → Option ValueType
choice_type c v w = if is_truth c then common v w else None

-- ---- calls. The six library calls are always known.
abbrev pub takes_to : List ValueType → ValueType → Signature
takes_to ps r = record { params = ps; result = r }

-- what a library call takes and gives
abbrev pub library_signature : LibraryCall → Signature
library_signature PrintInt = takes_to (int ∷ []) Void
library_signature PrintBool = takes_to (bool ∷ []) Void
library_signature Print = takes_to (Text ∷ []) Void
library_signature PrintLine = takes_to (Text ∷ []) Void
library_signature ReadInt = takes_to [] int
library_signature MoreInt = takes_to [] bool

abbrev pub library : List ℕ → Option Signature
library name = option_map library_signature (library_named name)

-- the name of a call that takes a string
abbrev pub prints_text : List ℕ → Bool
prints_text name = unwrap_or (option_map takes_text (library_named name)) false

abbrev pub or_else : Option Signature → Option Signature → Option Signature
or_else None t = t
or_else (Some s) t = Some s

-- what a called name stands for
abbrev pub callee : Callables → List ℕ → Option Signature
callee functions name = or_else (library name) (signature_in functions name)
