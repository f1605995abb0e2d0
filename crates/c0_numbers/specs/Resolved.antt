-- The resolved tree of a text: numbers in place of names. It is meant for a text without violations; where a name is unknown it takes
-- the number 0. Structs are numbered in the order in which their names first stand after `struct`, predicates and functions in that of
-- their definitions, fields and locals in that of their declarations with the parameters first, and texts in that of their literals.
-- The numbers are this project's own.
use Rattle.std.specs.Prelude.{ℕ, length, List, [], ◌∷◌, ◌++◌, map, Option, Some, None, codes}
use Rattle.std.specs.List.{zip}
use Rattle.gc0_base.specs.declared.place.Place.{Place}
use Rattle.parsed_tree.specs.declared.items.Param.{Param}
use Rattle.parsed_tree.specs.declared.items.ResultType.{ResultType}
use Rattle.parsed_tree.specs.declared.items.ResultType.TheVariants as result
use Rattle.parsed_tree.specs.declared.items.Head.{Head}
use Rattle.parsed_tree.specs.declared.items.Side.TheVariants.{Requires, Ensures}
use Rattle.parsed_tree.specs.Tree.{StmtTrees, ContractTree, PredicateTree, ItemTree, struct_name, struct_item, typedef_item, prototype_item, function_item, predicates_item, ProgramTree}
use Rattle.gc0_tree.specs.declared.Shape.{Shape}
use Rattle.gc0_tree.specs.Tree as gc0
use Rattle.c0_names.specs.declared.types.ValueType.{ValueType}
use Rattle.c0_names.specs.declared.types.ValueType.TheVariants.{Void}
use Rattle.c0_names.specs.declared.tables.TypedNames.{TypedNames}
use Rattle.c0_names.specs.declared.tables.Tables.{Tables}
use Rattle.c0_value_numbers.specs.declared.frame.Frame.{Frame}
use Rattle.c0_names.specs.Tables.{no_types, with_type, value_type, result_type, tables_of}
use Rattle.c0_value_numbers.specs.Values.{number_in, shape_of}
use Rattle.c0_value_numbers.specs.Texts.{Texts}
use Rattle.c0_numbers.specs.StatementTexts.{stmts_texts, item_texts, items_texts}
use Rattle.c0_value_numbers.specs.Formulas.{joined, side_contracts, parts}
use Rattle.c0_numbers.specs.Statements.{stmts_frame, stmts_tree}

-- ---- names with their shapes
abbrev pub named_shape : List ℕ × ValueType → List ℕ × Shape
named_shape p = (p.0, shape_of p.1)

abbrev pub shapes_of : TypedNames → List (List ℕ × Shape)
shapes_of t = map named_shape (zip t.names t.types)

-- ---- structs; one that is not defined has no fields
abbrev pub field_shapes : Option TypedNames → List (List ℕ × Shape)
field_shapes None = []
field_shapes (Some fs) = shapes_of fs

abbrev pub struct_tree : List ℕ × Option TypedNames → gc0.Struct
struct_tree p = record { name = p.0; fields = field_shapes p.1 }

abbrev pub structs_tree : List (List ℕ) → List (Option TypedNames) → List gc0.Struct
structs_tree names fields = map struct_tree (zip names fields)

-- ---- predicates and functions
abbrev pub params_behind : Tables → TypedNames → List Param → TypedNames
params_behind t made [] = made
params_behind t made (p ∷ ps) = params_behind t (with_type made p.name.name (value_type t p.typed)) ps

abbrev pub params_of : Tables → List Param → TypedNames
params_of t ps = params_behind t no_types ps

abbrev pub predicate_tree : Tables → PredicateTree → gc0.Predicate
predicate_tree t q = let locals = params_of t q.params in record { name = q.name.name; params = shapes_of locals; body = parts t (record { locals = locals; result = Void }) q.body gc0.no_parts }

abbrev pub result_shape : Tables → ResultType → Option Shape
result_shape t (result.Void p) = None
result_shape t (result.Typed n) = Some (shape_of (value_type t n))

abbrev pub function_tree : Tables → Texts → Head → List ContractTree → StmtTrees → Place → gc0.Function
function_tree t ts h cs ss close =
    let start : Frame = record { locals = params_of t h.params; result = result_type t h.result } in
    record {
      name = h.name.name;
      place = h.name.place;
      close = close;
      params = length h.params;
      locals = shapes_of (stmts_frame t start ss).locals;
      result = result_shape t h.result;
      before = joined t start (side_contracts Requires cs);
      after = joined t start (side_contracts Ensures cs);
      body = stmts_tree t start ts ss;
    }

-- ---- items
abbrev pub item_predicates : Tables → ItemTree → List gc0.Predicate
item_predicates t (predicates_item p qs) = map (predicate_tree t) qs
item_predicates t _ = []

abbrev pub predicates_tree : Tables → List ItemTree → List gc0.Predicate
predicates_tree t [] = []
predicates_tree t (i ∷ is) = item_predicates t i ++ predicates_tree t is

abbrev pub item_functions : Tables → Texts → ItemTree → List gc0.Function
item_functions t ts (function_item h cs ss close) = function_tree t ts h cs ss close ∷ []
item_functions t ts _ = []

abbrev pub functions_tree : Tables → Texts → List ItemTree → List gc0.Function
functions_tree t ts [] = []
functions_tree t ts (i ∷ is) = item_functions t ts i ++ functions_tree t (item_texts ts i) is

-- the tree by the tables of its text
abbrev pub numbered_by : Tables → ProgramTree → gc0.Program
numbered_by t p = record { structs = structs_tree t.structs t.fields; predicates = predicates_tree t p.items; functions = functions_tree t [] p.items; main = number_in t.functions.names (codes "main"); texts = items_texts [] p.items }

-- the resolved program
abbrev pub resolved : ProgramTree → gc0.Program
resolved p = numbered_by (tables_of p) p
