-- The tables of a text: what the names of its items stand for, and the numbers of its structs.
-- Source: C0 Reference, "Structs", "Typedef" and "Functions"; the numbers are this project's own.
use Rattle.std.specs.Prelude.{ℕ, ◌+◌, List, [], ◌∷◌, ◌++◌, fold, map, length, Option, Some, None, is_some, slice_get, slice_set, if◌then◌else◌}
use Rattle.std.specs.Option.{option_and_then, unwrap_or}
use Rattle.gc0_base.specs.declared.place.Place.{Place}
use Rattle.parsed_tree.specs.declared.expressions.Base.{Base}
use Rattle.parsed_tree.specs.declared.expressions.Base.TheVariants as base
use Rattle.parsed_tree.specs.declared.expressions.TypeName.{TypeName}
use Rattle.parsed_tree.specs.declared.items.Field.{Field}
use Rattle.parsed_tree.specs.declared.items.Param.{Param}
use Rattle.parsed_tree.specs.declared.items.ResultType.{ResultType}
use Rattle.parsed_tree.specs.declared.items.ResultType.TheVariants as result
use Rattle.parsed_tree.specs.declared.items.Head.{Head}
use Rattle.parsed_tree.specs.Tree.{ExprTree, number, truth, null, local, outcome, unary, binary, choose, arrow, call, call_text, alloc, acc, ExprTrees, no_exprs, expr_and, SimpleTree, declare, assign, stepped, plain, StmtTree, simple_stmt, block_stmt, if_stmt, while_stmt, for_stmt, return_stmt, assert_stmt, error_stmt, notes_stmt, StmtTrees, no_stmts, stmt_and, PredicateTree, ItemTree, struct_name, struct_item, typedef_item, prototype_item, function_item, predicates_item, ProgramTree}
use Rattle.c0_names.specs.declared.types.BaseType.TheVariants as plain_type
use Rattle.c0_names.specs.declared.types.ValueType.{ValueType}
use Rattle.c0_names.specs.declared.types.ValueType.TheVariants.{Written, Null, Void, Text}
use Rattle.c0_names.specs.declared.tables.TypedNames.{TypedNames}
use Rattle.c0_names.specs.declared.tables.Signature.{Signature}
use Rattle.c0_names.specs.declared.tables.Callables.{Callables}
use Rattle.c0_names.specs.declared.tables.Tables.{Tables}
use Rattle.c0_names.specs.Names.{last_place, names_with}

-- ---- the names that stand after `struct`, in the order of the text. No formula has one, by the grammar.
abbrev pub base_structs : Base → List (List ℕ)
base_structs base.Int = []
base_structs base.Bool = []
base_structs (base.Struct n) = n.name ∷ []
base_structs (base.Alias n) = []

abbrev pub type_structs : TypeName → List (List ℕ)
type_structs t = base_structs t.base

abbrev mutual
  pub expr_structs : ExprTree → List (List ℕ)
  expr_structs (number s w) = []
  expr_structs (truth s b) = []
  expr_structs (null s) = []
  expr_structs (local s n) = []
  expr_structs (outcome s) = []
  expr_structs (unary s o x) = expr_structs x
  expr_structs (binary s o x y) = expr_structs x ++ expr_structs y
  expr_structs (choose s x y z) = expr_structs x ++ (expr_structs y ++ expr_structs z)
  expr_structs (arrow s x n) = expr_structs x
  expr_structs (call s n xs) = exprs_structs xs
  expr_structs (call_text s n t) = []
  expr_structs (alloc s t) = type_structs t
  expr_structs (acc s x p n) = expr_structs x

  pub exprs_structs : ExprTrees → List (List ℕ)
  exprs_structs no_exprs = []
  exprs_structs (expr_and x xs) = expr_structs x ++ exprs_structs xs

abbrev pub optional_structs : Option ExprTree → List (List ℕ)
optional_structs None = []
optional_structs (Some e) = expr_structs e

abbrev pub value_structs : Option (Place × ExprTree) → List (List ℕ)
value_structs None = []
value_structs (Some v) = expr_structs v.1

abbrev pub simple_structs : SimpleTree → List (List ℕ)
simple_structs (declare t n v) = type_structs t ++ value_structs v
simple_structs (assign x q o y) = expr_structs x ++ expr_structs y
simple_structs (stepped x q o) = expr_structs x
simple_structs (plain x) = expr_structs x

abbrev pub part_structs : Option SimpleTree → List (List ℕ)
part_structs None = []
part_structs (Some s) = simple_structs s

abbrev mutual
  pub stmt_structs : StmtTree → List (List ℕ)
  stmt_structs (simple_stmt s) = simple_structs s
  stmt_structs (block_stmt p ss) = stmts_structs ss
  stmt_structs (if_stmt p e s os) = expr_structs e ++ (stmt_structs s ++ stmts_structs os)
  stmt_structs (while_stmt p e is s) = expr_structs e ++ stmt_structs s
  stmt_structs (for_stmt p a e b is s) = part_structs a ++ (expr_structs e ++ (part_structs b ++ stmt_structs s))
  stmt_structs (return_stmt p e) = optional_structs e
  stmt_structs (assert_stmt p e) = expr_structs e
  stmt_structs (error_stmt p t) = []
  stmt_structs (notes_stmt p ns) = []

  pub stmts_structs : StmtTrees → List (List ℕ)
  stmts_structs no_stmts = []
  stmts_structs (stmt_and s ss) = stmt_structs s ++ stmts_structs ss

abbrev pub fields_structs : List Field → List (List ℕ)
fields_structs [] = []
fields_structs (f ∷ fs) = type_structs f.typed ++ fields_structs fs

abbrev pub params_structs : List Param → List (List ℕ)
params_structs [] = []
params_structs (p ∷ ps) = type_structs p.typed ++ params_structs ps

abbrev pub result_structs : ResultType → List (List ℕ)
result_structs (result.Void p) = []
result_structs (result.Typed t) = type_structs t

abbrev pub head_structs : Head → List (List ℕ)
head_structs h = result_structs h.result ++ params_structs h.params

abbrev pub predicates_structs : List PredicateTree → List (List ℕ)
predicates_structs [] = []
predicates_structs (q ∷ qs) = params_structs q.params ++ predicates_structs qs

abbrev pub item_structs : ItemTree → List (List ℕ)
item_structs (struct_name p n) = n.name ∷ []
item_structs (struct_item p n fs) = n.name ∷ fields_structs fs
item_structs (typedef_item p t n) = type_structs t
item_structs (prototype_item h cs) = head_structs h
item_structs (function_item h cs ss e) = head_structs h ++ stmts_structs ss
item_structs (predicates_item p qs) = predicates_structs qs

abbrev pub items_structs : List ItemTree → List (List ℕ)
items_structs [] = []
items_structs (i ∷ is) = item_structs i ++ items_structs is

-- each name once, where it first stands: its place here is the struct's number
abbrev pub struct_names : ProgramTree → List (List ℕ)
struct_names p = fold names_with [] (items_structs p.items)

-- the number of a struct; a name that stands nowhere has none, and gets the number of all
abbrev pub struct_number : List (List ℕ) → List ℕ → ℕ
struct_number structs name = unwrap_or (last_place structs name) (length structs)

-- ---- the type that stands beside a name
abbrev pub type_in : TypedNames → List ℕ → Option ValueType
type_in t name = option_and_then (slice_get t.types) (last_place t.names name)

abbrev pub signature_in : Callables → List ℕ → Option Signature
signature_in c name = option_and_then (slice_get c.signatures) (last_place c.names name)

abbrev pub with_type : TypedNames → List ℕ → ValueType → TypedNames
with_type t name v = record { names = t.names ++ name ∷ []; types = t.types ++ v ∷ [] }

-- a second one of a name does not count
abbrev pub with_first_type : TypedNames → List ℕ → ValueType → TypedNames
with_first_type t name v = if is_some (last_place t.names name) then t else with_type t name v

abbrev pub with_signature : Callables → List ℕ → Signature → Callables
with_signature c name s = if is_some (last_place c.names name) then c else record { names = c.names ++ name ∷ []; signatures = c.signatures ++ s ∷ [] }

-- ---- the types that a text writes. The last typedef of a name above counts, and resolves through; by the grammar there is one.
abbrev pub stars : ValueType → ℕ → ValueType
stars (Written b m) n = Written b (m + n)
stars Null n = Null
stars Void n = Void
stars Text n = Text

abbrev pub base_type : Tables → Base → ValueType
base_type t base.Int = Written plain_type.Int 0
base_type t base.Bool = Written plain_type.Bool 0
base_type t (base.Struct n) = Written (plain_type.Struct (struct_number t.structs n.name)) 0
base_type t (base.Alias n) = unwrap_or (type_in t.aliases n) Void

abbrev pub value_type : Tables → TypeName → ValueType
value_type t n = stars (base_type t n.base) n.stars

abbrev pub result_type : Tables → ResultType → ValueType
result_type t (result.Void p) = Void
result_type t (result.Typed n) = value_type t n

abbrev pub param_types : Tables → List Param → List ValueType
param_types t ps = map (λ p. value_type t p.typed) ps

abbrev pub head_signature : Tables → Head → Signature
head_signature t h = record { params = param_types t h.params; result = result_type t h.result }

-- ---- the tables behind each item. Of structs, functions and predicates the first definition of a name counts.
abbrev pub no_types : TypedNames
no_types = record { names = []; types = [] }

abbrev pub fields_behind : Tables → TypedNames → List Field → TypedNames
fields_behind t made [] = made
fields_behind t made (f ∷ fs) = fields_behind t (with_first_type made f.name.name (value_type t f.typed)) fs

-- the fields of a struct by its number; none where it is not defined
abbrev pub fields_of : Tables → ℕ → Option TypedNames
fields_of t n = option_and_then (λ f. f) (slice_get t.fields n)

abbrev pub with_fields : Tables → ℕ → TypedNames → Tables
with_fields t n fs = if is_some (fields_of t n) then t else record t { fields = slice_set t.fields n (Some fs) }

abbrev pub with_predicate : Tables → PredicateTree → Tables
with_predicate t q = record t { predicates = with_signature t.predicates q.name.name (record { params = param_types t q.params; result = Void }) }

abbrev pub with_item : Tables → ItemTree → Tables
with_item t (struct_name p n) = t
with_item t (struct_item p n fs) = with_fields t (struct_number t.structs n.name) (fields_behind t no_types fs)
with_item t (typedef_item p n name) = record t { aliases = with_type t.aliases name.name (value_type t n) }
with_item t (prototype_item h cs) = record t { prototypes = with_signature t.prototypes h.name.name (head_signature t h) }
with_item t (function_item h cs ss e) = record t { functions = with_signature t.functions h.name.name (head_signature t h) }
with_item t (predicates_item p qs) = fold with_predicate t qs

-- the typedefs alone come into tables
abbrev pub with_alias : Tables → ItemTree → Tables
with_alias t (struct_name p n) = t
with_alias t (struct_item p n fs) = t
with_alias t (typedef_item p n name) = record t { aliases = with_type t.aliases name.name (value_type t n) }
with_alias t (prototype_item h cs) = t
with_alias t (function_item h cs ss e) = t
with_alias t (predicates_item p qs) = t

abbrev pub no_callables : Callables
no_callables = record { names = []; signatures = [] }

-- no item stands above the first
abbrev pub tables_above : List (List ℕ) → Tables
tables_above structs = record { structs = structs; fields = map (λ n. None) structs; aliases = no_types; prototypes = no_callables; functions = no_callables; predicates = no_callables }

-- the tables of a whole text
abbrev pub tables_of : ProgramTree → Tables
tables_of p = fold with_item (tables_above (struct_names p)) p.items
