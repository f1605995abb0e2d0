-- The typing rules: all violations of a text, in reading order.
-- Source: C0 Reference, "Functions", "Structs", "Typedef" and "Scope"; of contracts, the Gradual C0 paper.
use Rattle.std.specs.Prelude.{ℕ, Bool, true, false, ◌&&◌, ◌||◌, not, eqb, fold, length, List, [], ◌∷◌, ◌++◌, Option, Some, None, is_some, if◌then◌else◌}
use Rattle.gc0_base.specs.declared.place.Place.{Place}
use Rattle.parsed_tree.specs.declared.expressions.Named.{Named}
use Rattle.parsed_tree.specs.declared.items.Field.{Field}
use Rattle.parsed_tree.specs.declared.items.Param.{Param}
use Rattle.parsed_tree.specs.declared.items.Side.{Side}
use Rattle.parsed_tree.specs.declared.items.Side.TheVariants as side
use Rattle.parsed_tree.specs.declared.items.ResultType.{ResultType}
use Rattle.parsed_tree.specs.declared.items.ResultType.TheVariants as result
use Rattle.parsed_tree.specs.declared.items.Head.{Head}
use Rattle.parsed_tree.specs.Tree.{ExprTree, number, truth, null, local, outcome, unary, binary, choose, arrow, call, call_text, alloc, acc, ExprTrees, no_exprs, expr_and, StmtTrees, ClauseTree, ContractTree, PredicateTree, ItemTree, struct_name, struct_item, typedef_item, prototype_item, function_item, predicates_item, ProgramTree}
use Rattle.c0_names.specs.declared.types.ValueType.{ValueType}
use Rattle.c0_value_rules.specs.declared.violation.Rule.TheVariants as rule
use Rattle.c0_value_rules.specs.declared.violation.Violation.{Violation}
use Rattle.c0_names.specs.declared.tables.TypedNames.{TypedNames}
use Rattle.c0_names.specs.declared.tables.Signature.{Signature}
use Rattle.c0_names.specs.declared.tables.Tables.{Tables}
use Rattle.c0_value_rules.specs.declared.scope.Standing.{Standing}
use Rattle.c0_value_rules.specs.declared.scope.Flow.{Flow}
use Rattle.c0_value_rules.specs.declared.scope.Scope.{Scope}
use Rattle.c0_value_rules.specs.Violations.{violation, unless}
use Rattle.c0_names.specs.Names.{last_place, names_with}
use Rattle.c0_names.specs.Tables.{signature_in, fields_of, value_type, result_type, head_signature, with_item, with_alias, with_predicate, with_first_type, no_types, struct_number, struct_names, tables_above, tables_of}
use Rattle.c0_names.specs.Types.{int, same_type, is_void, library}
use Rattle.c0_value_rules.specs.Scopes.{no_scope, scope_with}
use Rattle.c0_rules.specs.Behind.{stmts_behind}
use Rattle.c0_value_rules.specs.Formulas.{formula_violations, parts_violations}
use Rattle.c0_rules.specs.Statements.{held_violations, declared_violations, stmts_violations}

-- ---- heads and contracts
-- parameters are assigned, and fixed where `ensures` names them
abbrev pub param_behind : Tables → (fixed : List (List ℕ)) → Scope → Param → Scope
param_behind t fixed scope p = scope_with scope p.name.name (record { holds = value_type t p.typed; fixed = is_some (last_place fixed p.name.name) }) true

abbrev pub params_scope : Tables → (fixed : List (List ℕ)) → Scope → List Param → Scope
params_scope t fixed scope ps = fold (param_behind t fixed) scope ps

abbrev pub params_violations : Tables → (fixed : List (List ℕ)) → Scope → List Param → List Violation
params_violations t fixed scope [] = []
params_violations t fixed scope (p ∷ ps) = (held_violations t p.typed ++ declared_violations scope p.name) ++ params_violations t fixed (param_behind t fixed scope p) ps

abbrev pub result_violations : Tables → ResultType → List Violation
result_violations t (result.Void p) = []
result_violations t (result.Typed n) = held_violations t n

abbrev pub head_violations : Tables → (fixed : List (List ℕ)) → Head → List Violation
head_violations t fixed h = result_violations t h.result ++ params_violations t fixed no_scope h.params

-- the locals that a formula names
abbrev mutual
  pub expr_locals : ExprTree → List (List ℕ)
  expr_locals (number s w) = []
  expr_locals (truth s b) = []
  expr_locals (null s) = []
  expr_locals (local s n) = n ∷ []
  expr_locals (outcome s) = []
  expr_locals (unary s o x) = expr_locals x
  expr_locals (binary s o x y) = expr_locals x ++ expr_locals y
  expr_locals (choose s x y z) = expr_locals x ++ (expr_locals y ++ expr_locals z)
  expr_locals (arrow s x n) = expr_locals x
  expr_locals (call s n es) = exprs_locals es
  expr_locals (call_text s n x) = []
  expr_locals (alloc s n) = []
  expr_locals (acc s x a n) = expr_locals x

  pub exprs_locals : ExprTrees → List (List ℕ)
  exprs_locals no_exprs = []
  exprs_locals (expr_and e es) = expr_locals e ++ exprs_locals es

abbrev pub formula_locals : Option ExprTree → List (List ℕ)
formula_locals None = []
formula_locals (Some e) = expr_locals e

abbrev pub is_ensures : Side → Bool
is_ensures side.Requires = false
is_ensures side.Ensures = true

abbrev pub clause_locals : ClauseTree → List (List ℕ)
clause_locals c = if is_ensures c.side then formula_locals c.formula.parts else []

abbrev pub clauses_locals : List ClauseTree → List (List ℕ)
clauses_locals [] = []
clauses_locals (c ∷ cs) = clause_locals c ++ clauses_locals cs

abbrev pub contract_locals : List ContractTree → List (List ℕ)
contract_locals [] = []
contract_locals (c ∷ cs) = clauses_locals c.clauses ++ contract_locals cs

-- the names in the `ensures` of a function, each once
abbrev pub ensured : List ContractTree → List (List ℕ)
ensured cs = fold names_with [] (contract_locals cs)

-- `\result` stands in the `ensures` of a function with a result
abbrev pub outcome_in : (r : ValueType) → Side → Option ValueType
outcome_in r side.Requires = None
outcome_in r side.Ensures = if is_void r then None else Some r

abbrev pub sides_violations : Tables → Scope → (r : ValueType) → List ClauseTree → List Violation
sides_violations t scope r [] = []
sides_violations t scope r (c ∷ cs) = formula_violations t scope (outcome_in r c.side) c.formula ++ sides_violations t scope r cs

abbrev pub contract_violations : Tables → Scope → (r : ValueType) → List ContractTree → List Violation
contract_violations t scope r [] = []
contract_violations t scope r (c ∷ cs) = sides_violations t scope r c.clauses ++ contract_violations t scope r cs

-- ---- items
-- no path leads to the end of a function with a result
abbrev pub end_violations : Place → (r : ValueType) → Flow → List Violation
end_violations at r f = unless (is_void r || not f.live) rule.NoReturn at

-- behind its head
abbrev pub function_violations : Tables → Scope → (r : ValueType) → List ContractTree → StmtTrees → (close : Place) → List Violation
function_violations t scope r cs ss close = contract_violations t scope r cs ++ (stmts_violations t r scope ss ++ end_violations close r (stmts_behind t scope ss).flow)

-- the name of a library call is none of a function
abbrev pub library_violations : Named → List Violation
library_violations n = unless (not (is_some (library n.name))) rule.Twice n.place

-- a name is none of those that are defined above
abbrev pub second_violations : (above : List (List ℕ)) → Named → List Violation
second_violations names n = unless (not (is_some (last_place names n.name))) rule.Twice n.place

abbrev pub same_types : List ValueType → List ValueType → Bool
same_types [] [] = true
same_types [] (w ∷ ws) = false
same_types (v ∷ vs) [] = false
same_types (v ∷ vs) (w ∷ ws) = same_type v w && same_types vs ws

abbrev pub is_like : Signature → Option Signature → Bool
is_like s None = true
is_like s (Some d) = same_type s.result d.result && same_types s.params d.params

-- a prototype is like the first of its name, and like the definition
abbrev pub likeness_violations : Named → Signature → (first : Option Signature) → (definition : Option Signature) → List Violation
likeness_violations n s first definition = unless (is_like s first) rule.WrongType n.place ++ unless (is_like s definition) rule.WrongType n.place

abbrev pub fields_violations : Tables → TypedNames → List Field → List Violation
fields_violations t made [] = []
fields_violations t made (f ∷ fs) = (held_violations t f.typed ++ second_violations made.names f.name) ++ fields_violations t (with_first_type made f.name.name (value_type t f.typed)) fs

-- a predicate speaks of its parameters
abbrev pub predicate_violations : Tables → PredicateTree → List Violation
predicate_violations t q = params_violations t [] no_scope q.params ++ parts_violations t (params_scope t [] no_scope q.params) None q.body

abbrev pub predicates_violations : Tables → (above : Tables) → List PredicateTree → List Violation
predicates_violations t above [] = []
predicates_violations t above (q ∷ qs) = (second_violations above.predicates.names q.name ++ predicate_violations t q) ++ predicates_violations t (with_predicate above q) qs

-- an item, by the tables of the text with the typedefs above it, and those of the items above it
abbrev pub item_violations : Tables → (above : Tables) → ItemTree → List Violation
item_violations t above (struct_name p n) = []
item_violations t above (struct_item p n fs) = unless (not (is_some (fields_of above (struct_number above.structs n.name)))) rule.Twice n.place ++ fields_violations t no_types fs
item_violations t above (typedef_item p n name) = second_violations t.aliases.names name
item_violations t above (prototype_item h cs) = library_violations h.name ++ (head_violations t [] h ++ likeness_violations h.name (head_signature t h) (signature_in above.prototypes h.name.name) (signature_in t.functions h.name.name))
item_violations t above (function_item h cs ss e) =
    let r = result_type t h.result in
    library_violations h.name ++ (second_violations above.functions.names h.name ++ (head_violations t (ensured cs) h ++ function_violations t (params_scope t (ensured cs) no_scope h.params) r cs ss e))
item_violations t above (predicates_item p qs) = predicates_violations t above qs

-- functions, predicates and structs may stand below their uses; the typedefs come into the tables as the text goes on
abbrev pub items_violations : Tables → (above : Tables) → List ItemTree → List Violation
items_violations t above [] = []
items_violations t above (i ∷ is) = item_violations t above i ++ items_violations (with_alias t i) (with_item above i) is

-- `main`
abbrev pub main_name : List ℕ
main_name = 109 ∷ 97 ∷ 105 ∷ 110 ∷ []

abbrev pub start : Place
start = record { line = 1; column = 1 }

-- `int main()`
abbrev pub is_main : Option Signature → Bool
is_main None = false
is_main (Some s) = same_type s.result int && eqb (length s.params) 0

-- these, or if there are none, the others
abbrev pub or_others : List Violation → List Violation → List Violation
or_others [] ws = ws
or_others (v ∷ vs) ws = v ∷ vs

-- tables without their typedefs
abbrev pub unaliased : Tables → Tables
unaliased t = record t { aliases = no_types }

-- the tables of a text, without its typedefs
abbrev pub tables_before : ProgramTree → Tables
tables_before p = record (tables_of p) { aliases = no_types }

-- all violations of a text; that there is no `main` only where there is no other
abbrev pub violations : ProgramTree → List Violation
violations p = or_others (items_violations (tables_before p) (tables_above (struct_names p)) p.items) (unless (is_main (signature_in (tables_of p).functions main_name)) rule.NoMain start)
