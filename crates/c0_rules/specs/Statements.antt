-- The violations in statements.
-- Source: C0 Reference, "Statements", "Scope" and "Initialization".
use Rattle.std.specs.Prelude.{ℕ, Bool, true, false, ◌&&◌, not, List, [], ◌∷◌, ◌++◌, Option, Some, None, is_some, if◌then◌else◌}
use Rattle.gc0_base.specs.declared.place.Place.{Place}
use Rattle.parsed_tree.specs.declared.expressions.TypeName.{TypeName}
use Rattle.parsed_tree.specs.declared.expressions.Named.{Named}
use Rattle.parsed_tree.specs.Tree.{ExprTree, local, spot_of, SimpleTree, declare, assign, stepped, plain, StmtTree, simple_stmt, block_stmt, if_stmt, while_stmt, for_stmt, return_stmt, assert_stmt, error_stmt, notes_stmt, StmtTrees, no_stmts, stmt_and}
use Rattle.c0_names.specs.declared.types.ValueType.{ValueType}
use Rattle.c0_value_rules.specs.declared.violation.Rule.TheVariants as rule
use Rattle.c0_value_rules.specs.declared.violation.Violation.{Violation}
use Rattle.c0_names.specs.declared.tables.Tables.{Tables}
use Rattle.c0_value_rules.specs.declared.scope.Standing.{Standing}
use Rattle.c0_value_rules.specs.declared.scope.Scope.{Scope}
use Rattle.c0_value_rules.specs.Violations.{violation, unless}
use Rattle.c0_names.specs.Names.{last_place}
use Rattle.c0_names.specs.Tables.{value_type}
use Rattle.c0_names.specs.Types.{int, bool, is_int, is_void, is_held, fits}
use Rattle.c0_value_rules.specs.Scopes.{standing_of, held_type, read_type, closed}
use Rattle.c0_rules.specs.Behind.{part_behind, stmt_behind}
use Rattle.c0_value_rules.specs.Expressions.{type_here, local_violations, due_violations, expr_violations, value_violations}
use Rattle.c0_value_rules.specs.Formulas.{notes_violations, invariants_violations}

-- ---- statements
-- a local, a field, a parameter and a result hold an int, a truth or a pointer to a struct: at the first token of the type
abbrev pub held_violations : Tables → TypeName → List Violation
held_violations t n = unless (is_held (value_type t n)) rule.WrongType n.place

-- a declared name is not that of a local in scope
abbrev pub declared_violations : Scope → Named → List Violation
declared_violations scope n = unless (not (is_some (last_place scope.names n.name))) rule.Twice n.place

abbrev pub right_violations : Tables → Scope → (due : ValueType) → Option (Place × ExprTree) → List Violation
right_violations t scope due None = []
right_violations t scope due (Some v) = expr_violations t scope None v.1 ++ due_violations v.0 due (type_here t scope None v.1)

-- an assigned name is that of a local, and of no parameter that `ensures` names; `op=`, `++` and `--` read it too
abbrev pub standing_violations : Place → Option Standing → List Violation
standing_violations at None = violation rule.Unknown at ∷ []
standing_violations at (Some s) = unless (not s.fixed) rule.AssignedInEnsures at

abbrev pub local_target : Scope → (reads : Bool) → Place → List ℕ → List Violation
local_target scope reads at name = standing_violations at (standing_of scope name) ++ (if reads then local_violations scope at name else [])

abbrev pub target_violations : Tables → Scope → (reads : Bool) → ExprTree → List Violation
target_violations t scope reads (local s n) = local_target scope reads s.place n
target_violations t scope reads e = expr_violations t scope None e

abbrev pub local_target_type : Scope → (reads : Bool) → List ℕ → Option ValueType
local_target_type scope reads name = if reads then read_type scope name else held_type scope name

abbrev pub target_type : Tables → Scope → (reads : Bool) → ExprTree → Option ValueType
target_type t scope reads (local s n) = local_target_type scope reads n
target_type t scope reads e = type_here t scope None e

-- `=` takes a value of the target's type, and the others two ints: at that operator
abbrev pub suits : (reads : Bool) → ValueType → ValueType → Bool
suits reads due v = if reads then is_int due && is_int v else fits due v

abbrev pub assigned_violations : Place → (reads : Bool) → Option ValueType → Option ValueType → List Violation
assigned_violations at reads None v = []
assigned_violations at reads (Some due) None = []
assigned_violations at reads (Some due) (Some v) = unless (suits reads due v) rule.WrongType at

abbrev pub simple_violations : Tables → Scope → SimpleTree → List Violation
simple_violations t scope (declare n name v) = held_violations t n ++ (declared_violations scope name ++ right_violations t scope (value_type t n) v)
simple_violations t scope (assign x q o y) = target_violations t scope (is_some o) x ++ (expr_violations t scope None y ++ assigned_violations q (is_some o) (target_type t scope (is_some o) x) (type_here t scope None y))
simple_violations t scope (stepped x q o) = target_violations t scope true x ++ due_violations q int (target_type t scope true x)
simple_violations t scope (plain e) = expr_violations t scope None e

abbrev pub part_violations : Tables → Scope → Option SimpleTree → List Violation
part_violations t scope None = []
part_violations t scope (Some s) = simple_violations t scope s

-- a result of the function's type is returned, if the function has one: of another type at its first token, missing or not due at `return`
abbrev pub returned_violations : Place → Place → (r : ValueType) → Option ValueType → List Violation
returned_violations at first r None = []
returned_violations at first r (Some v) = if is_void r then (violation rule.WrongType at ∷ []) else unless (fits r v) rule.WrongType first

abbrev pub return_violations : Tables → Scope → Place → (r : ValueType) → Option ExprTree → List Violation
return_violations t scope at r None = unless (is_void r) rule.WrongType at
return_violations t scope at r (Some e) = expr_violations t scope None e ++ returned_violations at (spot_of e).first r (type_here t scope None e)

abbrev mutual
  -- the statements of a function with the result `r`
  pub stmt_violations : Tables → (r : ValueType) → Scope → StmtTree → List Violation
  stmt_violations t r scope (simple_stmt s) = simple_violations t scope s
  stmt_violations t r scope (block_stmt p ss) = stmts_violations t r scope ss
  stmt_violations t r scope (if_stmt p e s os) = value_violations t scope None bool e ++ (stmt_violations t r scope s ++ stmts_violations t r scope os)
  stmt_violations t r scope (while_stmt p e is s) = value_violations t scope None bool e ++ (invariants_violations t scope is ++ stmt_violations t r scope s)
  -- `for (a; c; b) s` is `{ a; while (c) { s b; } }`
  stmt_violations t r scope (for_stmt p a e b is s) =
      let inner = part_behind t scope a in
      part_violations t scope a ++ (value_violations t inner None bool e ++ (invariants_violations t inner is ++ (stmt_violations t r inner s ++ part_violations t (closed inner (stmt_behind t inner s)) b)))
  stmt_violations t r scope (return_stmt p e) = return_violations t scope p r e
  stmt_violations t r scope (assert_stmt p e) = value_violations t scope None bool e
  stmt_violations t r scope (error_stmt p x) = []
  stmt_violations t r scope (notes_stmt p ns) = notes_violations t scope ns

  pub stmts_violations : Tables → (r : ValueType) → Scope → StmtTrees → List Violation
  stmts_violations t r scope no_stmts = []
  stmts_violations t r scope (stmt_and s ss) = stmt_violations t r scope s ++ stmts_violations t r (stmt_behind t scope s) ss
