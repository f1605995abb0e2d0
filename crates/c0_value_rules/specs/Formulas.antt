-- The violations in formulas: contracts, invariants, asserts, and the bodies of predicates.
-- Source: the Gradual C0 paper, and C0 Reference, "Annotations".
use Rattle.std.specs.Prelude.{Bool, true, false, List, [], ◌∷◌, ◌++◌, Option, Some, None, if◌then◌else◌}
use Rattle.gc0_base.specs.declared.place.Place.{Place}
use Rattle.parsed_tree.specs.declared.expressions.Operator.{Operator}
use Rattle.parsed_tree.specs.declared.expressions.Operator.TheVariants as op
use Rattle.parsed_tree.specs.Tree.{ExprTree, binary, choose, call, FormulaTree, InstanceTree, NoteForm, assert_note, fold_note, unfold_note, NoteTree, InvariantTree, InvariantsTree}
use Rattle.c0_names.specs.declared.types.ValueType.{ValueType}
use Rattle.c0_value_rules.specs.declared.violation.Violation.{Violation}
use Rattle.c0_names.specs.declared.tables.Tables.{Tables}
use Rattle.c0_value_rules.specs.declared.scope.Scope.{Scope}
use Rattle.c0_names.specs.Tables.{signature_in}
use Rattle.c0_names.specs.Types.{bool}
use Rattle.c0_value_rules.specs.Expressions.{type_here, due_violations, expr_violations, call_violations, value_violations}

-- ---- formulas. A condition of a choice is an operand of its `?`, or of the `||` behind it.
abbrev pub operand_condition : Tables → Scope → (r : Option ValueType) → Place → ExprTree → List Violation
operand_condition t scope r at e = expr_violations t scope r e ++ due_violations at bool (type_here t scope r e)

-- `(a || b) || c` is `a || (b || c)`: two conditions
abbrev pub conditions_violations : Tables → Scope → (r : Option ValueType) → Place → ExprTree → List Violation
conditions_violations t scope r at (binary s op.Either x y) = conditions_violations t scope r s.place x ++ conditions_violations t scope r at y
conditions_violations t scope r at e = operand_condition t scope r at e

abbrev pub is_both : Operator → Bool
is_both op.Both = true
is_both o = false

abbrev pub is_either : Operator → Bool
is_either op.Either = true
is_either o = false

-- the conjuncts of `a && b` are those of `a` and those of `b`; those of a choice are those of its branches. Any other is an instance, or a truth
abbrev pub parts_violations : Tables → Scope → (r : Option ValueType) → ExprTree → List Violation
parts_violations t scope r (binary s o x y) =
    if is_both o then parts_violations t scope r x ++ parts_violations t scope r y else
    if is_either o then conditions_violations t scope r s.place x ++ parts_violations t scope r y else
    value_violations t scope r bool (binary s o x y)
parts_violations t scope r (choose s c x y) = operand_condition t scope r s.place c ++ (parts_violations t scope r x ++ parts_violations t scope r y)
parts_violations t scope r (call s n es) = call_violations t scope r s.place (signature_in t.predicates n) es
parts_violations t scope r e = value_violations t scope r bool e

abbrev pub optional_parts : Tables → Scope → (r : Option ValueType) → Option ExprTree → List Violation
optional_parts t scope r None = []
optional_parts t scope r (Some e) = parts_violations t scope r e

abbrev pub formula_violations : Tables → Scope → (r : Option ValueType) → FormulaTree → List Violation
formula_violations t scope r f = optional_parts t scope r f.parts

abbrev pub instance_violations : Tables → Scope → InstanceTree → List Violation
instance_violations t scope i = call_violations t scope None i.name.place (signature_in t.predicates i.name.name) i.arguments

abbrev pub form_violations : Tables → Scope → NoteForm → List Violation
form_violations t scope (assert_note f) = formula_violations t scope None f
form_violations t scope (fold_note i) = instance_violations t scope i
form_violations t scope (unfold_note i) = instance_violations t scope i

abbrev pub notes_violations : Tables → Scope → List NoteTree → List Violation
notes_violations t scope [] = []
notes_violations t scope (n ∷ ns) = form_violations t scope n.form ++ notes_violations t scope ns

abbrev pub clauses_violations : Tables → Scope → List InvariantTree → List Violation
clauses_violations t scope [] = []
clauses_violations t scope (i ∷ is) = formula_violations t scope None i.formula ++ clauses_violations t scope is

abbrev pub invariants_violations : Tables → Scope → List InvariantsTree → List Violation
invariants_violations t scope [] = []
invariants_violations t scope (i ∷ is) = clauses_violations t scope i.clauses ++ invariants_violations t scope is
