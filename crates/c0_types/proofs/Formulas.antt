-- Formulas without violations fit: each conjunct is a truth, an access or an instance.
use Rattle.std.proofs.Common.{◌≡◌, ℕ, ◌+◌, true, eqb, List, [], ◌∷◌, ◌++◌, length, Option, Some, None, is_some, slice_get, refl, sym, subst, ap, arith, eqb-true}
use Rattle.gc0_base.specs.declared.place.Place.{Place}
use Rattle.parsed_tree.specs.declared.expressions.Operator.TheVariants as op
use Rattle.parsed_tree.specs.Tree.{ExprTree, binary, choose, call, acc, spot_of, ExprTrees, FormulaTree}
use Rattle.gc0_tree.specs.declared.Shape.TheVariants as shape
use Rattle.gc0_tree.specs.Tree as tree
use Rattle.gc0_tree.specs.Fits.{HasShape, AreGiven, IsGiven, PartsFit, Room, shapes_in, field_shape}
use Rattle.c0_names.specs.declared.types.BaseType.TheVariants.{Struct}
use Rattle.c0_names.specs.declared.types.ValueType.{ValueType}
use Rattle.c0_names.specs.declared.types.ValueType.TheVariants.{Written, Null, Void, Text}
use Rattle.c0_names.specs.declared.tables.Signature.{Signature}
use Rattle.c0_names.specs.declared.tables.Tables.{Tables}
use Rattle.c0_names.specs.Tables.{signature_in}
use Rattle.c0_names.specs.Types.{bool, fits}
use Rattle.c0_names.specs.Typing.{params_of, arrow_typed, count_of}
use Rattle.c0_value_rules.specs.declared.violation.Rule.TheVariants as rule
use Rattle.c0_value_rules.specs.declared.scope.Scope.{Scope}
use Rattle.c0_value_rules.specs.Scopes.{read_type}
use Rattle.c0_value_rules.specs.Expressions.{type_here, arguments_fit_here, arrow_violations, due_violations, callee_violations, counted_violations, expr_violations, arguments_violations, call_violations}
use Rattle.c0_value_rules.specs.Formulas as rules
use Rattle.c0_value_rules.specs.Formulas.{operand_condition, conditions_violations, parts_violations, formula_violations, instance_violations, clauses_violations, invariants_violations}
use Rattle.c0_value_numbers.specs.declared.frame.Frame.{Frame}
use Rattle.c0_value_numbers.specs.Values.{number_in, shape_of, accessed, type_in_frame}
use Rattle.c0_value_numbers.specs.Texts.{Texts}
use Rattle.c0_value_numbers.specs.Expressions.{expr_tree}
use Rattle.c0_value_numbers.specs.Formulas.{value_tree, values_tree, choices, parts, optional_parts, all_parts}
use Rattle.c0_types.proofs.Shapes.{Held, held_truth, same_held, fits_suits, fits_value}
use Rattle.c0_types.proofs.Raised.{Below}
use Rattle.c0_types.proofs.World.{Gives, gives_value, World, Sees}
use Rattle.c0_types.proofs.Values.{arrow_parts, accessed_is}
use Rattle.c0_types.proofs.Given.{in_frame, reached_in, value_given, args_given}
use Rattle.c0_types.proofs.Clean.{left_none, right_none, kept, IsEven, the_value, arrow_some, counted, typed, arguments_typed}

-- where an expression stands: what the rules see of it, and what its tree may name
pub record Spot (t u : Tables) (p : tree.Program) : Type 0 where
  pub below : Below t u
  pub world : World u p
  pub room : Room
  pub frame : Frame
  pub scope : Scope
  pub outcome : Option ValueType
  pub even : IsEven scope
  pub sees : Sees room frame (read_type scope) outcome

module _ (t u : Tables) (p : tree.Program) (c : Spot t u p) where
  -- the value of an expression without violations
  pub value_here : (ts : Texts) (e : ExprTree) → expr_violations t c.scope c.outcome e ≡ [] →
      (v : ValueType) × (type_here t c.scope c.outcome e ≡ Some v) × Gives p c.room
      (expr_tree u c.frame ts e) v
  value_here ts e h =
      let q = the_value (type_here t c.scope c.outcome e) (typed t c.scope c.even c.outcome e h) in (
        q.0,
        q.1,
        value_given t u p c.below c.world c.room c.frame (read_type c.scope) c.outcome
            c.sees ts e q.0 q.1,
      )

  due_fits : (at : Place) (due : ValueType) (a : Option ValueType) (v : ValueType) → a ≡ Some v →
      due_violations at due a ≡ [] → fits due v ≡ true
  due_fits at due a v q h =
      kept (fits due v) rule.WrongType at (subst (λ k. due_violations at due k ≡ []) q h)

  -- where a held type is due, the value suits its shape
  pub given_here : (ts : Texts) (e : ExprTree) (at : Place) (due : ValueType) → Held due →
      expr_violations t c.scope c.outcome e ≡ [] →
      due_violations at due (type_here t c.scope c.outcome e) ≡ [] →
      IsGiven p c.room (shape_of due) (expr_tree u c.frame ts e)
  given_here ts e at due held h k =
      let q = value_here ts e h in
      let f = due_fits at due (type_here t c.scope c.outcome e) q.0 q.1 k in (
        shape_of q.0,
        gives_value p c.room (expr_tree u c.frame ts e) q.0 (fits_value due q.0 f) q.2,
        fits_suits due q.0 held f,
      )

  bool_of : (v : ValueType) → fits bool v ≡ true → bool ≡ v
  bool_of (Written b m) e = same_held bool (Written b m) held_truth e
  bool_of Null e = let n : ⊥ = cc in absurd n
  bool_of Void e = let n : ⊥ = cc in absurd n
  bool_of Text e = let n : ⊥ = cc in absurd n

  -- a truth, where one is due
  pub truth_here : (ts : Texts) (e : ExprTree) (at : Place) →
      expr_violations t c.scope c.outcome e ++ due_violations at bool
      (type_here t c.scope c.outcome e) ≡ [] →
      HasShape p c.room (expr_tree u c.frame ts e) shape.Bool
  truth_here ts e at h =
      let a = expr_violations t c.scope c.outcome e in
      let b = due_violations at bool (type_here t c.scope c.outcome e) in
      let q = value_here ts e (left_none a b h) in
      let f = bool_of q.0 (due_fits at bool (type_here t c.scope c.outcome e) q.0 q.1
      (right_none a b h)) in
      subst (Gives p c.room (expr_tree u c.frame ts e)) (sym f) q.2

  -- ---- an access and an instance
  access_fits : (x : ExprTree) (n : List ℕ) (v : ValueType) →
      arrow_typed t (type_here t c.scope c.outcome x) n ≡ Some v →
      (k : ℕ) × HasShape p c.room (value_tree u c.frame x) (shape.Pointer k) ×
      (is_some (field_shape p k (accessed u (type_in_frame u c.frame x) n).field) ≡ true)
  access_fits x n v e =
      let q = arrow_parts t (type_here t c.scope c.outcome x) n v e in
      let g = reached_in t u c.below (type_here t c.scope c.outcome x) (type_in_frame u c.frame x) n
      v (in_frame t u c.below c.room c.frame (read_type c.scope) c.outcome c.sees x) q in
      let f = c.world.fields g.of_struct g.fields n v g.defined g.typed in (
        g.of_struct,
        value_given t u p c.below c.world c.room c.frame (read_type c.scope) c.outcome
            c.sees [] x (Written (Struct q.of_struct) 1) q.base,
        subst
            (λ a. is_some (field_shape p g.of_struct a.field) ≡ true)
            (sym (accessed_is u (type_in_frame u c.frame x) n v g)) (ap is_some f.0),
      )

  callee_parts : (at : Place) (s : Option Signature) (n : ℕ) → callee_violations at s n ≡ [] →
      (z : Signature) × (s ≡ Some z) × (length z.params ≡ n)
  callee_parts at None n e = let q : ⊥ = cc in absurd q
  callee_parts at (Some z) n e =
      (z, refl, eqb-true (length z.params) n (kept (eqb (length z.params) n) rule.WrongCount at e))

  pub instance_fits : (at : Place) (n : List ℕ) (es : ExprTrees) →
      call_violations t c.scope c.outcome at (signature_in t.predicates n) es ≡ [] →
      (d : tree.Predicate) × (slice_get p.predicates (number_in u.predicates.names n) ≡ Some d) ×
      AreGiven p c.room (shapes_in d.params) (values_tree u c.frame es)
  instance_fits at n es h =
      let f = signature_in t.predicates n in
      let fit = arguments_fit_here t c.scope c.outcome (params_of f) 0 es in
      let a = arguments_violations t c.scope c.outcome (params_of f) 0 es in
      let b = counted_violations fit at f (count_of es) in
      let g = arguments_typed t c.scope c.even c.outcome (params_of f) 0 es (left_none a b h) in
      let q = callee_parts at f (count_of es) (counted fit at f (count_of es) g
      (right_none a b h)) in
      let k = subst (λ k. arguments_fit_here t c.scope c.outcome (params_of k) 0 es ≡ true) q.1 g in
      let m = c.world.predicates n q.0 (subst (λ k. signature_in k n ≡ Some q.0) c.below.predicates
      q.1) in (
        m.one,
        m.here,
        subst (λ ss. AreGiven p c.room ss (values_tree u c.frame es)) (sym m.params)
            (args_given t u p c.below c.world c.room c.frame (read_type c.scope) c.outcome c.sees []
            es q.0.params q.0.params 0 (λ j. let z : 0 + j ≡ j = omega arith in ap
            (slice_get q.0.params) z) m.held q.2 k),
      )

  -- ---- conjuncts
  conditions_fit : (e : ExprTree) (at : Place) (those rest : tree.Conjuncts) →
      conditions_violations t c.scope c.outcome at e ≡ [] → PartsFit p c.room those →
      PartsFit p c.room rest → PartsFit p c.room (choices u c.frame at e those rest)
  conditions_fit (binary s op.Either x y) at those rest h g k =
      let a = conditions_violations t c.scope c.outcome s.place x in
      let b = conditions_violations t c.scope c.outcome at y in
      conditions_fit x s.place (choices u c.frame at y those tree.no_parts) rest (left_none a b h)
      (conditions_fit y at those tree.no_parts (right_none a b h) g tt) k
  conditions_fit e at those rest h g k = (truth_here [] e at h, (refl, tt), g, k)

  pub parts_fit : (e : ExprTree) (rest : tree.Conjuncts) →
      parts_violations t c.scope c.outcome e ≡ [] → PartsFit p c.room rest →
      PartsFit p c.room (parts u c.frame e rest)
  parts_fit (binary s op.Both x y) rest h g =
      let a = parts_violations t c.scope c.outcome x in
      let b = parts_violations t c.scope c.outcome y in
      parts_fit x (parts u c.frame y rest) (left_none a b h) (parts_fit y rest (right_none a b h) g)
  parts_fit (binary s op.Either x y) rest h g =
      let a = conditions_violations t c.scope c.outcome s.place x in
      let b = parts_violations t c.scope c.outcome y in
      conditions_fit x s.place (parts u c.frame y tree.no_parts) rest (left_none a b h)
      (parts_fit y tree.no_parts (right_none a b h) tt) g
  parts_fit (choose s d x y) rest h g =
      let a = operand_condition t c.scope c.outcome s.place d in
      let b = parts_violations t c.scope c.outcome x in
      let e = parts_violations t c.scope c.outcome y in
      let k = right_none a (b ++ e) h in (
        truth_here [] d s.place (left_none a (b ++ e) h),
        parts_fit x tree.no_parts (left_none b e k)
            tt,
        parts_fit y tree.no_parts (right_none b e k) tt,
        g,
      )
  parts_fit (acc s x at n) rest h g =
      let a = expr_violations t c.scope c.outcome x in
      let b = arrow_violations t at (type_here t c.scope c.outcome x) n in
      let l = left_none (a ++ b) (due_violations s.first bool
      (type_here t c.scope c.outcome (acc s x at n))) h in
      let q = the_value (arrow_typed t (type_here t c.scope c.outcome x) n.name)
      (arrow_some t at (type_here t c.scope c.outcome x) n
      (typed t c.scope c.even c.outcome x (left_none a b l)) (right_none a b l)) in
      (access_fits x n.name q.0 q.1, g)
  parts_fit (call s n es) rest h g = (instance_fits s.place n es h, g)
  parts_fit e rest h g = (truth_here [] e (spot_of e).first h, g)

  pub formula_fits : (e : Option ExprTree) (rest : tree.Conjuncts) →
      rules.optional_parts t c.scope c.outcome e ≡ [] → PartsFit p c.room rest →
      PartsFit p c.room (optional_parts u c.frame e rest)
  formula_fits None rest h g = g
  formula_fits (Some e) rest h g = parts_fit e rest h g

  -- ---- joined clauses
  abbrev pub AllClean : List FormulaTree → Type 0
  AllClean [] = Unit {0}
  AllClean (g ∷ gs) = (formula_violations t c.scope c.outcome g ≡ []) × AllClean gs

  pub all_fit : (gs : List FormulaTree) → AllClean gs →
      PartsFit p c.room (all_parts u c.frame gs tree.no_parts)
  all_fit [] h = tt
  all_fit (g ∷ gs) h =
      formula_fits g.parts (all_parts u c.frame gs tree.no_parts) h.0 (all_fit gs h.1)

  pub clean_both : (a b : List FormulaTree) → AllClean a → AllClean b → AllClean (a ++ b)
  clean_both [] b h k = k
  clean_both (g ∷ a) b h k = (h.0, clean_both a b h.1 k)
