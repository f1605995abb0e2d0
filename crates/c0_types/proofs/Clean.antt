-- An expression without violations has a type.
use Rattle.std.proofs.Common.{◌≡◌, ℕ, ◌+◌, Bool, true, false, eqb, List, [], ◌∷◌, ◌++◌, length, Option, Some, None, is_some, slice_get, option_map, if◌then◌else◌, refl, sym, subst, ap}
use Rattle.gc0_base.specs.declared.place.Place.{Place}
use Rattle.parsed_tree.specs.declared.expressions.Named.{Named}
use Rattle.parsed_tree.specs.declared.expressions.TypeName.{TypeName}
use Rattle.parsed_tree.specs.declared.expressions.UnaryOperator.{UnaryOperator}
use Rattle.parsed_tree.specs.declared.expressions.Operator.{Operator}
use Rattle.parsed_tree.specs.Tree.{ExprTree, number, truth, null, local, outcome, unary, binary, choose, arrow, call, call_text, alloc, acc, spot_of, ExprTrees, no_exprs, expr_and}
use Rattle.c0_names.specs.declared.types.BaseType.TheVariants.{Bool as Truth, Struct}
use Rattle.c0_names.specs.declared.types.ValueType.{ValueType}
use Rattle.c0_names.specs.declared.types.ValueType.TheVariants.{Written, Void}
use Rattle.c0_names.specs.declared.tables.Signature.{Signature}
use Rattle.c0_names.specs.declared.tables.Tables.{Tables}
use Rattle.c0_names.specs.Names.{last_place}
use Rattle.c0_names.specs.Tables.{value_type, fields_of}
use Rattle.c0_names.specs.Types.{fits, unary_type, binary_type, choice_type, struct_behind, pointed, prints_text, callee}
use Rattle.c0_names.specs.Typing.{unary_typed, binary_typed, choice_typed, field_in, arrow_typed, allocated, argument_fits, params_of, called, count_of}
use Rattle.c0_value_rules.specs.declared.violation.Rule.{Rule}
use Rattle.c0_value_rules.specs.declared.violation.Rule.TheVariants as rule
use Rattle.c0_value_rules.specs.declared.violation.Violation.{Violation}
use Rattle.c0_value_rules.specs.declared.scope.Standing.{Standing}
use Rattle.c0_value_rules.specs.declared.scope.Scope.{Scope}
use Rattle.c0_value_rules.specs.Violations.{violation, unless}
use Rattle.c0_value_rules.specs.Scopes.{standing_of, is_read_well, held_type}
use Rattle.c0_value_rules.specs.Expressions.{type_here, arguments_fit_here, operand_violations, operands_violations, branches_violations, field_violations, arrow_violations, struct_place, alloc_violations, argument_violations, callee_violations, counted_violations, expr_violations, arguments_violations}
use Rattle.c0_types.proofs.Looks.{Even, look_some}
use Rattle.c0_types.proofs.Raised.{both}

-- ---- lists without violations
pub left_none : (a b : List Violation) → a ++ b ≡ [] → a ≡ []
left_none [] b e = refl
left_none (v ∷ a) b e = let n : ⊥ = cc in absurd n

pub right_none : (a b : List Violation) → a ++ b ≡ [] → b ≡ []
right_none [] b e = e
right_none (v ∷ a) b e = let n : ⊥ = cc in absurd n

pub kept : (b : Bool) (r : Rule) (p : Place) → unless b r p ≡ [] → b ≡ true
kept true r p e = refl
kept false r p e = let n : ⊥ = cc in absurd n

abbrev pub IsEven : Scope → Type 0
IsEven scope = Even scope.names scope.standings

pub the_value : {A : Type 0} (o : Option A) → is_some o ≡ true → (x : A) × (o ≡ Some x)
the_value None e = let n : ⊥ = cc in absurd n
the_value (Some x) e = (x, refl)

held_some : (k : Option Standing) → is_some k ≡ true → is_some (option_map (λ s. s.holds) k) ≡ true
held_some None e = let n : ⊥ = cc in absurd n
held_some (Some k) e = refl

local_some : (at : Place) (known well : Bool) (v : Option ValueType) →
    (if known then unless well rule.Unassigned at else (violation rule.Unknown at ∷ [])) ≡ [] →
    (known ≡ true → is_some v ≡ true) → is_some (if well then v else None) ≡ true
local_some at false well v h held = let n : ⊥ = cc in absurd n
local_some at true false v h held = let n : ⊥ = cc in absurd n
local_some at true true v h held = held refl

unary_some : (at : Place) (o : UnaryOperator) (v : Option ValueType) → is_some v ≡ true →
    operand_violations at o v ≡ [] → is_some (unary_typed o v) ≡ true
unary_some at o None s e = let n : ⊥ = cc in absurd n
unary_some at o (Some v) s e = kept (is_some (unary_type o v)) rule.WrongType at e

binary_some : (at : Place) (o : Operator) (v w : Option ValueType) → is_some v ≡ true →
    is_some w ≡ true → operands_violations at o v w ≡ [] → is_some (binary_typed o v w) ≡ true
binary_some at o None w s q e = let n : ⊥ = cc in absurd n
binary_some at o (Some v) None s q e = let n : ⊥ = cc in absurd n
binary_some at o (Some v) (Some w) s q e = kept (is_some (binary_type o v w)) rule.WrongType at e

choice_some : (at : Place) (c v w : Option ValueType) → is_some c ≡ true → is_some v ≡ true →
    is_some w ≡ true → branches_violations at c v w ≡ [] → is_some (choice_typed c v w) ≡ true
choice_some at None v w s q r e = let n : ⊥ = cc in absurd n
choice_some at (Some c) None w s q r e = let n : ⊥ = cc in absurd n
choice_some at (Some c) (Some v) None s q r e = let n : ⊥ = cc in absurd n
choice_some at (Some c) (Some v) (Some w) s q r e =
    kept (is_some (choice_type c v w)) rule.WrongType at e

pub arrow_some : (t : Tables) (at : Place) (v : Option ValueType) (n : Named) → is_some v ≡ true →
    arrow_violations t at v n ≡ [] → is_some (arrow_typed t v n.name) ≡ true
arrow_some t at None n s e = let q : ⊥ = cc in absurd q
arrow_some t at (Some v) n s e = of (pointed v) e
  where
    of : (k : Option ℕ) → field_violations t at k n ≡ [] → is_some (field_in t k n.name) ≡ true
    of None e = let q : ⊥ = cc in absurd q
    of (Some k) e = kept (is_some (field_in t (Some k) n.name)) rule.Unknown n.place e

alloc_some : (t : Tables) (n : TypeName) (k : Option ℕ) → alloc_violations t n k ≡ [] →
    is_some (allocated t k) ≡ true
alloc_some t n None e = let q : ⊥ = cc in absurd q
alloc_some t n (Some k) e =
    ap (λ b. is_some (if b then Some (Written (Struct k) 1) else None))
    (kept (is_some (fields_of t k)) rule.Unknown (struct_place n.place n.base) e)

argument_some : (at : Place) (due v : Option ValueType) → is_some v ≡ true →
    argument_violations at due v ≡ [] → argument_fits due v ≡ true
argument_some at due None s e = let q : ⊥ = cc in absurd q
argument_some at None (Some v) s e = refl
argument_some at (Some due) (Some v) s e = kept (fits due v) rule.WrongType at e

called_some : (at : Place) (s : Option Signature) (n : ℕ) → callee_violations at s n ≡ [] →
    is_some (called s true n) ≡ true
called_some at None n e = let q : ⊥ = cc in absurd q
called_some at (Some s) n e =
    ap (λ b. is_some (if b then Some s.result else None))
    (kept (eqb (length s.params) n) rule.WrongCount at e)

-- behind arguments that fit, the call is of a function with as many parameters
pub counted : (fit : Bool) (at : Place) (s : Option Signature) (n : ℕ) → fit ≡ true →
    counted_violations fit at s n ≡ [] → callee_violations at s n ≡ []
counted false at s n f e = let q : ⊥ = cc in absurd q
counted true at s n f e = e

mapped_some : (v : Option ValueType) (x : ValueType) → is_some v ≡ true →
    is_some (option_map (λ y. x) v) ≡ true
mapped_some None x e = let q : ⊥ = cc in absurd q
mapped_some (Some v) x e = refl

mutual
  pub typed : (t : Tables) (scope : Scope) → IsEven scope → (r : Option ValueType) (e : ExprTree) →
      expr_violations t scope r e ≡ [] → is_some (type_here t scope r e) ≡ true
  typed t scope v r (number s w) h = refl
  typed t scope v r (truth s b) h = refl
  typed t scope v r (null s) h = refl
  typed t scope v r (local s n) h =
      local_some s.place (is_some (last_place scope.names n)) (is_read_well scope n)
      (held_type scope n) h (λ k. held_some (standing_of scope n)
      (look_some scope.names scope.standings n v k))
  typed t scope v r (outcome s) h = kept (is_some r) rule.Unknown s.place h
  typed t scope v r (unary s o x) h =
      let a = expr_violations t scope r x in
      let b = operand_violations s.place o (type_here t scope r x) in
      unary_some s.place o (type_here t scope r x) (typed t scope v r x (left_none a b h))
      (right_none a b h)
  typed t scope v r (binary s o x y) h =
      let a = expr_violations t scope r x in
      let b = expr_violations t scope r y in
      let c = operands_violations s.place o (type_here t scope r x) (type_here t scope r y) in
      let k = right_none a (b ++ c) h in
      binary_some s.place o (type_here t scope r x) (type_here t scope r y)
      (typed t scope v r x (left_none a (b ++ c) h)) (typed t scope v r y (left_none b c k))
      (right_none b c k)
  typed t scope v r (choose s c x y) h =
      let a = expr_violations t scope r c in
      let b = expr_violations t scope r x in
      let d = expr_violations t scope r y in
      let g = branches_violations s.place (type_here t scope r c) (type_here t scope r x)
      (type_here t scope r y) in
      let k = right_none a (b ++ (d ++ g)) h in
      let l = right_none b (d ++ g) k in
      choice_some s.place (type_here t scope r c) (type_here t scope r x) (type_here t scope r y)
      (typed t scope v r c (left_none a (b ++ (d ++ g)) h))
      (typed t scope v r x (left_none b (d ++ g) k)) (typed t scope v r y (left_none d g l))
      (right_none d g l)
  typed t scope v r (arrow s x n) h =
      let a = expr_violations t scope r x in
      let b = arrow_violations t s.place (type_here t scope r x) n in
      arrow_some t s.place (type_here t scope r x) n (typed t scope v r x (left_none a b h))
      (right_none a b h)
  typed t scope v r (call s n es) h =
      let f = callee t.functions n in
      let fit = arguments_fit_here t scope r (params_of f) 0 es in
      let a = arguments_violations t scope r (params_of f) 0 es in
      let b = counted_violations fit s.place f (count_of es) in
      let g = arguments_typed t scope v r (params_of f) 0 es (left_none a b h) in
      subst (λ k. is_some (called f k (count_of es)) ≡ true) (sym g)
      (called_some s.place f (count_of es) (counted fit s.place f (count_of es) g
      (right_none a b h)))
  typed t scope v r (call_text s n x) h =
      ap (λ b. is_some (if b then Some Void else None))
      (kept (prints_text n) rule.WrongType x.place h)
  typed t scope v r (alloc s n) h = alloc_some t n (struct_behind 0 (value_type t n)) h
  typed t scope v r (acc s x at n) h =
      let a = expr_violations t scope r x in
      let b = arrow_violations t at (type_here t scope r x) n in
      mapped_some (arrow_typed t (type_here t scope r x) n.name) (Written Truth 0)
      (arrow_some t at (type_here t scope r x) n (typed t scope v r x (left_none a b h))
      (right_none a b h))

  pub arguments_typed : (t : Tables) (scope : Scope) → IsEven scope →
      (r : Option ValueType) (ps : List ValueType) (i : ℕ) (es : ExprTrees) →
      arguments_violations t scope r ps i es ≡ [] → arguments_fit_here t scope r ps i es ≡ true
  arguments_typed t scope v r ps i no_exprs h = refl
  arguments_typed t scope v r ps i (expr_and e es) h =
      let a = expr_violations t scope r e in
      let at = (spot_of e).first in
      let b = argument_violations at (slice_get ps i) (type_here t scope r e) in
      let c = arguments_violations t scope r ps (i + 1) es in
      let k = left_none (a ++ b) c h in
      both (argument_fits (slice_get ps i) (type_here t scope r e))
      (arguments_fit_here t scope r ps (i + 1) es)
      (argument_some at (slice_get ps i) (type_here t scope r e)
      (typed t scope v r e (left_none a b k)) (right_none a b k))
      (arguments_typed t scope v r ps (i + 1) es (right_none (a ++ b) c h))
