-- That the names in contracts without violations are known, and that `ensured` has each name in `ensures`.
use Rattle.std.proofs.Common.{◌≡◌, ℕ, ◌+◌, Bool, true, false, List, [], ◌∷◌, ◌++◌, fold, Option, Some, None, is_some, if◌then◌else◌, refl, ap}
use Rattle.std.specs.List.{list_all}
use Rattle.std.proofs.lemmas.Bool.{and_parts, and_from}
use Rattle.std.proofs.lemmas.Slice.Eq.{bytes_eq-Decides}
use Rattle.gc0_base.specs.declared.place.Place.{Place}
use Rattle.parsed_tree.specs.declared.expressions.Operator.TheVariants as op
use Rattle.parsed_tree.specs.Tree.{ExprTree, number, truth, null, local, outcome, unary, binary, choose, arrow, call, call_text, alloc, acc, ExprTrees, no_exprs, expr_and, ClauseTree, ContractTree}
use Rattle.c0_names.specs.declared.types.ValueType.{ValueType}
use Rattle.c0_names.specs.declared.tables.Tables.{Tables}
use Rattle.c0_names.specs.Names.{last_place, names_with}
use Rattle.c0_names.specs.Tables.{signature_in}
use Rattle.c0_names.specs.Types.{bool, callee}
use Rattle.c0_names.specs.Typing.{params_of}
use Rattle.c0_value_rules.specs.declared.violation.Rule.TheVariants as rule
use Rattle.c0_value_rules.specs.declared.violation.Violation.{Violation}
use Rattle.c0_value_rules.specs.declared.scope.Scope.{Scope}
use Rattle.c0_value_rules.specs.Violations.{violation, unless}
use Rattle.c0_value_rules.specs.Scopes.{is_read_well}
use Rattle.c0_value_rules.specs.Expressions.{expr_violations, arguments_violations, value_violations}
use Rattle.c0_value_rules.specs.Formulas.{is_both, is_either, conditions_violations, parts_violations, optional_parts}
use Rattle.c0_rules.specs.Rules.{expr_locals, exprs_locals, formula_locals, is_ensures, clause_locals, clauses_locals, contract_locals, ensured, outcome_in, sides_violations, contract_violations}
use Rattle.resolved_laws.proofs.Clean.{left_none, right_none}
use Rattle.resolved_laws.proofs.Looks.{last_here, last_more}
use Rattle.resolved_laws.proofs.FormulaNames.{all_joined}

-- a local of this name is in scope
abbrev pub known : Scope → List ℕ → Bool
known scope n = is_some (last_place scope.names n)

known_local : (at : Place) (b well : Bool) → (if b then unless well rule.Unassigned at else (violation rule.Unknown at ∷ [])) ≡ [] → b ≡ true
known_local at true well h = refl
known_local at false well h = let n : ⊥ = cc in absurd n

module _ (t : Tables) (scope : Scope) where
  mutual
    value_known : (r : Option ValueType) (e : ExprTree) → expr_violations t scope r e ≡ [] → list_all (known scope) (expr_locals e) ≡ true
    value_known r (number s w) h = refl
    value_known r (truth s b) h = refl
    value_known r (null s) h = refl
    value_known r (local s n) h = and_from (known scope n) true (known_local s.place (known scope n) (is_read_well scope n) h) refl
    value_known r (outcome s) h = refl
    value_known r (unary s o x) h = value_known r x (left_none (expr_violations t scope r x) _ h)
    value_known r (binary s o x y) h =
        let k = right_none (expr_violations t scope r x) _ h in
        all_joined (known scope) (expr_locals x) (expr_locals y) (value_known r x (left_none (expr_violations t scope r x) _ h)) (value_known r y (left_none (expr_violations t scope r y) _ k))
    value_known r (choose s c x y) h =
        let k = right_none (expr_violations t scope r c) _ h in
        let l = right_none (expr_violations t scope r x) _ k in
        all_joined (known scope) (expr_locals c) (expr_locals x ++ expr_locals y) (value_known r c (left_none (expr_violations t scope r c) _ h))
        (all_joined (known scope) (expr_locals x) (expr_locals y) (value_known r x (left_none (expr_violations t scope r x) _ k)) (value_known r y (left_none (expr_violations t scope r y) _ l)))
    value_known r (arrow s x n) h = value_known r x (left_none (expr_violations t scope r x) _ h)
    value_known r (call s n es) h = values_known r (params_of (callee t.functions n)) 0 es (left_none (arguments_violations t scope r (params_of (callee t.functions n)) 0 es) _ h)
    value_known r (call_text s n x) h = refl
    value_known r (alloc s n) h = refl
    value_known r (acc s x a n) h = value_known r x (left_none (expr_violations t scope r x) _ h)

    values_known : (r : Option ValueType) (ps : List ValueType) (i : ℕ) (es : ExprTrees) → arguments_violations t scope r ps i es ≡ [] → list_all (known scope) (exprs_locals es) ≡ true
    values_known r ps i no_exprs h = refl
    values_known r ps i (expr_and e es) h =
        let rest = arguments_violations t scope r ps (i + 1) es in
        all_joined (known scope) (expr_locals e) (exprs_locals es) (value_known r e (left_none (expr_violations t scope r e) _ (left_none _ rest h))) (values_known r ps (i + 1) es (right_none _ rest h))

  conditions_known : (r : Option ValueType) (at : Place) (e : ExprTree) → conditions_violations t scope r at e ≡ [] → list_all (known scope) (expr_locals e) ≡ true
  conditions_known r at (binary s op.Either x y) h =
      let a = conditions_violations t scope r s.place x in
      let b = conditions_violations t scope r at y in
      all_joined (known scope) (expr_locals x) (expr_locals y) (conditions_known r s.place x (left_none a b h)) (conditions_known r at y (right_none a b h))
  conditions_known r at e h = value_known r e (left_none (expr_violations t scope r e) _ h)

  pairs_known : (b c : Bool) (p q u w : List Violation) (l m : List (List ℕ)) →
      (p ≡ [] → list_all (known scope) l ≡ true) → (q ≡ [] → list_all (known scope) m ≡ true) → (u ≡ [] → list_all (known scope) l ≡ true) →
      (w ≡ [] → list_all (known scope) (l ++ m) ≡ true) → (if b then p ++ q else (if c then u ++ q else w)) ≡ [] → list_all (known scope) (l ++ m) ≡ true
  pairs_known true c p q u w l m a b d e h = all_joined (known scope) l m (a (left_none p q h)) (b (right_none p q h))
  pairs_known false true p q u w l m a b d e h = all_joined (known scope) l m (d (left_none u q h)) (b (right_none u q h))
  pairs_known false false p q u w l m a b d e h = e h

  parts_known : (r : Option ValueType) (e : ExprTree) → parts_violations t scope r e ≡ [] → list_all (known scope) (expr_locals e) ≡ true
  parts_known r (binary s o x y) h =
      pairs_known (is_both o) (is_either o) (parts_violations t scope r x) (parts_violations t scope r y) (conditions_violations t scope r s.place x) (value_violations t scope r bool (binary s o x y))
      (expr_locals x) (expr_locals y) (parts_known r x) (parts_known r y) (conditions_known r s.place x) (λ k. value_known r (binary s o x y) (left_none (expr_violations t scope r (binary s o x y)) _ k)) h
  parts_known r (choose s c x y) h =
      let a = parts_violations t scope r x in
      let b = parts_violations t scope r y in
      let k = right_none _ (a ++ b) h in
      all_joined (known scope) (expr_locals c) (expr_locals x ++ expr_locals y) (value_known r c (left_none (expr_violations t scope r c) _ (left_none _ (a ++ b) h)))
      (all_joined (known scope) (expr_locals x) (expr_locals y) (parts_known r x (left_none a b k)) (parts_known r y (right_none a b k)))
  parts_known r (call s n es) h =
      let ps = params_of (signature_in t.predicates n) in
      values_known r ps 0 es (left_none (arguments_violations t scope r ps 0 es) _ h)
  parts_known r e h = value_known r e (left_none (expr_violations t scope r e) _ h)

  optional_known : (r : Option ValueType) (o : Option ExprTree) → optional_parts t scope r o ≡ [] → list_all (known scope) (formula_locals o) ≡ true
  optional_known r None h = refl
  optional_known r (Some e) h = parts_known r e h

  known_where : (b : Bool) (l : List (List ℕ)) → list_all (known scope) l ≡ true → list_all (known scope) (if b then l else []) ≡ true
  known_where true l h = h
  known_where false l h = refl

  sides_known : (r : ValueType) (cs : List ClauseTree) → sides_violations t scope r cs ≡ [] → list_all (known scope) (clauses_locals cs) ≡ true
  sides_known r [] h = refl
  sides_known r (c ∷ cs) h =
      let a = optional_parts t scope (outcome_in r c.side) c.formula.parts in
      let b = sides_violations t scope r cs in
      let here = optional_known (outcome_in r c.side) c.formula.parts (left_none a b h) in
      all_joined (known scope) (clause_locals c) (clauses_locals cs) (known_where (is_ensures c.side) (formula_locals c.formula.parts) here) (sides_known r cs (right_none a b h))

  pub contract_known : (r : ValueType) (cs : List ContractTree) → contract_violations t scope r cs ≡ [] → list_all (known scope) (contract_locals cs) ≡ true
  contract_known r [] h = refl
  contract_known r (c ∷ cs) h =
      let a = sides_violations t scope r c.clauses in
      let b = contract_violations t scope r cs in
      all_joined (known scope) (clauses_locals c.clauses) (contract_locals cs) (sides_known r c.clauses (left_none a b h)) (contract_known r cs (right_none a b h))

-- ---- names that are added once
abbrev pub has : List (List ℕ) → List ℕ → Bool
has names n = is_some (last_place names n)

with_keeps : (made : List (List ℕ)) (x n : List ℕ) → has made n ≡ true → has (names_with made x) n ≡ true
with_keeps made x n h = of (has made x)
  where
    of : (b : Bool) → has (if b then made else made ++ x ∷ []) n ≡ true
    of true = h
    of false = last_more made (x ∷ []) n h

with_has : (made : List (List ℕ)) (x : List ℕ) → has (names_with made x) x ≡ true
with_has made x = of (has made x) refl
  where
    of : (b : Bool) → has made x ≡ b → has (if b then made else made ++ x ∷ []) x ≡ true
    of true q = q
    of false q = ap is_some (last_here made x x ((bytes_eq-Decides x x).1 refl))

fold_keeps : (made xs : List (List ℕ)) (n : List ℕ) → has made n ≡ true → has (fold names_with made xs) n ≡ true
fold_keeps made [] n h = h
fold_keeps made (x ∷ xs) n h = fold_keeps (names_with made x) xs n (with_keeps made x n h)

fold_has : (made xs : List (List ℕ)) → list_all (has (fold names_with made xs)) xs ≡ true
fold_has made [] = refl
fold_has made (x ∷ xs) =
    let later = has (fold names_with (names_with made x) xs) in
    and_from (later x) (list_all later xs) (fold_keeps (names_with made x) xs x (with_has made x)) (fold_has (names_with made x) xs)

pub all_ensured : (cs : List ContractTree) → list_all (has (ensured cs)) (contract_locals cs) ≡ true
all_ensured cs = fold_has [] (contract_locals cs)

-- what passes two tests passes a third
pub all_both : {X : Type 0} (a b c : X → Bool) → ((x : X) → a x ≡ true → b x ≡ true → c x ≡ true) → (xs : List X) → list_all a xs ≡ true → list_all b xs ≡ true → list_all c xs ≡ true
all_both a b c step [] h k = refl
all_both a b c step (x ∷ xs) h k =
    let p = and_parts (a x) (list_all a xs) h in
    let q = and_parts (b x) (list_all b xs) k in
    and_from (c x) (list_all c xs) (step x p.0 q.0) (all_both a b c step xs p.1 q.1)
