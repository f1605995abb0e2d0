-- A test of the locals that a numbered formula names, by a test of the names in the formula of the text.
use Rattle.std.proofs.Common.{◌≡◌, ℕ, Bool, true, List, [], ◌∷◌, ◌++◌, Option, Some, None, if◌then◌else◌, refl, sym, ◌∙◌}
use Rattle.std.specs.List.{list_all}
use Rattle.std.proofs.lemmas.Bool.{and_parts, and_from}
use Rattle.std.proofs.lemmas.List.Folds.{list_all-append}
use Rattle.gc0_base.specs.declared.place.Place.{Place}
use Rattle.parsed_tree.specs.declared.expressions.Operator.TheVariants as op
use Rattle.parsed_tree.specs.declared.items.Side.{Side}
use Rattle.parsed_tree.specs.declared.items.Side.TheVariants.{Requires, Ensures}
use Rattle.parsed_tree.specs.Tree.{ExprTree, number, truth, null, local, outcome, unary, binary, choose, arrow, call, call_text, alloc, acc, ExprTrees, no_exprs, expr_and, FormulaTree, ClauseTree, ContractTree}
use Rattle.gc0_tree.specs.declared.LibraryCall.{LibraryCall}
use Rattle.gc0_tree.specs.Calls.{library_named}
use Rattle.gc0_tree.specs.Tree as gc0
use Rattle.core_meaning.specs.Assigned.{tree_names, trees_names, parts_names}
use Rattle.c0_names.specs.declared.tables.Tables.{Tables}
use Rattle.c0_rules.specs.Rules.{expr_locals, exprs_locals, formula_locals, is_ensures, clause_locals, clauses_locals, contract_locals}
use Rattle.c0_value_numbers.specs.declared.frame.Frame.{Frame}
use Rattle.c0_value_numbers.specs.declared.expressions.Joint.{Joint}
use Rattle.c0_value_numbers.specs.declared.expressions.Joint.TheVariants as joint
use Rattle.c0_value_numbers.specs.Texts.{Texts, expr_texts}
use Rattle.c0_value_numbers.specs.Values.{number_in}
use Rattle.c0_value_numbers.specs.Expressions.{joint_of, joint_tree, call_tree, expr_tree, exprs_tree}
use Rattle.c0_value_numbers.specs.Formulas.{value_tree, values_tree, choices, parts, optional_parts, all_parts, joined, is_of, side_clauses, side_contracts}

-- ---- tests of lists
pub all_split : {X : Type 0} (test : X → Bool) (xs ys : List X) → list_all test (xs ++ ys) ≡ true → (list_all test xs ≡ true) × (list_all test ys ≡ true)
all_split test xs ys h = and_parts (list_all test xs) (list_all test ys) (sym (list_all-append test xs ys) ∙ h)

pub all_joined : {X : Type 0} (test : X → Bool) (xs ys : List X) → list_all test xs ≡ true → list_all test ys ≡ true → list_all test (xs ++ ys) ≡ true
all_joined test xs ys h k = list_all-append test xs ys ∙ and_from (list_all test xs) (list_all test ys) h k

-- a name passes where the number of its local does
abbrev pub passes : (f : Frame) (test : ℕ → Bool) → List ℕ → Bool
passes f test n = test (number_in f.locals.names n)

-- the names of formulas joined
abbrev pub formulas_locals : List FormulaTree → List (List ℕ)
formulas_locals [] = []
formulas_locals (g ∷ gs) = formula_locals g.parts ++ formulas_locals gs

module _ (t : Tables) (f : Frame) (test : ℕ → Bool) where
  -- ---- values
  joint_passes : (at : Place) (o : Joint) (x y : gc0.Tree) → list_all test (tree_names x) ≡ true → list_all test (tree_names y) ≡ true → list_all test (tree_names (joint_tree at o x y)) ≡ true
  joint_passes at (joint.Of o) x y h k = all_joined test (tree_names x) (tree_names y) h k
  joint_passes at joint.Both x y h k = all_joined test (tree_names x) (tree_names y) h k
  joint_passes at joint.Either x y h k = all_joined test (tree_names x) (tree_names y) h k

  call_passes : (at : Place) (n : List ℕ) (c : Option LibraryCall) (args : gc0.Trees) → list_all test (trees_names args) ≡ true → list_all test (tree_names (call_tree t at n c args)) ≡ true
  call_passes at n None args h = h
  call_passes at n (Some c) gc0.no_trees h = refl
  call_passes at n (Some c) (gc0.tree_and x xs) h = all_joined test (tree_names x) [] (all_split test (tree_names x) (trees_names xs) h).0 refl

  mutual
    value_passes : (ts : Texts) (e : ExprTree) → list_all (passes f test) (expr_locals e) ≡ true → list_all test (tree_names (expr_tree t f ts e)) ≡ true
    value_passes ts (number s w) h = refl
    value_passes ts (truth s b) h = refl
    value_passes ts (null s) h = refl
    value_passes ts (local s n) h = h
    value_passes ts (outcome s) h = refl
    value_passes ts (unary s o x) h = value_passes ts x h
    value_passes ts (binary s o x y) h =
        let p = all_split (passes f test) (expr_locals x) (expr_locals y) h in
        joint_passes s.place (joint_of o) (expr_tree t f ts x) (expr_tree t f (expr_texts ts x) y) (value_passes ts x p.0) (value_passes (expr_texts ts x) y p.1)
    value_passes ts (choose s x y z) h =
        let p = all_split (passes f test) (expr_locals x) (expr_locals y ++ expr_locals z) h in
        let q = all_split (passes f test) (expr_locals y) (expr_locals z) p.1 in
        let before_y = expr_texts ts x in
        let before_z = expr_texts before_y y in
        let a = tree_names (expr_tree t f ts x) in
        let b = tree_names (expr_tree t f before_y y) in
        let c = tree_names (expr_tree t f before_z z) in
        all_joined test a (b ++ c) (value_passes ts x p.0) (all_joined test b c (value_passes before_y y q.0) (value_passes before_z z q.1))
    value_passes ts (arrow s x n) h = value_passes ts x h
    value_passes ts (call s n xs) h = call_passes s.place n (library_named n) (exprs_tree t f ts xs) (values_pass ts xs h)
    value_passes ts (call_text s n text) h = refl
    value_passes ts (alloc s n) h = refl
    value_passes ts (acc s x p n) h = refl

    values_pass : (ts : Texts) (es : ExprTrees) → list_all (passes f test) (exprs_locals es) ≡ true → list_all test (trees_names (exprs_tree t f ts es)) ≡ true
    values_pass ts no_exprs h = refl
    values_pass ts (expr_and x xs) h =
        let p = all_split (passes f test) (expr_locals x) (exprs_locals xs) h in
        all_joined test (tree_names (expr_tree t f ts x)) (trees_names (exprs_tree t f (expr_texts ts x) xs)) (value_passes ts x p.0) (values_pass (expr_texts ts x) xs p.1)

  -- ---- conjuncts
  choice_passes : (at : Place) (e : ExprTree) (these those rest : gc0.Conjuncts) → list_all (passes f test) (expr_locals e) ≡ true →
      list_all test (parts_names these) ≡ true → list_all test (parts_names those) ≡ true → list_all test (parts_names rest) ≡ true →
      list_all test (parts_names (gc0.choice_part at (value_tree t f e) these those rest)) ≡ true
  choice_passes at e these those rest h i k l =
      let a = parts_names these in
      let b = parts_names those in
      let c = parts_names rest in
      all_joined test (tree_names (value_tree t f e)) (a ++ (b ++ c)) (value_passes [] e h) (all_joined test a (b ++ c) i (all_joined test b c k l))

  choices_pass : (at : Place) (e : ExprTree) (those rest : gc0.Conjuncts) → list_all (passes f test) (expr_locals e) ≡ true →
      list_all test (parts_names those) ≡ true → list_all test (parts_names rest) ≡ true → list_all test (parts_names (choices t f at e those rest)) ≡ true
  choices_pass at (binary s op.Either a b) those rest h k l =
      let p = all_split (passes f test) (expr_locals a) (expr_locals b) h in
      choices_pass s.place a (choices t f at b those gc0.no_parts) rest p.0 (choices_pass at b those gc0.no_parts p.1 k refl) l
  choices_pass at e those rest h k l = choice_passes at e (gc0.value_part (gc0.truth_at at true) gc0.no_parts) those rest h refl k l

  value_part_passes : (e : ExprTree) (rest : gc0.Conjuncts) → list_all (passes f test) (expr_locals e) ≡ true → list_all test (parts_names rest) ≡ true →
      list_all test (parts_names (gc0.value_part (value_tree t f e) rest)) ≡ true
  value_part_passes e rest h k = all_joined test (tree_names (value_tree t f e)) (parts_names rest) (value_passes [] e h) k

  parts_pass : (e : ExprTree) (rest : gc0.Conjuncts) → list_all (passes f test) (expr_locals e) ≡ true → list_all test (parts_names rest) ≡ true → list_all test (parts_names (parts t f e rest)) ≡ true
  parts_pass (binary s op.Both a b) rest h k =
      let p = all_split (passes f test) (expr_locals a) (expr_locals b) h in
      parts_pass a (parts t f b rest) p.0 (parts_pass b rest p.1 k)
  parts_pass (binary s op.Either a b) rest h k =
      let p = all_split (passes f test) (expr_locals a) (expr_locals b) h in
      choices_pass s.place a (parts t f b gc0.no_parts) rest p.0 (parts_pass b gc0.no_parts p.1 refl) k
  parts_pass (choose s c a b) rest h k =
      let p = all_split (passes f test) (expr_locals c) (expr_locals a ++ expr_locals b) h in
      let q = all_split (passes f test) (expr_locals a) (expr_locals b) p.1 in
      choice_passes s.place c (parts t f a gc0.no_parts) (parts t f b gc0.no_parts) rest p.0 (parts_pass a gc0.no_parts q.0 refl) (parts_pass b gc0.no_parts q.1 refl) k
  parts_pass (acc s path p n) rest h k = all_joined test (tree_names (value_tree t f path)) (parts_names rest) (value_passes [] path h) k
  parts_pass (call s n args) rest h k = all_joined test (trees_names (values_tree t f args)) (parts_names rest) (values_pass [] args h) k
  parts_pass e rest h k = value_part_passes e rest h k

  -- ---- contracts
  optional_passes : (o : Option ExprTree) (rest : gc0.Conjuncts) → list_all (passes f test) (formula_locals o) ≡ true → list_all test (parts_names rest) ≡ true →
      list_all test (parts_names (optional_parts t f o rest)) ≡ true
  optional_passes None rest h k = k
  optional_passes (Some e) rest h k = parts_pass e rest h k

  all_pass : (gs : List FormulaTree) → list_all (passes f test) (formulas_locals gs) ≡ true → list_all test (parts_names (all_parts t f gs gc0.no_parts)) ≡ true
  all_pass [] h = refl
  all_pass (g ∷ gs) h =
      let p = all_split (passes f test) (formula_locals g.parts) (formulas_locals gs) h in
      optional_passes g.parts (all_parts t f gs gc0.no_parts) p.0 (all_pass gs p.1)

  two_lists : (gs hs : List FormulaTree) → list_all (passes f test) (formulas_locals gs) ≡ true → list_all (passes f test) (formulas_locals hs) ≡ true → list_all (passes f test) (formulas_locals (gs ++ hs)) ≡ true
  two_lists [] hs h k = k
  two_lists (g ∷ gs) hs h k =
      let p = all_split (passes f test) (formula_locals g.parts) (formulas_locals gs) h in
      all_joined (passes f test) (formula_locals g.parts) (formulas_locals (gs ++ hs)) p.0 (two_lists gs hs p.1 k)

  clauses_pass : (cs : List ClauseTree) → list_all (passes f test) (clauses_locals cs) ≡ true → list_all (passes f test) (formulas_locals (side_clauses Ensures cs)) ≡ true
  clauses_pass [] h = refl
  clauses_pass (c ∷ cs) h =
      let p = all_split (passes f test) (clause_locals c) (clauses_locals cs) h in
      of c.side p.0 (clauses_pass cs p.1)
    where
      of : (s : Side) → list_all (passes f test) (if is_ensures s then formula_locals c.formula.parts else []) ≡ true → list_all (passes f test) (formulas_locals (side_clauses Ensures cs)) ≡ true →
          list_all (passes f test) (formulas_locals (if is_of Ensures s then c.formula ∷ side_clauses Ensures cs else side_clauses Ensures cs)) ≡ true
      of Requires h k = k
      of Ensures h k = all_joined (passes f test) (formula_locals c.formula.parts) (formulas_locals (side_clauses Ensures cs)) h k

  contracts_pass : (cs : List ContractTree) → list_all (passes f test) (contract_locals cs) ≡ true → list_all (passes f test) (formulas_locals (side_contracts Ensures cs)) ≡ true
  contracts_pass [] h = refl
  contracts_pass (c ∷ cs) h =
      let p = all_split (passes f test) (clauses_locals c.clauses) (contract_locals cs) h in
      two_lists (side_clauses Ensures c.clauses) (side_contracts Ensures cs) (clauses_pass c.clauses p.0) (contracts_pass cs p.1)

  -- the locals that the `ensures` of a function names
  pub ensures_pass : (cs : List ContractTree) → list_all (passes f test) (contract_locals cs) ≡ true → list_all test (parts_names (joined t f (side_contracts Ensures cs)).parts) ≡ true
  ensures_pass cs h = all_pass (side_contracts Ensures cs) (contracts_pass cs h)
