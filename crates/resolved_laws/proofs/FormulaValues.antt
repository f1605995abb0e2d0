-- What makes the numbered formulas of a text have no calls: that no call stands in a value of one.
use Rattle.std.proofs.Common.{◌≡◌, Bool, true, ◌&&◌, List, [], ◌∷◌, Option, Some, None, refl}
use Rattle.std.proofs.lemmas.Bool.{and_parts, and_from, false≢true}
use Rattle.gc0_base.specs.declared.place.Place.{Place}
use Rattle.parsed_tree.specs.declared.expressions.Operator.TheVariants as op
use Rattle.parsed_tree.specs.Tree.{ExprTree, number, truth, null, local, outcome, unary, binary, choose, arrow, call, call_text, alloc, acc, ExprTrees, no_exprs, expr_and, FormulaTree}
use Rattle.gc0_tree.specs.Tree as gc0
use Rattle.c0_names.specs.declared.tables.Tables.{Tables}
use Rattle.c0_grammar.specs.Allowed.{is_value}
use Rattle.c0_grammar.specs.Lists.{Each}
use Rattle.c0_value_numbers.specs.declared.frame.Frame.{Frame}
use Rattle.c0_value_numbers.specs.declared.expressions.Joint.{Joint}
use Rattle.c0_value_numbers.specs.declared.expressions.Joint.TheVariants as joint
use Rattle.c0_value_numbers.specs.Texts.{Texts, expr_texts}
use Rattle.c0_value_numbers.specs.Expressions.{joint_of, joint_tree, expr_tree, exprs_tree}
use Rattle.c0_value_numbers.specs.Formulas.{value_tree, values_tree, choices, parts, optional_parts, all_parts}
use Rattle.lowering_laws.specs.Formulas.{tree_without_calls, trees_without_calls, parts_without_calls}

-- ---- parsed formulas
abbrev pub are_values : ExprTrees → Bool
are_values no_exprs = true
are_values (expr_and x xs) = is_value x && are_values xs

-- the parts of a formula: calls stand only as its conjuncts, where they are instances
abbrev pub are_parts : ExprTree → Bool
are_parts (binary s op.Both a b) = are_parts a && are_parts b
are_parts (binary s op.Either a b) = is_value a && are_parts b
are_parts (choose s c a b) = is_value c && (are_parts a && are_parts b)
are_parts (acc s path p n) = is_value path
are_parts (call s n args) = are_values args
are_parts e = is_value e

abbrev pub AreParts : Option ExprTree → Type 0
AreParts None = Unit {0}
AreParts (Some e) = are_parts e ≡ true

abbrev pub IsFormula : FormulaTree → Type 0
IsFormula g = AreParts g.parts

module _ (t : Tables) (f : Frame) where
  -- ---- values
  joint_without : (at : Place) (o : Joint) (x y : gc0.Tree) → tree_without_calls x ≡ true → tree_without_calls y ≡ true → tree_without_calls (joint_tree at o x y) ≡ true
  joint_without at (joint.Of o) x y h k = and_from (tree_without_calls x) (tree_without_calls y) h k
  joint_without at joint.Both x y h k = and_from (tree_without_calls x) (tree_without_calls y) h k
  joint_without at joint.Either x y h k = and_from (tree_without_calls x) (tree_without_calls y) h k

  pub value_without : (ts : Texts) (e : ExprTree) → is_value e ≡ true → tree_without_calls (expr_tree t f ts e) ≡ true
  value_without ts (number s w) h = refl
  value_without ts (truth s b) h = refl
  value_without ts (null s) h = refl
  value_without ts (local s n) h = refl
  value_without ts (outcome s) h = refl
  value_without ts (unary s o x) h = value_without ts x h
  value_without ts (binary s o x y) h =
      let both = and_parts (is_value x) (is_value y) h in
      joint_without s.place (joint_of o) (expr_tree t f ts x) (expr_tree t f (expr_texts ts x) y) (value_without ts x both.0) (value_without (expr_texts ts x) y both.1)
  value_without ts (choose s x y z) h =
      let both = and_parts (is_value x && is_value y) (is_value z) h in
      let first = and_parts (is_value x) (is_value y) both.0 in
      let before_y = expr_texts ts x in
      let before_z = expr_texts before_y y in
      let c = tree_without_calls (expr_tree t f ts x) in
      let a = tree_without_calls (expr_tree t f before_y y) in
      let b = tree_without_calls (expr_tree t f before_z z) in
      and_from c (a && b) (value_without ts x first.0) (and_from a b (value_without before_y y first.1) (value_without before_z z both.1))
  value_without ts (arrow s x n) h = value_without ts x h
  value_without ts (call s n xs) h = absurd (false≢true h)
  value_without ts (call_text s n text) h = refl
  value_without ts (alloc s n) h = refl
  value_without ts (acc s x p n) h = absurd (false≢true h)

  pub values_without : (ts : Texts) (es : ExprTrees) → are_values es ≡ true → trees_without_calls (exprs_tree t f ts es) ≡ true
  values_without ts no_exprs h = refl
  values_without ts (expr_and x xs) h =
      let both = and_parts (is_value x) (are_values xs) h in
      and_from (tree_without_calls (expr_tree t f ts x)) (trees_without_calls (exprs_tree t f (expr_texts ts x) xs)) (value_without ts x both.0) (values_without (expr_texts ts x) xs both.1)

  -- ---- conjuncts
  choice_without : (at : Place) (e : ExprTree) (these those rest : gc0.Conjuncts) → is_value e ≡ true → parts_without_calls these ≡ true → parts_without_calls those ≡ true → parts_without_calls rest ≡ true →
      parts_without_calls (gc0.choice_part at (value_tree t f e) these those rest) ≡ true
  choice_without at e these those rest h i k l =
      let a = parts_without_calls these in
      let b = parts_without_calls those in
      let c = parts_without_calls rest in
      and_from (tree_without_calls (value_tree t f e)) (a && (b && c)) (value_without [] e h) (and_from a (b && c) i (and_from b c k l))

  choices_without : (at : Place) (e : ExprTree) (those rest : gc0.Conjuncts) → is_value e ≡ true → parts_without_calls those ≡ true → parts_without_calls rest ≡ true →
      parts_without_calls (choices t f at e those rest) ≡ true
  choices_without at (binary s op.Either a b) those rest h k l =
      let both = and_parts (is_value a) (is_value b) h in
      choices_without s.place a (choices t f at b those gc0.no_parts) rest both.0 (choices_without at b those gc0.no_parts both.1 k refl) l
  choices_without at e those rest h k l = choice_without at e (gc0.value_part (gc0.truth_at at true) gc0.no_parts) those rest h refl k l

  value_part_without : (e : ExprTree) (rest : gc0.Conjuncts) → is_value e ≡ true → parts_without_calls rest ≡ true → parts_without_calls (gc0.value_part (value_tree t f e) rest) ≡ true
  value_part_without e rest h k = and_from (tree_without_calls (value_tree t f e)) (parts_without_calls rest) (value_without [] e h) k

  pub parts_without : (e : ExprTree) (rest : gc0.Conjuncts) → are_parts e ≡ true → parts_without_calls rest ≡ true → parts_without_calls (parts t f e rest) ≡ true
  parts_without (binary s op.Both a b) rest h k =
      let both = and_parts (are_parts a) (are_parts b) h in
      parts_without a (parts t f b rest) both.0 (parts_without b rest both.1 k)
  parts_without (binary s op.Either a b) rest h k =
      let both = and_parts (is_value a) (are_parts b) h in
      choices_without s.place a (parts t f b gc0.no_parts) rest both.0 (parts_without b gc0.no_parts both.1 refl) k
  parts_without (choose s c a b) rest h k =
      let both = and_parts (is_value c) (are_parts a && are_parts b) h in
      let later = and_parts (are_parts a) (are_parts b) both.1 in
      choice_without s.place c (parts t f a gc0.no_parts) (parts t f b gc0.no_parts) rest both.0 (parts_without a gc0.no_parts later.0 refl) (parts_without b gc0.no_parts later.1 refl) k
  parts_without (acc s path p n) rest h k = and_from (tree_without_calls (value_tree t f path)) (parts_without_calls rest) (value_without [] path h) k
  parts_without (call s n args) rest h k = and_from (trees_without_calls (values_tree t f args)) (parts_without_calls rest) (values_without [] args h) k
  parts_without e rest h k = value_part_without e rest h k

  pub optional_without : (o : Option ExprTree) (rest : gc0.Conjuncts) → AreParts o → parts_without_calls rest ≡ true → parts_without_calls (optional_parts t f o rest) ≡ true
  optional_without None rest h k = k
  optional_without (Some e) rest h k = parts_without e rest h k

  pub all_without : (gs : List FormulaTree) (rest : gc0.Conjuncts) → Each IsFormula gs → parts_without_calls rest ≡ true → parts_without_calls (all_parts t f gs rest) ≡ true
  all_without [] rest h k = k
  all_without (g ∷ gs) rest h k = optional_without g.parts (all_parts t f gs rest) h.0 (all_without gs rest h.1 k)
