-- That no call stands in a value of a formula that the grammar allows.
use Rattle.std.proofs.Common.{◌≡◌, ℕ, Bool, true, false, ◌&&◌, List, [], ◌∷◌, ◌++◌, map, if◌then◌else◌, refl}
use Rattle.std.proofs.lemmas.Bool.{and_from, false≢true}
use Rattle.gc0_base.specs.declared.place.Place.{Place}
use Rattle.parsed_tree.specs.declared.expressions.Operator.TheVariants as op
use Rattle.parsed_tree.specs.declared.items.Side.{Side}
use Rattle.parsed_tree.specs.Tree.{ExprTree, number, truth, null, local, outcome, unary, binary, choose, arrow, call, call_text, alloc, acc, from, FormulaTree}
use Rattle.c0_grammar.specs.Allowed.{conjunct, value, is_value, is_path, Good, GoodArgs, GoodMore, GoodFormula}
use Rattle.c0_grammar.specs.Grammar.{GoodInvariant, GoodInvariants, GoodClause, GoodContract}
use Rattle.c0_grammar.specs.Lists.{Each}
use Rattle.c0_grammar.specs.Written.{Written, digits, truth_token, null_token, word, result_word, before, between, choice, round, called, called_text, allocated, arrow_to, permission, Args, no_args, some_args, More, no_more, more_and, tree_of, args_trees, more_trees, FormulaText, unknown, unknown_and, known, formula_tree}
use Rattle.c0_grammar.specs.Texts.{InvariantText, invariant_tree, InvariantsText, invariants_tree, ClauseText, clause_tree, ContractText, contract_tree}
use Rattle.c0_value_numbers.specs.Formulas.{is_of, side_clauses, side_contracts, invariant_clauses, invariants}
use Rattle.resolved_laws.proofs.FormulaValues.{are_values, are_parts, IsFormula}

-- ---- parentheses change nothing
from_value : (a : Place) (e : ExprTree) → is_value e ≡ true → is_value (from a e) ≡ true
from_value a (number s w) h = refl
from_value a (truth s b) h = refl
from_value a (null s) h = refl
from_value a (local s n) h = refl
from_value a (outcome s) h = refl
from_value a (unary s o x) h = h
from_value a (binary s o x y) h = h
from_value a (choose s x y z) h = h
from_value a (arrow s x n) h = h
from_value a (call s n xs) h = h
from_value a (call_text s n t) h = refl
from_value a (alloc s t) h = refl
from_value a (acc s x p n) h = h

from_parts : (a : Place) (e : ExprTree) → are_parts e ≡ true → are_parts (from a e) ≡ true
from_parts a (number s w) h = refl
from_parts a (truth s b) h = refl
from_parts a (null s) h = refl
from_parts a (local s n) h = refl
from_parts a (outcome s) h = refl
from_parts a (unary s o x) h = h
from_parts a (binary s o x y) h = h
from_parts a (choose s x y z) h = h
from_parts a (arrow s x n) h = h
from_parts a (call s n xs) h = h
from_parts a (call_text s n t) h = refl
from_parts a (alloc s t) h = refl
from_parts a (acc s x p n) h = h

-- ---- expressions
path_value : (x : Written) → is_path x ≡ true → is_value (tree_of x) ≡ true
path_value (word at n) h = refl
path_value (result_word at) h = refl
path_value (arrow_to x at f n) h = path_value x h
path_value x h = absurd (false≢true h)

module _ (names : List (List ℕ)) where
  written_value : (x : Written) → Good names value x → is_value (tree_of x) ≡ true
  written_value (digits at w) h = refl
  written_value (truth_token at b) h = refl
  written_value (null_token at) h = refl
  written_value (word at n) h = refl
  written_value (result_word at) h = refl
  written_value (before at o x) h = written_value x h.0
  written_value (between x at o y) h = and_from (is_value (tree_of x)) (is_value (tree_of y)) (written_value x h.0) (written_value y h.1)
  written_value (choice x q y c z) h =
      let a = is_value (tree_of x) in
      let b = is_value (tree_of y) in
      let d = is_value (tree_of z) in
      and_from (a && b) d (and_from a b (written_value x h.0) (written_value y h.1)) (written_value z h.2)
  written_value (round a x b) h = from_value a (tree_of x) (written_value x h)
  written_value (called at n a xs b) h = absurd (false≢true h.1)
  written_value (called_text at n a t bytes b) h = refl
  written_value (allocated at a t b) h = refl
  written_value (arrow_to x at f n) h = written_value x h.0
  written_value (permission at a x p f n b) h = absurd (false≢true h.0)

  more_values : (xs : More) → GoodMore names value xs → are_values (more_trees xs) ≡ true
  more_values no_more h = refl
  more_values (more_and at x xs) h = and_from (is_value (tree_of x)) (are_values (more_trees xs)) (written_value x h.0) (more_values xs h.1)

  pub args_values : (xs : Args) → GoodArgs names value xs → are_values (args_trees xs) ≡ true
  args_values no_args h = refl
  args_values (some_args x xs) h = and_from (is_value (tree_of x)) (are_values (more_trees xs)) (written_value x h.0) (more_values xs h.1)

  pub written_parts : (x : Written) → Good names conjunct x → are_parts (tree_of x) ≡ true
  written_parts (digits at w) h = refl
  written_parts (truth_token at b) h = refl
  written_parts (null_token at) h = refl
  written_parts (word at n) h = refl
  written_parts (result_word at) h = refl
  written_parts (before at o x) h = written_value x h.0
  written_parts (between x at op.Both y) h = and_from (are_parts (tree_of x)) (are_parts (tree_of y)) (written_parts x h.0) (written_parts y h.1)
  written_parts (between x at op.Either y) h = and_from (is_value (tree_of x)) (are_parts (tree_of y)) h.5 (written_parts y h.1)
  written_parts (between x at o y) h = and_from (is_value (tree_of x)) (is_value (tree_of y)) h.5 (written_value y h.1)
  written_parts (choice x q y c z) h =
      let a = is_value (tree_of x) in
      let b = are_parts (tree_of y) in
      let d = are_parts (tree_of z) in
      and_from a (b && d) h.4 (and_from b d (written_parts y h.1) (written_parts z h.2))
  written_parts (round a x b) h = from_parts a (tree_of x) (written_parts x h)
  written_parts (called at n a xs b) h = args_values xs h.2
  written_parts (called_text at n a t bytes b) h = refl
  written_parts (allocated at a t b) h = refl
  written_parts (arrow_to x at f n) h = path_value x h.1
  written_parts (permission at a x p f n b) h = written_value x h.1

  -- ---- formulas
  pub written_formula : (g : FormulaText) → GoodFormula names g → IsFormula (formula_tree g)
  written_formula (unknown at) h = tt
  written_formula (unknown_and at a x) h = written_parts x h
  written_formula (known x) h = written_parts x h

  -- ---- clauses one after another
  each_append : (gs hs : List FormulaTree) → Each IsFormula gs → Each IsFormula hs → Each IsFormula (gs ++ hs)
  each_append [] hs h k = k
  each_append (g ∷ gs) hs h k = (h.0, each_append gs hs h.1 k)

  written_clauses : (is : List InvariantText) → Each (GoodInvariant names) is → Each IsFormula (invariant_clauses (map invariant_tree is))
  written_clauses [] h = tt
  written_clauses (i ∷ is) h = (written_formula i.formula h.0, written_clauses is h.1)

  pub written_invariants : (is : List InvariantsText) → Each (GoodInvariants names) is → Each IsFormula (invariants (map invariants_tree is))
  written_invariants [] h = tt
  written_invariants (i ∷ is) h =
      each_append (invariant_clauses (map invariant_tree i.clauses)) (invariants (map invariants_tree is)) (written_clauses i.clauses h.0) (written_invariants is h.1)

  kept_clause : (b : Bool) (g : FormulaTree) (gs : List FormulaTree) → IsFormula g → Each IsFormula gs → Each IsFormula (if b then g ∷ gs else gs)
  kept_clause true g gs h k = (h, k)
  kept_clause false g gs h k = k

  written_side : (side : Side) (cs : List ClauseText) → Each (GoodClause names) cs → Each IsFormula (side_clauses side (map clause_tree cs))
  written_side side [] h = tt
  written_side side (c ∷ cs) h =
      kept_clause (is_of side c.side) (formula_tree c.formula) (side_clauses side (map clause_tree cs)) (written_formula c.formula h.0) (written_side side cs h.1)

  pub written_contracts : (side : Side) (cs : List ContractText) → Each (GoodContract names) cs → Each IsFormula (side_contracts side (map contract_tree cs))
  written_contracts side [] h = tt
  written_contracts side (c ∷ cs) h =
      each_append (side_clauses side (map clause_tree c.clauses)) (side_contracts side (map contract_tree cs)) (written_side side c.clauses h.0) (written_contracts side cs h.1)
