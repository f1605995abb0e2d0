-- What is written for an expression that the grammar allows is allowed.
use Rattle.std.proofs.Common.{◌≡◌, ℕ, zero, suc, ◌+◌, ◌≤◌, Bool, true, false, cond, not, ◌&&◌, nat_le, List, [], ◌∷◌, map, Option, Some, None, refl, sym, ap, ◌∙◌, subst, arith, leb}
use Rattle.std.proofs.lemmas.Bool.{leb-true}
use Rattle.gc0_base.specs.declared.place.Place.{Place}
use Rattle.parsed_tree.specs.declared.expressions.Operator.{Operator}
use Rattle.parsed_tree.specs.declared.expressions.Operator.TheVariants as op
use Rattle.parsed_tree.specs.Tree.{ExprTree, number, truth, null, local, outcome, unary, binary, choose, arrow, call, call_text, alloc, acc, from}
use Rattle.c0_grammar.specs.Written.{BaseText, int_word, bool_word, struct_word, alias_word, base_tree, TypeText, type_tree, Written, digits, truth_token, null_token, word, result_word, before, between, choice, round, called, called_text, allocated, arrow_to, permission, Args, no_args, some_args, More, no_more, more_and, tree_of, args_trees, more_trees, FormulaText, unknown, unknown_and, known, formula_tree}
use Rattle.c0_grammar.specs.Allowed.{rank, ranks, height, is_primary, is_path, Mode, code, conjunct, value, is_code, is_conjunct, has_calls, inside, right_of, has, is_value, left_fits, condition_fits, base_fits, GoodBase, GoodType, Good, GoodArgs, GoodMore, GoodFormula}
use Rattle.c0_grammar.specs.Grammar.{is_place}
use Rattle.c0_layout.specs.Rounding.{nowhere, rounded, is_wide, closed, is_no_primary, based}
use Rattle.c0_print.specs.Printing.{base_of, type_of, written, args_of, more_of, formula_of}
use Rattle.c0_print.specs.Erased.{erased}
use Rattle.c0_print.proofs.Trees.{closed_again, expr_again}

-- ---- places count for nothing
pub value_same : (e : ExprTree) → is_value (erased e) ≡ is_value e
value_same (number s w) = refl
value_same (truth s b) = refl
value_same (null s) = refl
value_same (local s n) = refl
value_same (outcome s) = refl
value_same (unary s o x) = value_same x
value_same (binary s o x y) = ap (λ b. b && is_value (erased y)) (value_same x) ∙ ap (λ b. is_value x && b) (value_same y)
value_same (choose s x y z) =
    ap (λ b. b && is_value (erased y) && is_value (erased z)) (value_same x)
    ∙ ap (λ b. is_value x && b && is_value (erased z)) (value_same y)
    ∙ ap (λ b. is_value x && is_value y && b) (value_same z)
value_same (arrow s x n) = value_same x
value_same (call s n xs) = refl
value_same (call_text s n t) = refl
value_same (alloc s t) = refl
value_same (acc s x p n) = refl

pub place_same : (e : ExprTree) → is_place (erased e) ≡ is_place e
place_same (number s w) = refl
place_same (truth s b) = refl
place_same (null s) = refl
place_same (local s n) = refl
place_same (outcome s) = refl
place_same (unary s o x) = refl
place_same (binary s o x y) = refl
place_same (choose s x y z) = refl
place_same (arrow s x n) = refl
place_same (call s n xs) = refl
place_same (call_text s n t) = refl
place_same (alloc s t) = refl
place_same (acc s x p n) = refl

pub left_same : (m : Mode) (o : Operator) (e f : ExprTree) → is_value e ≡ is_value f → left_fits m o e ≡ left_fits m o f
left_same code o e f h = refl
left_same conjunct op.Mul e f h = h
left_same conjunct op.Div e f h = h
left_same conjunct op.Rem e f h = h
left_same conjunct op.Add e f h = h
left_same conjunct op.Sub e f h = h
left_same conjunct op.Shl e f h = h
left_same conjunct op.Shr e f h = h
left_same conjunct op.Less e f h = h
left_same conjunct op.LessEq e f h = h
left_same conjunct op.Greater e f h = h
left_same conjunct op.GreaterEq e f h = h
left_same conjunct op.Equal e f h = h
left_same conjunct op.NotEqual e f h = h
left_same conjunct op.And e f h = h
left_same conjunct op.Xor e f h = h
left_same conjunct op.Or e f h = h
left_same conjunct op.Both e f h = refl
left_same conjunct op.Either e f h = h
left_same value o e f h = refl

pub condition_same : (m : Mode) (e f : ExprTree) → is_value e ≡ is_value f → condition_fits m e ≡ condition_fits m f
condition_same code e f h = refl
condition_same conjunct e f h = h
condition_same value e f h = refl

pub from_same : (a : Place) (e : ExprTree) → written (from a e) ≡ written e
from_same a (number s w) = refl
from_same a (truth s b) = refl
from_same a (null s) = refl
from_same a (local s n) = refl
from_same a (outcome s) = refl
from_same a (unary s o x) = refl
from_same a (binary s o x y) = refl
from_same a (choose s x y z) = refl
from_same a (arrow s x n) = refl
from_same a (call s n xs) = refl
from_same a (call_text s n t) = refl
from_same a (alloc s t) = refl
from_same a (acc s x p n) = refl

-- ---- parentheses
pub closed_height : (k : ℕ) (w : Written) → height (closed k w) ≤ k
closed_height k w = by (nat_le (height w) k) refl
  where
    by : (b : Bool) → nat_le (height w) k ≡ b → height (rounded (cond b false true) w) ≤ k
    by true h = leb-true (height w) k h
    by false h = omega arith

pub based_primary : (w : Written) → is_primary (based w) ≡ true
based_primary w = by (is_primary w) refl
  where
    by : (b : Bool) → is_primary w ≡ b → is_primary (rounded (cond b false true) w) ≡ true
    by true h = h
    by false h = refl

pub primary_based : (w : Written) → is_primary w ≡ true → based w ≡ w
primary_based w h = ap (λ b. rounded (cond b false true) w) h

pub path_primary : (w : Written) → is_path w ≡ true → is_primary w ≡ true
path_primary (digits at w) h = refl
path_primary (truth_token at b) h = refl
path_primary (null_token at) h = refl
path_primary (word at n) h = refl
path_primary (result_word at) h = refl
path_primary (before at o x) h = h
path_primary (between x at o y) h = h
path_primary (choice x q y c z) h = h
path_primary (round a x b) h = refl
path_primary (called at n a xs b) h = refl
path_primary (called_text at n a t bytes b) h = refl
path_primary (allocated at a t b) h = refl
path_primary (arrow_to x at f n) h = refl
path_primary (permission at a x p f n b) h = refl

pub path_based : (w : Written) → is_path w ≡ true → is_path (based w) ≡ true
path_based w h = ap is_path (primary_based w (path_primary w h)) ∙ h

pub path_again : (x : Written) → is_path x ≡ true → is_path (written (tree_of x)) ≡ true
path_again (digits at w) h = h
path_again (truth_token at b) h = h
path_again (null_token at) h = h
path_again (word at n) h = refl
path_again (result_word at) h = refl
path_again (before at o x) h = h
path_again (between x at o y) h = h
path_again (choice x q y c z) h = h
path_again (round a x b) h = let n : ⊥ = cc in absurd n
path_again (called at n a xs b) h = h
path_again (called_text at n a t bytes b) h = h
path_again (allocated at a t b) h = h
path_again (arrow_to x at f n) h = path_based (written (tree_of x)) (path_again x h)
path_again (permission at a x p f n b) h = h

base_again : (m : Mode) (x : Written) → base_fits m x ≡ true → base_fits m (based (written (tree_of x))) ≡ true
base_again code x h = based_primary (written (tree_of x))
base_again conjunct x h = path_based (written (tree_of x)) (path_again x h)
base_again value x h = path_based (written (tree_of x)) (path_again x h)

-- ---- expressions
module _ (names : List (List ℕ)) where
  base_good : (b : BaseText) → GoodBase names b → GoodBase names (base_of (base_tree b))
  base_good (int_word at) g = g
  base_good (bool_word at) g = g
  base_good (struct_word at n name) g = g
  base_good (alias_word at name) g = g

  pub type_good : (t : TypeText) → GoodType names t → GoodType names (type_of (type_tree t))
  type_good t g = base_good t.base g

  pub rounded_good : (m : Mode) (b : Bool) (w : Written) → Good names m w → Good names m (rounded b w)
  rounded_good m true w g = g
  rounded_good m false w g = g

  closed_good : (m : Mode) (k : ℕ) (w : Written) → Good names m w → Good names m (closed k w)
  closed_good m k w g = rounded_good m (is_wide k w) w g

  flat : (w : Written) → height (closed 0 w) ≡ 0
  flat w = let h : height (closed 0 w) ≤ 0 = closed_height 0 w in omega (arith, h)

  left_height : (o : Operator) (w : Written) → height (closed (rank o + 1) w) ≤ suc (rank o)
  left_height o w = let h : height (closed (rank o + 1) w) ≤ rank o + 1 = closed_height (rank o + 1) w in omega (arith, h)

  closed_value : (k : ℕ) (e : ExprTree) → is_value (tree_of (closed k (written e))) ≡ is_value e
  closed_value k e = ap is_value (closed_again k e (expr_again e)) ∙ value_same e

  mutual
    pub expr_good : (m : Mode) (w : Written) → Good names m w → Good names m (written (tree_of w))
    expr_good m (digits at w) g = g
    expr_good m (truth_token at b) g = g
    expr_good m (null_token at) g = g
    expr_good m (word at n) g = g
    expr_good m (result_word at) g = g
    expr_good m (before at o x) g = (closed_good (inside m) 0 (written (tree_of x)) (expr_good (inside m) x g.0), flat (written (tree_of x)))
    expr_good m (between x at o y) g = (
      closed_good m (rank o + 1) (written (tree_of x)) (expr_good m x g.0),
      closed_good (right_of m o) (rank o) (written (tree_of y)) (expr_good (right_of m o) y g.1),
      left_height o (written (tree_of x)),
      closed_height (rank o) (written (tree_of y)),
      g.4,
      left_same m o (tree_of (closed (rank o + 1) (written (tree_of x)))) (tree_of x) (closed_value (rank o + 1) (tree_of x)) ∙ g.5,
    )
    expr_good m (choice x q y c z) g = (
      closed_good m ranks (written (tree_of x)) (expr_good m x g.0),
      expr_good m y g.1,
      expr_good m z g.2,
      closed_height ranks (written (tree_of x)),
      condition_same m (tree_of (closed ranks (written (tree_of x)))) (tree_of x) (closed_value ranks (tree_of x)) ∙ g.4,
    )
    expr_good m (round a x b) g = let P : Written → Type 0 = Good names m in subst P (sym (from_same a (tree_of x))) (expr_good m x g)
    expr_good m (called at n a xs b) g = (g.0, g.1, args_good (inside m) xs g.2)
    expr_good m (called_text at n a t bytes b) g = g
    expr_good m (allocated at a t b) g = (g.0, type_good t g.1)
    expr_good m (arrow_to x at f n) g = (rounded_good m (is_no_primary (written (tree_of x))) (written (tree_of x)) (expr_good m x g.0), base_again m x g.1)
    expr_good m (permission at a x p f n b) g = (g.0, expr_good value x g.1, path_again x g.2)

    pub args_good : (m : Mode) (xs : Args) → GoodArgs names m xs → GoodArgs names m (args_of (args_trees xs))
    args_good m no_args g = g
    args_good m (some_args x xs) g = (expr_good m x g.0, more_good m xs g.1)

    pub more_good : (m : Mode) (xs : More) → GoodMore names m xs → GoodMore names m (more_of (more_trees xs))
    more_good m no_more g = g
    more_good m (more_and at x xs) g = (expr_good m x g.0, more_good m xs g.1)

  pub formula_good : (f : FormulaText) → GoodFormula names f → GoodFormula names (formula_of (formula_tree f))
  formula_good (unknown at) g = g
  formula_good (unknown_and at a x) g = expr_good conjunct x g
  formula_good (known x) g = expr_good conjunct x g
