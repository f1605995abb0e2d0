-- What is written for a tree is that tree, places aside.
use Rattle.std.proofs.Common.{◌≡◌, ℕ, zero, suc, ◌+◌, Bool, true, false, List, [], ◌∷◌, map, length, Option, Some, None, refl, sym, ap, ◌∙◌}
use Rattle.gc0_base.specs.declared.place.Place.{Place}
use Rattle.parsed_tree.specs.declared.expressions.Named.{Named}
use Rattle.parsed_tree.specs.declared.expressions.Base.{Base}
use Rattle.parsed_tree.specs.declared.expressions.Base.TheVariants as base
use Rattle.parsed_tree.specs.declared.expressions.TypeName.{TypeName}
use Rattle.parsed_tree.specs.declared.expressions.Operator.{Operator}
use Rattle.parsed_tree.specs.declared.items.Library.{Library}
use Rattle.parsed_tree.specs.Tree.{ExprTree, number, truth, null, local, outcome, unary, binary, choose, arrow, call, call_text, alloc, acc, ExprTrees, no_exprs, expr_and, spot_of, from, FormulaTree, InstanceTree, NoteForm, assert_note, fold_note, unfold_note, NoteTree, InvariantTree, InvariantsTree, SimpleTree, declare, assign, stepped, plain, StmtTree, simple_stmt, block_stmt, if_stmt, while_stmt, for_stmt, return_stmt, assert_stmt, error_stmt, notes_stmt, StmtTrees, no_stmts, stmt_and, ClauseTree, ContractTree, PredicateTree, ItemTree, ProgramTree}
use Rattle.c0_grammar.specs.Allowed.{rank, ranks}
use Rattle.c0_grammar.specs.Written.{TypeText, type_tree, named_at, joined, chosen, pointed, Written, tree_of, args_trees, more_trees, FormulaText, formula_tree, unknown, unknown_and, known, Args}
use Rattle.c0_layout.specs.Rounding.{nowhere, rounded, is_wide, closed, is_no_primary, based}
use Rattle.c0_print.specs.Printing.{nowheres, base_of, type_of, written, args_of, more_of, formula_of}
use Rattle.c0_print.specs.Erased.{no_spot, erased_name, erased_base, erased_type, erased, all_erased, erased_formula}

pub stars_many : (n : ℕ) → length (nowheres n) ≡ n
stars_many zero = refl
stars_many (suc n) = ap suc (stars_many n)

pub type_again : (t : TypeName) → type_tree (type_of t) ≡ erased_type t
type_again t = by t.base t.stars
  where
    at_base : (n : ℕ) (b : Base) → (let u : TypeName = record { place = nowhere; base = b; stars = length (nowheres n) } in let v : TypeName = record { place = nowhere; base = b; stars = n } in u ≡ v)
    at_base n b = ap (λ k. let u : TypeName = record { place = nowhere; base = b; stars = k } in u) (stars_many n)

    by : (b : Base) (n : ℕ) → (let t : TypeName = record { place = nowhere; base = b; stars = n } in type_tree (type_of t) ≡ erased_type t)
    by base.Int n = at_base n base.Int
    by base.Bool n = at_base n base.Bool
    by (base.Struct m) n = at_base n (base.Struct (erased_name m))
    by (base.Alias m) n = at_base n (base.Alias m)

-- parentheses that stand nowhere change nothing
pub from_nowhere : (e : ExprTree) → from nowhere (erased e) ≡ erased e
from_nowhere (number s w) = refl
from_nowhere (truth s b) = refl
from_nowhere (null s) = refl
from_nowhere (local s n) = refl
from_nowhere (outcome s) = refl
from_nowhere (unary s o x) = refl
from_nowhere (binary s o x y) = refl
from_nowhere (choose s x y z) = refl
from_nowhere (arrow s x n) = refl
from_nowhere (call s n xs) = refl
from_nowhere (call_text s n t) = refl
from_nowhere (alloc s t) = refl
from_nowhere (acc s x p n) = refl

pub rounded_again : (b : Bool) (w : Written) (e : ExprTree) → tree_of w ≡ erased e → tree_of (rounded b w) ≡ erased e
rounded_again true w e h = ap (from nowhere) h ∙ from_nowhere e
rounded_again false w e h = h

pub joined_nowhere : (o : Operator) (x y : ExprTree) → joined nowhere o (erased x) (erased y) ≡ binary no_spot o (erased x) (erased y)
joined_nowhere o (number s w) y = refl
joined_nowhere o (truth s b) y = refl
joined_nowhere o (null s) y = refl
joined_nowhere o (local s n) y = refl
joined_nowhere o (outcome s) y = refl
joined_nowhere o (unary s p x) y = refl
joined_nowhere o (binary s p x z) y = refl
joined_nowhere o (choose s x z v) y = refl
joined_nowhere o (arrow s x n) y = refl
joined_nowhere o (call s n xs) y = refl
joined_nowhere o (call_text s n t) y = refl
joined_nowhere o (alloc s t) y = refl
joined_nowhere o (acc s x p n) y = refl

pub chosen_nowhere : (x y z : ExprTree) → chosen nowhere (erased x) (erased y) (erased z) ≡ choose no_spot (erased x) (erased y) (erased z)
chosen_nowhere (number s w) y z = refl
chosen_nowhere (truth s b) y z = refl
chosen_nowhere (null s) y z = refl
chosen_nowhere (local s n) y z = refl
chosen_nowhere (outcome s) y z = refl
chosen_nowhere (unary s p x) y z = refl
chosen_nowhere (binary s p x u) y z = refl
chosen_nowhere (choose s x u v) y z = refl
chosen_nowhere (arrow s x n) y z = refl
chosen_nowhere (call s n xs) y z = refl
chosen_nowhere (call_text s n t) y z = refl
chosen_nowhere (alloc s t) y z = refl
chosen_nowhere (acc s x p n) y z = refl

pub pointed_nowhere : (x : ExprTree) (n : List ℕ) → pointed nowhere (erased x) (named_at nowhere n) ≡ arrow no_spot (erased x) (named_at nowhere n)
pointed_nowhere (number s w) m = refl
pointed_nowhere (truth s b) m = refl
pointed_nowhere (null s) m = refl
pointed_nowhere (local s n) m = refl
pointed_nowhere (outcome s) m = refl
pointed_nowhere (unary s p x) m = refl
pointed_nowhere (binary s p x u) m = refl
pointed_nowhere (choose s x u v) m = refl
pointed_nowhere (arrow s x n) m = refl
pointed_nowhere (call s n xs) m = refl
pointed_nowhere (call_text s n t) m = refl
pointed_nowhere (alloc s t) m = refl
pointed_nowhere (acc s x p n) m = refl

pub closed_again : (k : ℕ) (x : ExprTree) → tree_of (written x) ≡ erased x → tree_of (closed k (written x)) ≡ erased x
closed_again k x h = rounded_again (is_wide k (written x)) (written x) x h

pub based_again : (x : ExprTree) → tree_of (written x) ≡ erased x → tree_of (based (written x)) ≡ erased x
based_again x h = rounded_again (is_no_primary (written x)) (written x) x h

mutual
  pub expr_again : (e : ExprTree) → tree_of (written e) ≡ erased e
  expr_again (number s w) = refl
  expr_again (truth s b) = refl
  expr_again (null s) = refl
  expr_again (local s n) = refl
  expr_again (outcome s) = refl
  expr_again (unary s o x) = ap (λ t. unary no_spot o t) (closed_again 0 x (expr_again x))
  expr_again (binary s o x y) =
      ap (λ t. joined nowhere o t (tree_of (closed (rank o) (written y)))) (closed_again (rank o + 1) x (expr_again x))
      ∙ ap (λ t. joined nowhere o (erased x) t) (closed_again (rank o) y (expr_again y))
      ∙ joined_nowhere o x y
  expr_again (choose s x y z) =
      ap (λ t. chosen nowhere t (tree_of (written y)) (tree_of (written z))) (closed_again ranks x (expr_again x))
      ∙ ap (λ t. chosen nowhere (erased x) t (tree_of (written z))) (expr_again y)
      ∙ ap (λ t. chosen nowhere (erased x) (erased y) t) (expr_again z)
      ∙ chosen_nowhere x y z
  expr_again (arrow s x n) = ap (λ t. pointed nowhere t (named_at nowhere n.name)) (based_again x (expr_again x)) ∙ pointed_nowhere x n.name
  expr_again (call s n xs) = ap (λ t. call no_spot n t) (args_again xs)
  expr_again (call_text s n t) = refl
  expr_again (alloc s t) = ap (λ u. alloc no_spot u) (type_again t)
  expr_again (acc s x p n) = ap (λ t. acc no_spot t nowhere (named_at nowhere n.name)) (expr_again x)

  pub args_again : (xs : ExprTrees) → args_trees (args_of xs) ≡ all_erased xs
  args_again no_exprs = refl
  args_again (expr_and x xs) = ap (λ t. expr_and t (more_trees (more_of xs))) (expr_again x) ∙ ap (λ t. expr_and (erased x) t) (more_again xs)

  pub more_again : (xs : ExprTrees) → more_trees (more_of xs) ≡ all_erased xs
  more_again no_exprs = refl
  more_again (expr_and x xs) = ap (λ t. expr_and t (more_trees (more_of xs))) (expr_again x) ∙ ap (λ t. expr_and (erased x) t) (more_again xs)

-- a formula that was read
pub formula_again : (f : FormulaText) → formula_tree (formula_of (formula_tree f)) ≡ erased_formula (formula_tree f)
formula_again (unknown at) = refl
formula_again (unknown_and at a x) = ap (λ t. let f : FormulaTree = record { imprecise = true; parts = Some t } in f) (expr_again (tree_of x))
formula_again (known x) = ap (λ t. let f : FormulaTree = record { imprecise = false; parts = Some t } in f) (expr_again (tree_of x))
