-- The texts of the string literals of expressions, in the order of the text: those before a part and its own. Formulas have none, by the grammar.
-- The numbers of texts are this project's own.
use Rattle.std.specs.Prelude.{ℕ, List, [], ◌∷◌, ◌++◌}
use Rattle.parsed_tree.specs.Tree.{ExprTree, number, truth, null, local, outcome, unary, binary, choose, arrow, call, call_text, alloc, acc, ExprTrees, no_exprs, expr_and}

abbrev pub Texts : Type 0
Texts = List (List ℕ)

abbrev mutual
  pub expr_texts : Texts → ExprTree → Texts
  expr_texts ts (number s w) = ts
  expr_texts ts (truth s b) = ts
  expr_texts ts (null s) = ts
  expr_texts ts (local s n) = ts
  expr_texts ts (outcome s) = ts
  expr_texts ts (unary s o x) = expr_texts ts x
  expr_texts ts (binary s o x y) = expr_texts (expr_texts ts x) y
  expr_texts ts (choose s x y z) = expr_texts (expr_texts (expr_texts ts x) y) z
  expr_texts ts (arrow s x n) = expr_texts ts x
  expr_texts ts (call s n xs) = exprs_texts ts xs
  expr_texts ts (call_text s n text) = ts ++ text.bytes ∷ []
  expr_texts ts (alloc s n) = ts
  expr_texts ts (acc s x p n) = ts

  pub exprs_texts : Texts → ExprTrees → Texts
  exprs_texts ts no_exprs = ts
  exprs_texts ts (expr_and x xs) = exprs_texts (expr_texts ts x) xs
