-- Parts of a tree before others, as they are pushed.
use Rattle.std.proofs.Common.{◌≡◌, ℕ, suc, ◌+◌, Bool, true, false, ◌&&◌, List, [], ◌∷◌, ◌++◌, map, length, drop, slice_get, Option, ◌≤◌, ◌<◌, refl, sym, ap, ◌∙◌, arith}
use Rattle.std.proofs.Math.ListN.{drop_of_length-le}
use Rattle.gc0_tree.specs.declared.Expr.{Expr}
use Rattle.gc0_tree.specs.declared.Conjunct.{Conjunct}
use Rattle.gc0_tree.specs.Views.{expr_view, exprs_view, conjunct_view, in_front}
use Rattle.gc0_tree.specs.Tree.{Tree, Trees, no_trees, tree_and, Conjuncts}
use Rattle.parsed_tree.specs.declared.expressions.Expr as read_expr
use Rattle.parsed_tree.specs.Views as view
use Rattle.c0_names.specs.declared.types.ValueType.{ValueType}
use Rattle.c0_names.specs.declared.tables.Tables.{Tables}
use Rattle.c0_names.specs.Typing.{argument_fits}
use Rattle.c0_value_numbers.specs.Values.{type_in_frame, arguments_fit_in_frame}
use Rattle.c0_value_numbers.specs.declared.frame.Frame.{Frame}
use Rattle.c0_value_numbers.specs.Texts.{Texts, expr_texts, exprs_texts}
use Rattle.c0_value_numbers.specs.Expressions.{expr_tree, exprs_tree}

and_assoc : (a b c : Bool) → (a && b) && c ≡ a && (b && c)
and_assoc true b c = refl
and_assoc false b c = refl

abbrev pub trees_before : List Expr → Trees → Trees
trees_before [] rest = rest
trees_before (e ∷ es) rest = tree_and (expr_view e) (trees_before es rest)

pub tree_pushed : (es : List Expr) (e : Expr) (rest : Trees) → trees_before (es ++ e ∷ []) rest ≡ trees_before es (tree_and (expr_view e) rest)
tree_pushed [] e rest = refl
tree_pushed (x ∷ es) e rest = ap (tree_and (expr_view x)) (tree_pushed es e rest)

pub trees_whole : (es : List Expr) → trees_before es no_trees ≡ exprs_view es
trees_whole [] = refl
trees_whole (x ∷ es) = ap (tree_and (expr_view x)) (trees_whole es)

-- ---- one step further
module _ (t : Tables) (f : Frame) where
  pub tree_step : (ts ts2 : Texts) (made made2 : List Expr) (x : Expr) (es rest : List read_expr.Expr) (e : read_expr.Expr) (whole : Trees) → es ≡ e ∷ rest → made2 ≡ made ++ x ∷ [] → expr_view x ≡ expr_tree t f ts (view.expr_view e) → ts2 ≡ expr_texts ts (view.expr_view e) → trees_before made (exprs_tree t f ts (view.exprs_view es)) ≡ whole → trees_before made2 (exprs_tree t f ts2 (view.exprs_view rest)) ≡ whole
  tree_step ts ts2 made made2 x es rest e whole h p v q i =
      let r = exprs_tree t f (expr_texts ts (view.expr_view e)) (view.exprs_view rest) in
      ap (λ m. trees_before m (exprs_tree t f ts2 (view.exprs_view rest))) p ∙ ap (λ q2. trees_before (made ++ x ∷ []) (exprs_tree t f q2 (view.exprs_view rest))) q ∙ tree_pushed made x r ∙ ap (λ y. trees_before made (tree_and y r)) v ∙ ap (λ l. trees_before made (exprs_tree t f ts (view.exprs_view l))) (sym h) ∙ i

  pub tree_done : (ts : Texts) (made : List Expr) (es : List read_expr.Expr) (n : ℕ) (whole : Trees) → length es ≤ n → trees_before made (exprs_tree t f ts (view.exprs_view (drop n es))) ≡ whole → exprs_view made ≡ whole
  tree_done ts made es n whole le i = sym (trees_whole made) ∙ ap (λ l. trees_before made (exprs_tree t f ts (view.exprs_view l))) (sym (drop_of_length-le es le)) ∙ i

  pub fit_step : (ps : List ValueType) (i : ℕ) (b b2 : Bool) (v : Option ValueType) (es rest : List read_expr.Expr) (e : read_expr.Expr) (whole : Bool) → es ≡ e ∷ rest → v ≡ type_in_frame t f (view.expr_view e) → b2 ≡ (b && argument_fits (slice_get ps i) v) → b && arguments_fit_in_frame t f ps i (view.exprs_view es) ≡ whole → b2 && arguments_fit_in_frame t f ps (i + 1) (view.exprs_view rest) ≡ whole
  fit_step ps i b b2 v es rest e whole h p q w =
      let r = arguments_fit_in_frame t f ps (i + 1) (view.exprs_view rest) in
      ap (λ c. c && r) q ∙ ap (λ u. (b && argument_fits (slice_get ps i) u) && r) p ∙ and_assoc b (argument_fits (slice_get ps i) (type_in_frame t f (view.expr_view e))) r ∙ ap (λ l. b && arguments_fit_in_frame t f ps i (view.exprs_view l)) (sym h) ∙ w

pub texts_step : (ts ts2 whole : Texts) (es rest : List read_expr.Expr) (e : read_expr.Expr) → es ≡ e ∷ rest → ts2 ≡ expr_texts ts (view.expr_view e) → exprs_texts ts (view.exprs_view es) ≡ whole → exprs_texts ts2 (view.exprs_view rest) ≡ whole
texts_step ts ts2 whole es rest e h q i = ap (λ q2. exprs_texts q2 (view.exprs_view rest)) q ∙ ap (λ l. exprs_texts ts (view.exprs_view l)) (sym h) ∙ i

-- ---- conjuncts
abbrev pub parts_before : List Conjunct → Conjuncts → Conjuncts
parts_before cs rest = in_front (map conjunct_view cs) rest

pub part_pushed : (cs : List Conjunct) (c : Conjunct) (rest : Conjuncts) → parts_before (cs ++ c ∷ []) rest ≡ parts_before cs (conjunct_view c rest)
part_pushed [] c rest = refl
part_pushed (x ∷ cs) c rest = ap (conjunct_view x) (part_pushed cs c rest)
