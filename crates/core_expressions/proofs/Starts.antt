-- No token of the code is a start.
use Rattle.std.proofs.Common.{◌≡◌, List, [], ◌++◌, refl, sym, ap, subst, ◌∙◌, Some, None}
use Rattle.std.specs.Prelude.{count_by}
use Rattle.gc0_base.specs.declared.place.Place.{Place}
use Rattle.gc0_base.specs.declared.site.Kind.{Kind}
use Rattle.gc0_base.specs.declared.site.Kind.TheVariants as kind
use Rattle.gc0_tree.specs.Sites.{tree_tokens, trees_tokens, stmt_tokens, stmts_tokens, ordinal, is_before}
use Rattle.gc0_tree.specs.Tree.{Tree, number_at, truth_at, null_at, local_at, result_at, unary_at, binary_at, both_at, either_at, choose_at, read_at, call_at, library_at, alloc_at, Trees, no_trees, tree_and, assert_note, fold_note, unfold_note, Stmt, declare_at, assign_at, write_at, plain_at, block_at, if_at, while_at, for_at, return_at, assert_at, raise_at, note_at, Stmts, no_stmts, stmt_and, Function}

none_after : (xs ys : List Place) → xs ≡ [] → ys ≡ [] → xs ++ ys ≡ []
none_after xs ys e f = ap (λ l. l ++ ys) e ∙ f

mutual
  in_tree : (e : Tree) → tree_tokens kind.Start e ≡ []
  in_tree (number_at at n) = refl
  in_tree (truth_at at b) = refl
  in_tree (null_at at) = refl
  in_tree (local_at at i) = refl
  in_tree (result_at at) = refl
  in_tree (unary_at at o a) = in_tree a
  in_tree (binary_at at o a b) = none_after (tree_tokens kind.Start a) (tree_tokens kind.Start b) (in_tree a) (in_tree b)
  in_tree (both_at at a b) = none_after (tree_tokens kind.Start a) (tree_tokens kind.Start b) (in_tree a) (in_tree b)
  in_tree (either_at at a b) = none_after (tree_tokens kind.Start a) (tree_tokens kind.Start b) (in_tree a) (in_tree b)
  in_tree (choose_at at a b c) =
      none_after (tree_tokens kind.Start a) (tree_tokens kind.Start b ++ tree_tokens kind.Start c) (in_tree a)
      (none_after (tree_tokens kind.Start b) (tree_tokens kind.Start c) (in_tree b) (in_tree c))
  in_tree (read_at at a s f) = in_tree a
  in_tree (call_at at g es) = in_trees es
  in_tree (library_at at l es t) = in_trees es
  in_tree (alloc_at at s) = refl

  in_trees : (es : Trees) → trees_tokens kind.Start es ≡ []
  in_trees no_trees = refl
  in_trees (tree_and e es) = none_after (tree_tokens kind.Start e) (trees_tokens kind.Start es) (in_tree e) (in_trees es)

mutual
  in_stmt : (s : Stmt) → stmt_tokens kind.Start s ≡ []
  in_stmt (declare_at at i es) = in_trees es
  in_stmt (assign_at at i None op_at e) = in_tree e
  in_stmt (assign_at at i (Some o) op_at e) = in_tree e
  in_stmt (write_at at base s f arrow None op_at e) =
      none_after (tree_tokens kind.Start base) (tree_tokens kind.Start e) (in_tree base) (in_tree e)
  in_stmt (write_at at base s f arrow (Some o) op_at e) =
      none_after (tree_tokens kind.Start base) (tree_tokens kind.Start e) (in_tree base) (in_tree e)
  in_stmt (plain_at at e) = in_tree e
  in_stmt (block_at at ss) = in_stmts ss
  in_stmt (if_at at c a b) =
      none_after (tree_tokens kind.Start c) (stmt_tokens kind.Start a ++ stmts_tokens kind.Start b) (in_tree c)
      (none_after (stmt_tokens kind.Start a) (stmts_tokens kind.Start b) (in_stmt a) (in_stmts b))
  in_stmt (while_at at inv c a) = none_after (tree_tokens kind.Start c) (stmt_tokens kind.Start a) (in_tree c) (in_stmt a)
  in_stmt (for_at at first c last inv a) =
      none_after (stmts_tokens kind.Start first) (tree_tokens kind.Start c ++ (stmts_tokens kind.Start last ++ stmt_tokens kind.Start a)) (in_stmts first)
      (none_after (tree_tokens kind.Start c) (stmts_tokens kind.Start last ++ stmt_tokens kind.Start a) (in_tree c)
      (none_after (stmts_tokens kind.Start last) (stmt_tokens kind.Start a) (in_stmts last) (in_stmt a)))
  in_stmt (return_at at es) = in_trees es
  in_stmt (assert_at at e) = in_tree e
  in_stmt (raise_at at t) = refl
  in_stmt (note_at at assert_note f) = refl
  in_stmt (note_at at fold_note f) = refl
  in_stmt (note_at at unfold_note f) = refl

  in_stmts : (ss : Stmts) → stmts_tokens kind.Start ss ≡ []
  in_stmts no_stmts = refl
  in_stmts (stmt_and s ss) = none_after (stmt_tokens kind.Start s) (stmts_tokens kind.Start ss) (in_stmt s) (in_stmts ss)

at_start : (f : Function) (at : Place) → 0 ≡ ordinal f kind.Start at
at_start f at = ap (λ l. count_by (λ token. is_before token at) l) (sym (in_stmts f.body))

pub start_ordinal : (f : Function) (k : Kind) (at : Place) → k ≡ kind.Start → 0 ≡ ordinal f k at
start_ordinal f k at e = subst (λ j. 0 ≡ ordinal f j at) (sym e) (at_start f at)
