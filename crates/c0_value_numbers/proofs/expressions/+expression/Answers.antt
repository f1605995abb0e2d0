-- What the search leaves of the proofs of the calls around `expression`.
use Rattle.std.proofs.Common.{◌≡◌, ◌∙◌, [], ◌∷◌, ◌++◌, ap, sym, ◌+◌, drop}
use Rattle.std.proofs.lemmas.List.{drop_more}
use Rattle.c0_value_numbers.proofs.Fronts.{tree_step, tree_done, fit_step, texts_step}
use Rattle.c0_value_numbers.proofs.expressions.+expression.Goals as goal

pub arguments-loop-e-preserved : goal.arguments-loop-e-preserved
arguments-loop-e-preserved t c =
    let es = c.args.es.now in
    let i = c.loop-e.e-index in
    let first = drop_more es i c.e-item.result c.loop-e-test.true ∙ ap (λ x. x ∷ drop (i + 1) es) (sym c.e-item.is) in
    let pushed = c.in_ok-push.ensures.ok ∙ ap (λ x. c.loop-e.made ++ x ∷ []) c.into_inner.ensures in
    record {
      at = ap (λ n. n + 1) c.loop-e.invariant.at;
      tree = tree_step c.args.tables.now c.args.frame.now c.loop-e.texts _ c.loop-e.made _ c.in_ok-e.e.tree (drop i es) (drop (i + 1) es) c.e-item.result _ first pushed c.in_ok-e.ensures.tree c.in_ok-e.ensures.texts c.loop-e.invariant.tree;
      fit = fit_step c.args.tables.now c.args.frame.now c.args.params.now c.loop-e.number c.loop-e.fit _ _ (drop i es) (drop (i + 1) es) c.e-item.result _ first c.in_ok-e.ensures.typed c.fit_behind-fit.ensures c.loop-e.invariant.fit;
      texts = texts_step c.loop-e.texts _ _ (drop i es) (drop (i + 1) es) c.e-item.result first c.in_ok-e.ensures.texts c.loop-e.invariant.texts;
    }

pub arguments-returns-clause-tree : goal.arguments-returns-clause-tree
arguments-returns-clause-tree t c = tree_done c.args.tables.now c.args.frame.now c.loop-e.texts c.loop-e.made c.args.es.now c.loop-e.e-index _ c.loop-e-test.false c.loop-e.invariant.tree
