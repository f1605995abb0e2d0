-- What the search leaves of the proof of `all_functions`.
use Rattle.std.proofs.Common.{◌≡◌, ◌∙◌, ◌∷◌, ap, sym, ◌+◌, drop, map}
use Rattle.std.proofs.lemmas.List.{drop_more}
use Rattle.gc0_tree.specs.Views.{function_view}
use Rattle.c0_numbers.proofs.Parts.{functions_step, items_texts_step}
use Rattle.c0_numbers.proofs.program.all_functions.Goals as goal

pub loop-item-preserved : goal.loop-item-preserved
loop-item-preserved c =
    let is = c.args.items.now in
    let i = c.loop-item.item-index in
    let first = drop_more is i c.item-item.result c.loop-item-test.true ∙ ap (λ x. x ∷ drop (i + 1) is) (sym c.item-item.is) in
    record {
      tree = functions_step c.args.tables.now c.loop-item.texts _ (map function_view c.loop-item.made) _ _ (drop i is) (drop (i + 1) is) c.item-item.result first c.in_ok-item_functions.ensures.tree c.in_ok-item_functions.ensures.texts c.loop-item.invariant.tree;
      texts = items_texts_step c.loop-item.texts _ _ (drop i is) (drop (i + 1) is) c.item-item.result first c.in_ok-item_functions.ensures.texts c.loop-item.invariant.texts;
    }
