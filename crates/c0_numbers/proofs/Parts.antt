-- Functions of a text, item by item.
use Rattle.std.proofs.Common.{◌≡◌, List, [], ◌∷◌, ◌++◌, map, refl, sym, ap, ◌∙◌, append_assoc}
use Rattle.gc0_tree.specs.Tree as gc0
use Rattle.parsed_tree.specs.declared.items.Item.{Item}
use Rattle.parsed_tree.specs.Views.{item_view}
use Rattle.c0_names.specs.declared.tables.Tables.{Tables}
use Rattle.c0_value_numbers.specs.Texts.{Texts}
use Rattle.c0_numbers.specs.StatementTexts.{item_texts, items_texts}
use Rattle.c0_numbers.specs.Resolved.{item_functions, functions_tree}

pub functions_step : (t : Tables) (ts ts2 : Texts) (made made2 whole : List gc0.Function) (is tail : List Item) (i : Item) → is ≡ i ∷ tail → made2 ≡ made ++ item_functions t ts (item_view i) → ts2 ≡ item_texts ts (item_view i) → made ++ functions_tree t ts (map item_view is) ≡ whole → made2 ++ functions_tree t ts2 (map item_view tail) ≡ whole
functions_step t ts ts2 made made2 whole is tail i h p q e =
    let rest = functions_tree t (item_texts ts (item_view i)) (map item_view tail) in
    ap (λ x. made2 ++ functions_tree t x (map item_view tail)) q ∙ ap (λ m. m ++ rest) p ∙ append_assoc made (item_functions t ts (item_view i)) rest ∙ ap (λ l. made ++ functions_tree t ts (map item_view l)) (sym h) ∙ e

pub items_texts_step : (ts ts2 whole : Texts) (is tail : List Item) (i : Item) → is ≡ i ∷ tail → ts2 ≡ item_texts ts (item_view i) → items_texts ts (map item_view is) ≡ whole → items_texts ts2 (map item_view tail) ≡ whole
items_texts_step ts ts2 whole is tail i h q e = ap (λ x. items_texts x (map item_view tail)) q ∙ ap (λ l. items_texts ts (map item_view l)) (sym h) ∙ e
