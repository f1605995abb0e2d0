-- What holds in the loop of `all_functions`.
use Rattle.std.proofs.Common.{◌≡◌, ◌++◌, drop, map}
use Rattle.gc0_tree.specs.Views.{function_view}
use Rattle.parsed_tree.specs.Views.{item_view}
use Rattle.c0_numbers.specs.StatementTexts.{items_texts}
use Rattle.c0_numbers.specs.Resolved.{functions_tree}
use Rattle.c0_numbers.proofs.program.all_functions.Given as goal

abbrev pub invariant-loop-item : goal.invariant-loop-item
invariant-loop-item l = record {
  tree : map function_view l.made ++ functions_tree l.tables l.texts (map item_view (drop l.item-index l.items)) ≡ functions_tree l.tables l.fn.texts (map item_view l.items);
  texts : items_texts l.texts (map item_view (drop l.item-index l.items)) ≡ items_texts l.fn.texts (map item_view l.items);
}
