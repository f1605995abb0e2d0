-- What holds at the loop of `push_items`.
use Rattle.std.proofs.Common.{◌≡◌, ◌++◌, map, drop}
use Rattle.c0_layout.specs.Lists.{all_text}
use Rattle.parsed_tree.specs.Views.{item_view}
use Rattle.c0_layout.specs.Layout.{item_text}
use Rattle.c0_print.specs.Printing.{item_of}
use Rattle.c0_print.proofs.items.push_items.Given as goal

abbrev pub invariant-loop-item : goal.invariant-loop-item
invariant-loop-item l = l.text.items ++ all_text item_text (map item_of (map item_view (drop l.item-index l.items))) ≡ l.initial.text.items ++ all_text item_text (map item_of (map item_view l.items))
