-- What holds in the loop of `tables_of`.
use Rattle.std.proofs.Common.{◌≡◌, drop, fold, map}
use Rattle.parsed_tree.specs.Views.{item_view, program_view}
use Rattle.c0_names.specs.Tables.{with_item, tables_of}
use Rattle.c0_names.proofs.tables.tables_of.Given as goal

abbrev pub invariant-loop-item : goal.invariant-loop-item
invariant-loop-item l = fold with_item l.tables (map item_view (drop l.item-index l.item-items)) ≡ tables_of (program_view l.parsed)
