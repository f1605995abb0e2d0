-- What holds in the loop of `struct_names`.
use Rattle.std.proofs.Common.{◌≡◌, drop, fold, map}
use Rattle.c0_names.specs.Names.{names_with}
use Rattle.parsed_tree.specs.Views.{item_view, program_view}
use Rattle.c0_names.specs.Tables.{items_structs, struct_names}
use Rattle.c0_names.proofs.structs.struct_names.Given as goal

abbrev pub invariant-loop-item : goal.invariant-loop-item
invariant-loop-item l = fold names_with l.names (items_structs (map item_view (drop l.item-index l.item-items))) ≡ struct_names (program_view l.parsed)
