-- What holds in the loop of `copy_structs`.
use Rattle.std.proofs.Common.{◌≡◌, ◌++◌, drop, map}
use Rattle.gc0_tree.specs.Views.{struct_view}
use Rattle.tree_copies.proofs.copy_structs.Given as goal

abbrev pub invariant-loop-structure : goal.invariant-loop-structure
invariant-loop-structure l = map struct_view l.copies ++ map struct_view (drop l.structure-index l.structs) ≡ map struct_view l.structs
