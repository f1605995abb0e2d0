-- What holds in the loop of `structs`.
use Rattle.std.proofs.Common.{◌≡◌, ◌++◌, drop, map}
use Rattle.std.specs.List.{zip}
use Rattle.gc0_tree.specs.Views.{struct_view}
use Rattle.c0_numbers.specs.Resolved.{struct_tree, structs_tree}
use Rattle.c0_numbers.proofs.program.structs.Given as goal

abbrev pub invariant-loop-place : goal.invariant-loop-place
invariant-loop-place l = map struct_view l.made ++ map struct_tree (zip (drop l.place l.tables.structs) (drop l.place l.all)) ≡ structs_tree l.tables.structs l.tables.fields
