-- What holds in the loop of `shapes_of`.
use Rattle.std.proofs.Common.{◌≡◌, ◌++◌, drop, map}
use Rattle.std.specs.List.{zip}
use Rattle.c0_numbers.specs.Resolved.{named_shape, shapes_of}
use Rattle.c0_numbers.proofs.program.shapes_of.Given as goal

abbrev pub invariant-loop-place : goal.invariant-loop-place
invariant-loop-place l = l.made ++ map named_shape (zip (drop l.place l.names.names) (drop l.place l.types)) ≡ shapes_of l.names
