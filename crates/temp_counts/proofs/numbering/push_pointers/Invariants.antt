-- The pointers to the structs so far are there.
use Rattle.std.proofs.Common.{◌≡◌, ◌++◌}
use Rattle.lowering_laws.specs.Lowering.{pointer_temps}
use Rattle.temp_counts.specs.Most.{most_in}
use Rattle.temp_counts.proofs.numbering.push_pointers.Given as goal

abbrev pub invariant-loop-k : goal.invariant-loop-k
invariant-loop-k l = l.shapes ≡ l.initial.shapes ++ pointer_temps (most_in l.most) l.k
