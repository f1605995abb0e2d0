use Rattle.std.proofs.Common.{◌≡◌, take}
use Rattle.search_base.specs.Trails.{values_of}
use Rattle.search_base.proofs.found.values_by.Given as goal

abbrev pub invariant-loop-slot : goal.invariant-loop-slot
invariant-loop-slot l = l.values.items ≡ values_of (take l.slot-index l.slots)
