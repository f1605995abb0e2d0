-- What holds in the loop of `copy_names`.
use Rattle.std.proofs.Common.{◌≡◌, take}
use Rattle.tree_copies.proofs.copy_names.Given as goal

abbrev pub invariant-loop-named : goal.invariant-loop-named
invariant-loop-named l = l.copies ≡ take l.named-index l.names
