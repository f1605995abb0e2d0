use Rattle.std.proofs.Common.{◌≡◌, drop}
use Rattle.std.specs.List.{find}
use Rattle.gc0_tree.specs.Sites.{has_number}
use Rattle.gc0_tree.proofs.places.numbered.Given as goal

abbrev pub invariant-loop-place : goal.invariant-loop-place
invariant-loop-place l = find (has_number l.tokens l.ordinal) l.tokens ≡ find (has_number l.tokens l.ordinal) (drop l.place-index l.tokens)
