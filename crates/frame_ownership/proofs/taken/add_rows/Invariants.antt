use Rattle.std.proofs.Common.{◌≡◌, ℕ, ◌+◌, ◌-◌, length}
use Rattle.frame_ownership.specs.Placed.{place_in}
use Rattle.frame_ownership.proofs.taken.add_rows.Given as goal

abbrev pub invariant-loop-alloc : goal.invariant-loop-alloc
invariant-loop-alloc l = (object f : ℕ) → place_in l.places.items object f ≡ place_in l.fn.places.items object f

abbrev pub decreases-loop-alloc : goal.decreases-loop-alloc
decreases-loop-alloc l = l.field + 1 - length l.places.items
