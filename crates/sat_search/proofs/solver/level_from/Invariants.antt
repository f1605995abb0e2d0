use Rattle.std.proofs.Common.{◌≡◌, ℕ, ◌≤◌, ◌⊎◌, Some, None, length}
use Rattle.std.specs.List.{slice_get}
use Rattle.sat_search.proofs.solver.level_from.Given as goal

abbrev pub invariant-loop-level : goal.invariant-loop-level
invariant-loop-level l = ((l.found ≡ None) × (l.level ≡ length l.levels)) ⊎ ((place : ℕ) × (l.found ≡ Some (l.level, place)) × (slice_get l.levels l.level ≡ Some place) × (l.keep ≤ place))

abbrev pub decreases-loop-level : goal.decreases-loop-level
decreases-loop-level l = l.level
