use Rattle.std.proofs.Common.{◌≡◌, ℕ, ◌<◌, Some}
use Rattle.std.specs.List.{slice_get}
use Rattle.plain_search.proofs.solver.level_from.Given as goal

abbrev pub invariant-loop-level : goal.invariant-loop-level
invariant-loop-level l = (i place : ℕ) → i < l.level → slice_get l.levels i ≡ Some place → place < l.keep
