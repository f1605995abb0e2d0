-- What holds in the loop of `place_rows`.
use Rattle.std.proofs.Common.{◌≡◌, ℕ, ◌≤◌, [], length, drop}
use Rattle.gc0_base.specs.declared.place.Place.{Place}
use Rattle.core_tables.specs.RowSteps.{rows_behind}
use Rattle.core_tables.proofs.rows.place_rows.Given as goal

abbrev pub invariant-loop-left : goal.invariant-loop-left
invariant-loop-left l = record {
  within : l.left ≤ length l.placed;
  behind : (start : Place) (number count : ℕ) → l.fn.rows ≡ rows_behind l.function l.kind start [] number [] count → l.rows ≡ rows_behind l.function l.kind start (drop l.left l.placed) number [] count;
}

abbrev pub decreases-loop-left : goal.decreases-loop-left
decreases-loop-left l = l.left
