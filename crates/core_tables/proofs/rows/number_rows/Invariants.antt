-- What holds in the loop of `number_rows`.
use Rattle.std.proofs.Common.{◌≡◌, ℕ, ◌≤◌, List, [], length, drop}
use Rattle.gc0_base.specs.declared.place.Place.{Place}
use Rattle.core_tables.specs.declared.PlacedSite.{PlacedSite}
use Rattle.core_tables.specs.RowSteps.{rows_behind}
use Rattle.core_tables.proofs.rows.number_rows.Given as goal

abbrev pub invariant-loop-left : goal.invariant-loop-left
invariant-loop-left l = record {
  within : l.left ≤ length l.decisions;
  behind : (start : Place) (placed : List PlacedSite) (count : ℕ) → l.fn.rows ≡ rows_behind l.function l.kind start placed (length l.decisions) [] count → l.rows ≡ rows_behind l.function l.kind start placed l.left (drop l.left l.decisions) count;
}

abbrev pub decreases-loop-left : goal.decreases-loop-left
decreases-loop-left l = l.left
