use Rattle.std.proofs.Common.{◌≡◌, ℕ, ◌≤◌, length, get_or, map, take}
use Rattle.owned_heap.specs.Views.{cell_view}
use Rattle.owned_heap.proofs.Stamping.{AreStampedAs}
use Rattle.owned_heap.proofs.stamps.stamp_cells.Given as goal

abbrev pub invariant-loop-cell : goal.invariant-loop-cell
invariant-loop-cell l = record {
  len : length l.stamps.items ≡ length l.initial.stamps.items;
  stamped : AreStampedAs l.heap l.clock l.initial.stamps.items l.stamps.items (map cell_view (take l.cell-index l.cells));
  past : (k : ℕ) → get_or l.initial.stamps.items k 0 ≤ l.clock → get_or l.stamps.items k 0 ≤ l.clock;
}
