use Rattle.std.proofs.Common.{◌≡◌, ◌<◌, length}
use Rattle.sat_search.proofs.order.Order.rise.Given as goal

abbrev pub invariant-loop-place : goal.invariant-loop-place
invariant-loop-place l = (l.place < length l.self.heap.items) × (length l.self.heap.items ≡ length l.initial.self.heap.items) × (l.node.variable < length l.self.activities.items)

abbrev pub decreases-loop-place : goal.decreases-loop-place
decreases-loop-place l = l.place
