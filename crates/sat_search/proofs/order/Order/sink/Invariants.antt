use Rattle.std.proofs.Common.{◌≡◌, ◌-◌, ◌<◌, length}
use Rattle.sat_search.proofs.order.Order.sink.Given as goal

abbrev pub invariant-loop-child : goal.invariant-loop-child
invariant-loop-child l = (l.place < length l.self.heap.items) × (length l.self.heap.items ≡ length l.initial.self.heap.items) × (l.node.variable < length l.self.activities.items)

abbrev pub decreases-loop-child : goal.decreases-loop-child
decreases-loop-child l = length l.initial.self.heap.items - l.place
