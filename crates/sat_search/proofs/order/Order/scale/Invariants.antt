use Rattle.std.proofs.Common.{◌≡◌, length}
use Rattle.sat_search.proofs.order.Order.scale.Given as goal

abbrev pub invariant-loop-place : goal.invariant-loop-place
invariant-loop-place l = length l.self.heap.items ≡ length l.initial.self.heap.items
