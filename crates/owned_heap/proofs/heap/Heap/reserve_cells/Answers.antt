use Rattle.std.proofs.Common.{arith, ap, length}
use Rattle.owned_heap.proofs.Kept.{stands_kept}
use Rattle.owned_heap.proofs.heap.Heap.reserve_cells.Goals as goal

pub returns-in_err-reserve-clause-levels : goal.returns-in_err-reserve-clause-levels
returns-in_err-reserve-clause-levels c levels sets = stands_kept levels c.args.self.now _ sets c.in_err-reserve.ensures.items (omega arith)

pub returns-clause-levels : goal.returns-clause-levels
returns-clause-levels c levels sets =
    stands_kept levels c.args.self.now _ sets c.in_ok-reserve.ensures.items (omega (arith, ap length c.reserve-2.ensures.items))
