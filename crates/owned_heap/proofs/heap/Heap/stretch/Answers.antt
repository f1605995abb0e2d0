use Rattle.std.proofs.Common.{◌-◌}
use Rattle.owned_heap.proofs.Stretches.{ends_within}
use Rattle.owned_heap.proofs.heap.Heap.stretch.Goals as goal

pub returns-clause-within : goal.returns-clause-within
returns-clause-within c = ends_within c.args.self.now (c.args.object - 1) c.stretch_at.result c.stretch_at.ensures
