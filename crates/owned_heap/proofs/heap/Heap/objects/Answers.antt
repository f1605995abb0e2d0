use Rattle.std.proofs.Common.{arith}
use Rattle.owned_heap.proofs.Viewed.{length_seen}
use Rattle.owned_heap.proofs.heap.Heap.objects.Goals as goal

pub returns : goal.returns
returns c =
    let h = c.args.self.now in
    omega (arith, length_seen h)
