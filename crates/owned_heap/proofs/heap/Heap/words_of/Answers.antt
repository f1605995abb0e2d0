use Rattle.std.proofs.Common.{◌+◌, ◌≤◌, Some, length, arith}
use Rattle.owned_heap.proofs.Stretches.{ends_within}
use Rattle.owned_heap.proofs.heap.Heap.words_of.Goals as goal

pub returns-in-Some-clause-within : goal.returns-in-Some-clause-within
returns-in-Some-clause-within c =
    let s = c.in-Some.stretch in
    let ends : s.start + s.fields ≤ length c.args.self.now.words.items = ends_within c.args.self.now c.args.first (Some s) c.in-Some.ensures in
    omega arith
