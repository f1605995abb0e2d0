use Rattle.std.proofs.Common.{sym}
use Rattle.owned_heap.proofs.Stretches.{lies}
use Rattle.owned_heap.specs.Views.{heap_view}
use Rattle.owned_heap.proofs.Viewed.{set_there, set_nowhere}
use Rattle.owned_heap.proofs.heap.Heap.set.Goals as goal

pub returns-in-Some-clause-set : goal.returns-in-Some-clause-set
unfolding heap_view
returns-in-Some-clause-set c _ =
    let h = c.args.self.now in
    set_there h c.args.cell.object c.args.cell.field c.in-Some.at c.args.word (lies h c.args.cell.object c.args.cell.field c.in-Some.at (sym c.in-Some.ensures.is))

pub returns-in_default-clause-set : goal.returns-in_default-clause-set
returns-in_default-clause-set c some = set_nowhere c.args.self.now c.args.cell.object c.args.cell.field c.args.word.0 some (sym c.in_default.ensures.is)
