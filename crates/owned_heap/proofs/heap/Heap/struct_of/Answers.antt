use Rattle.std.proofs.Common.{sym, ap}
use Rattle.std.specs.Option.{option_map}
use Rattle.c0_meaning.specs.Heaps.{Object}
use Rattle.owned_heap.proofs.Viewed.{object_there, object_nowhere}
use Rattle.owned_heap.proofs.heap.Heap.struct_of.Goals as goal

pub returns-in-Some : goal.returns-in-Some
returns-in-Some c =
    let h = c.args.self.now in
    let s = c.in-Some.stretch in
    sym (ap (option_map (λ (o : Object). o.of_struct)) (object_there h c.args.object s c.in-Some.ensures.is))

pub returns-in-None : goal.returns-in-None
returns-in-None c = sym (ap (option_map (λ (o : Object). o.of_struct)) (object_nowhere c.args.self.now c.args.object c.in-None.ensures.is))
