use Rattle.std.proofs.Common.{Some, length, sym, ap, ◌∙◌}
use Rattle.std.specs.Option.{option_map}
use Rattle.c0_meaning.specs.Heaps.{Object}
use Rattle.owned_heap.proofs.Viewed.{object_there, object_nowhere, many_fields}
use Rattle.owned_heap.proofs.heap.Heap.fields_of.Goals as goal

pub returns-in-Some : goal.returns-in-Some
returns-in-Some c =
    let h = c.args.self.now in
    let s = c.in-Some.stretch in
    ap Some (sym (many_fields h c.args.object s c.in-Some.ensures.is)) ∙ sym (ap (option_map (λ (o : Object). length o.fields)) (object_there h c.args.object s c.in-Some.ensures.is))

pub returns-in-None : goal.returns-in-None
returns-in-None c = sym (ap (option_map (λ (o : Object). length o.fields)) (object_nowhere c.args.self.now c.args.object c.in-None.ensures.is))
