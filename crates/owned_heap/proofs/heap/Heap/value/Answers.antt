use Rattle.std.proofs.Common.{length, refl, sym, ap, ◌∙◌}
use Rattle.std.specs.Option.{option_map}
use Rattle.std.proofs.lemmas.Option.{slice_get_read}
use Rattle.owned_heap.proofs.Stretches.{lies}
use Rattle.owned_heap.proofs.Viewed.{number, value_there, value_nowhere}
use Rattle.owned_heap.proofs.heap.Heap.value.Goals as goal

pub returns-in-Some-clause-value : goal.returns-in-Some-clause-value
returns-in-Some-clause-value c _ =
    let h = c.args.self.now in
    let l = lies h c.args.cell.object c.args.cell.field c.in-Some.at (sym c.in-Some.ensures.is) in
    let within = c.in-Some.ensures.within in
    ap (option_map number) (sym (slice_get_read h.words.items (length h.words.items) c.in-Some.at c.index.result.now refl within c.index.ensures)) ∙ sym (value_there h c.args.cell.object c.args.cell.field c.in-Some.at l)

pub returns-in-None-clause-value : goal.returns-in-None-clause-value
returns-in-None-clause-value c some = sym (value_nowhere c.args.self.now c.args.cell.object c.args.cell.field some (sym c.in-None.ensures.is))
