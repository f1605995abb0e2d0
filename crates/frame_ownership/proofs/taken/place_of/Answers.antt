use Rattle.std.proofs.Common.{sym, ap, ◌∙◌, length}
use Rattle.std.specs.Prelude.{slice_index}
use Rattle.std.proofs.lemmas.Bool.{ltb-true, ltb-false}
use Rattle.std.proofs.lemmas.List.{get_or_read, get_or_past}
use Rattle.frame_ownership.proofs.Rows.{row_read, row_past}
use Rattle.frame_ownership.proofs.taken.place_of.Goals as goal

pub returns-in-Some-get : goal.returns-in-Some-get
returns-in-Some-get c =
    let p = c.in-Some.ensures.lookup in
    let row = row_read c.args.places.now c.args.cell.field c.in-Some.row.now (ltb-true c.args.cell.field (length c.args.places.now) (sym p.0)) p.1 in
    let q = c.in-Some-get.ensures.lookup in
    get_or_read c.deref.result.now c.args.cell.object c.in-Some-get.place.now (ltb-true c.args.cell.object (length c.deref.result.now) (sym q.0)) q.1 0
    ∙ ap (λ xs. slice_index xs c.args.cell.object) (c.deref.ensures.value ∙ sym row)

pub returns-in-None-get : goal.returns-in-None-get
returns-in-None-get c =
    let p = c.in-Some.ensures.lookup in
    let row = row_read c.args.places.now c.args.cell.field c.in-Some.row.now (ltb-true c.args.cell.field (length c.args.places.now) (sym p.0)) p.1 in
    let q = c.in-None-get.ensures.lookup in
    sym (get_or_past c.deref.result.now c.args.cell.object 0 (ltb-false c.args.cell.object (length c.deref.result.now) (sym q.0)))
    ∙ ap (λ xs. slice_index xs c.args.cell.object) (c.deref.ensures.value ∙ sym row)

pub returns-in-None : goal.returns-in-None
returns-in-None c =
    let q = c.in-None.ensures.lookup in
    sym (ap (λ xs. slice_index xs c.args.cell.object) (row_past c.args.places.now c.args.cell.field (ltb-false c.args.cell.field (length c.args.places.now) (sym q.0))))
