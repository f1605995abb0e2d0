use Rattle.std.proofs.Common.{sym, ap, ◌∙◌}
use Rattle.std.specs.Prelude.{slice_index}
use Rattle.frame_ownership.proofs.Rows.{row_read, same_row, row_set_same}
use Rattle.frame_ownership.proofs.taken.make_room.Goals as goal

pub returns-clause-same : goal.returns-clause-same
returns-clause-same c = λ object f.
    let rows = c.add_rows.new.places.items in
    let here = row_read rows c.args.cell.field c.index_mut.result.now c.in_ok-add_rows.ensures.room c.index_mut.ensures.value in
    same_row rows c.args.cell.field c.stretch.new.row object f c.in_ok-add_rows.ensures.room (λ k. c.stretch.ensures.same k ∙ ap (λ xs. slice_index xs k) (sym here))
    ∙ c.in_ok-add_rows.ensures.same object f

pub returns-clause-room : goal.returns-clause-room
returns-clause-room c =
    let at = row_set_same c.add_rows.new.places.items c.args.cell.field c.stretch.new.row c.in_ok-add_rows.ensures.room in
    rw at c.stretch.ensures.room
