use Rattle.std.proofs.Common.{length, ap, arith}
use Rattle.frame_ownership.proofs.Rows.{row_read, put_is}
use Rattle.frame_ownership.proofs.taken.put.Goals as goal

pub index_mut-requires : goal.index_mut-requires
index_mut-requires c =
    let here = row_read c.args.places.now.items c.args.cell.field c.index_mut-row.result.now c.requires.rows c.index_mut-row.ensures.value in
    let many = ap length here in
    omega (arith, c.requires.room, many)

pub returns : goal.returns
returns c = λ object f.
    let here = row_read c.args.places.now.items c.args.cell.field c.index_mut-row.result.now c.requires.rows c.index_mut-row.ensures.value in
    let many = ap length here in
    put_is c.args.places.now.items c.args.cell.field c.args.cell.object c.args.place c.index_mut-row.result.now object f c.requires.rows (omega (arith, c.requires.room, many)) here
