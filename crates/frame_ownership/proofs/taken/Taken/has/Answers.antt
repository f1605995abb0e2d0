use Rattle.std.proofs.Common.{◌≡◌, ◌<◌, ◌≤◌, length, ap, ◌∙◌, arith, ltb}
use Rattle.c0_meaning.specs.Heaps.{owns}
use Rattle.owned_heap.specs.Views.{cell_view}
use Rattle.frame_ownership.specs.Placed.{place_in}
use Rattle.frame_ownership.proofs.Standing.{there_is, past_is}
use Rattle.frame_ownership.proofs.taken.Taken.has.Goals as goal

pub returns-then-place-len : goal.returns-then-place-len
returns-then-place-len c =
    let t = c.self.inside in
    let lt : c.place_of-place.result < length t.cells.items = omega (arith, c.if-place-len.true, c.len.ensures) in
    let at = c.place_of-place.ensures ∙ ap (λ rows. place_in rows c.args.cell.object c.args.cell.field) c.as_slice.ensures.value in
    c.same.ensures ∙ there_is t.cells.items t.places.items c.args.cell c.index.result.now c.place_of-place.result c.self.invariant lt c.index.ensures at
    ∙ ap (λ cells. owns cells (cell_view c.args.cell)) c.self.view_is

pub returns-else-place-len : goal.returns-else-place-len
returns-else-place-len c =
    let t = c.self.inside in
    let le : length t.cells.items ≤ c.place_of-place.result = omega (arith, c.if-place-len.false, c.len.ensures) in
    let at = c.place_of-place.ensures ∙ ap (λ rows. place_in rows c.args.cell.object c.args.cell.field) c.as_slice.ensures.value in
    let many : c.len.result ≡ length t.cells.items = omega (arith, c.len.ensures) in
    ap (λ n. ltb c.place_of-place.result n) many
    ∙ past_is t.cells.items t.places.items c.args.cell c.place_of-place.result c.self.invariant le at
    ∙ ap (λ cells. owns cells (cell_view c.args.cell)) c.self.view_is
