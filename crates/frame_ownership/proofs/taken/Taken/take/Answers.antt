use Rattle.std.proofs.Common.{◌≡◌, ℕ, ◌&&◌, eqb, false, List, map, sym, ap, subst, ◌∙◌, length, arith}
use Rattle.std.specs.Prelude.{if◌then◌else◌}
use Rattle.c0_meaning.specs.Heaps.{owns}
use Rattle.owned_heap.specs.Views.{cell_view}
use Rattle.owned_heap.specs.declared.heap.Cell.{Cell}
use Rattle.frame_ownership.specs.Placed.{place_in, ArePlaced}
use Rattle.frame_ownership.proofs.Standing.{placed_push}
use Rattle.frame_ownership.proofs.taken.Taken.take.Goals as goal

pub invariant_of-self-2 : goal.invariant_of-self-2
invariant_of-self-2 c =
    let t = c.self.inside in
    let cell = c.args.cell in
    let is : (object f : ℕ) → place_in c.put.new.places.items object f ≡ (if eqb object cell.object && eqb f cell.field then c.len-place.result else place_in t.places.items object f) = λ object f.
    c.put.ensures object f ∙ ap (λ k. if eqb object cell.object && eqb f cell.field then c.len-place.result else k) (c.in_ok-make_room.ensures.same object f) in
    let out : owns (map cell_view t.cells.items) (cell_view cell) ≡ false = ap (λ cells. owns cells (cell_view cell)) c.self.view_is ∙ sym c.has.ensures ∙ c.if-has.false in
    let many : c.len-place.result ≡ length t.cells.items = omega (arith, c.len-place.ensures) in
    let placed = placed_push t.cells.items t.places.items c.put.new.places.items cell c.len-place.result c.self.invariant many is out in
    subst (λ (cells : List Cell). ArePlaced cells c.put.new.places.items) (sym c.in_ok-push.ensures.items) placed
