use Rattle.std.proofs.Common.{◌≡◌, ◌+◌, map, arith, refl}
use Rattle.owned_heap.specs.Views.{cell_view}
use Rattle.owned_heap.specs.Stands.{offset_of, stamp_at, stamp_of}
use Rattle.owned_heap.proofs.Stamping.{cells_anew}
use Rattle.owned_heap.proofs.Opening.{opened_stamped, stamp_below, opened_in_heap}
use Rattle.owned_heap.proofs.Owning.{on_err, stands_covered, levels_past}
use Rattle.owned_heap.proofs.levels.Levels.open_precise.Goals as goal

pub returns-in_err-cover-clause-err : goal.returns-in_err-cover-clause-err
returns-in_err-cover-clause-err c = on_err c.from_residual.result (λ sets. stands_covered c.args.self.now _ c.args.heap.now sets refl refl c.in_err-cover.ensures.same (omega (arith, c.in_err-cover.ensures.bound, c.word_count.ensures)))

pub returns-in_err-push-clause-err : goal.returns-in_err-push-clause-err
returns-in_err-push-clause-err c = on_err c.from_residual-in_err-push.result (λ sets. stands_covered c.args.self.now _ c.args.heap.now sets refl c.in_err-push.ensures.items c.in_ok-cover.ensures.same (omega (arith, c.in_ok-cover.ensures.bound, c.word_count.ensures)))

pub returns-clause-opened : goal.returns-clause-opened
returns-clause-opened c sets owned h =
    let levels = c.args.self.now in
    let heap = c.args.heap.now in
    let clock = c.in-Some.clock in
    let later : clock ≡ levels.clock + 1 = omega (arith, c.in-Some.ensures) in
    let new = c.stamp_cells.new.stamps.items in
    let cells = map cell_view c.args.cells.now in
    let anew = cells_anew heap cells clock levels.stamps.items c.cover.new.stamps.items new c.in_ok-cover.ensures.same (opened_in_heap levels heap cells sets owned h) c.stamp_cells.ensures.stamped in
    record {
      within = omega (arith, h.within, c.stamp_cells.ensures.len, c.in_ok-cover.ensures.bound, c.word_count.ensures);
      stamped =
          opened_stamped (stamp_of levels heap) (λ c. stamp_at new (offset_of heap c)) cells clock levels.top levels.outer.items c.push.new.self.items sets anew c.in_ok-push.ensures.items (levels_past levels clock (omega arith))
          (λ d. let below = stamp_below levels.stamps.items levels.clock (offset_of heap d) levels.past in omega arith) h.stamped;
    }
