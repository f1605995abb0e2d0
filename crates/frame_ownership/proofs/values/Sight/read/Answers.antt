use Rattle.std.proofs.Common.{◌<◌, sym, ◌∙◌, option_map, arith}
use Rattle.frame_ownership.specs.Seen.{number}
use Rattle.frame_ownership.proofs.Sights.{read_unseen, read_seen}
use Rattle.frame_ownership.proofs.values.Sight.read.Goals as goal

pub returns-then-not-sees : goal.returns-then-not-sees
returns-then-not-sees c =
    let s = c.args.self.now in
    let some : 0 < c.args.base.0 = omega (arith, c.if-base-eq0.false) in
    read_unseen c.cells_of_heap.ensures s.mode s.heap.now s.levels.now c.args.base.0 c.args.field some (sym c.sees.ensures ∙ c.if-not-sees.true)

pub returns : goal.returns
returns c =
    let s = c.args.self.now in
    let some : 0 < c.args.base.0 = omega (arith, c.if-base-eq0.false) in
    read_seen c.cells_of_heap.ensures s.mode s.heap.now s.levels.now c.args.base.0 c.args.field (option_map number c.value.result) some (sym c.sees.ensures ∙ c.if-not-sees.false) (c.value.ensures.value some)
