use Rattle.std.proofs.Common.{ℕ, ◌<◌, sym, ap, ◌∙◌, inr, Option, arith}
use Rattle.std.specs.Prelude.{is_some}
use Rattle.frame_ownership.proofs.Sights.{not_taken, taken_is}
use Rattle.frame_ownership.proofs.walk.take.Goals as goal

pub returns-then-not-sees : goal.returns-then-not-sees
returns-then-not-sees c =
    let s = c.args.sight in
    let some : 0 < c.args.base.0 = omega (arith, c.if-base-eq0.false) in
    not_taken c.cells_of_heap.ensures s.mode s.heap.now s.levels.now c.args.base.0 c.args.field c.args.taken.now some (inr (sym c.sees.ensures ∙ c.if-not-sees.true))

pub returns : goal.returns
returns c =
    let s = c.args.sight in
    let some : 0 < c.args.base.0 = omega (arith, c.if-base-eq0.false) in
    let valued = ap (λ (m : Option ℕ). is_some m) (sym (c.in-Some.ensures.value some)) in
    taken_is c.cells_of_heap.ensures s.mode s.heap.now s.levels.now c.args.base.0 c.args.field c.args.taken.now c.take.new.self c.in_ok-took.took some valued
    (sym c.sees.ensures ∙ c.if-not-sees.false) c.in_ok-took.ensures.new c.in_ok-took.ensures.cells
