use Rattle.std.proofs.Common.{◌≡◌, ◌-◌, take, drop, length, arith, length-drop}
use Rattle.std.proofs.lemmas.Grind.{common_steps}
use Rattle.sat_top.proofs.Written.{added_more}
use Rattle.sat_top.proofs.target.add_all.Goals as goal

pub loop-at-preserved : goal.loop-at-preserved
loop-at-preserved g c =
    let p = c.args.piece.now in
    let all : take (length p - c.loop-at.at) (drop c.loop-at.at p) ≡ drop c.loop-at.at p = grind (arith, common_steps) in
    record {
      within = omega (arith, c.in_ok-at.ensures.some.0, length-drop c.loop-at.at c.args.piece.now);
      bytes = added_more _ _ _ p c.loop-at.at _ c.loop-at.invariant.bytes (rw all at c.in_ok-at.ensures.bytes);
      later = omega (arith, c.in_ok-at.ensures.cause.later, c.loop-at.invariant.later);
    }
