-- What the search leaves of the proof of `truncate`.
use Rattle.std.proofs.Common.{◌<◌, ◌∙◌, ap, length, take, arith}
use Rattle.c0_names.proofs.Fronts.{take-front, length-front}
use Rattle.c0_names.proofs.index.Index.truncate.Goals as goal

pub loop-self-smaller : goal.loop-self-smaller
loop-self-smaller c =
    let more : 0 < length c.loop-self.self = omega (arith, c.loop-self-test.true, c.len.ensures) in
    let fewer = length-front c.loop-self.self more in
    omega (arith, fewer, ap length c.in_ok-pop.ensures)

pub loop-self-preserved : goal.loop-self-preserved
loop-self-preserved c =
    let more : c.args.count < length c.loop-self.self = omega (arith, c.loop-self-test.true, c.len.ensures) in
    ap (take c.args.count) c.in_ok-pop.ensures ∙ take-front c.args.count c.loop-self.self more ∙ c.loop-self.invariant
