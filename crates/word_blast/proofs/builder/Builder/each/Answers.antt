use Rattle.std.proofs.Common.{arith}
use Rattle.word_blast.proofs.Steps.{each-step, each-end}
use Rattle.word_blast.proofs.builder.Builder.each.Goals as goal

pub loop-i-preserved : goal.loop-i-preserved
loop-i-preserved c =
    each-step c.args.gate c.args.xs.now c.args.ys.now c.args.z c.loop-i.i _ c.loop-i.self c.emit.new.self c.loop-i.bits.items c.push.new.self.items _ c.in_ok-bit.bit _
    (omega (arith, c.min-i-end.ensures)) c.in_ok-bit.ensures.lit c.in_ok-bit.ensures.circuit c.in_ok-push.ensures.items c.loop-i.invariant

pub returns-clause-bits : goal.returns-clause-bits
returns-clause-bits c = (each-end c.args.gate c.args.xs.now c.args.ys.now c.args.z c.loop-i.i c.loop-i.self c.loop-i.bits.items _ _ (omega (arith, c.min-i-end.ensures)) c.loop-i.invariant).0

pub returns-clause-circuit : goal.returns-clause-circuit
returns-clause-circuit c = (each-end c.args.gate c.args.xs.now c.args.ys.now c.args.z c.loop-i.i c.loop-i.self c.loop-i.bits.items _ _ (omega (arith, c.min-i-end.ensures)) c.loop-i.invariant).1
