use Rattle.std.proofs.Common.{arith}
use Rattle.word_blast.proofs.Steps.{add-step, add-end}
use Rattle.word_blast.proofs.builder.Builder.add.Goals as goal

pub loop-i-preserved : goal.loop-i-preserved
loop-i-preserved c =
    add-step c.args.xs.now c.args.ys.now c.loop-i.i _ c.loop-i.over c.loop-i.self c.emit.new.self c.emit-in-loop-i.new.self c.loop-i.bits.items c.push.new.self.items _ c.in_ok-bit.bit c.in_ok-over.over _ _
    (omega (arith, c.min-i-end.ensures)) c.in_ok-bit.ensures.lit c.in_ok-bit.ensures.circuit c.in_ok-over.ensures.lit c.in_ok-over.ensures.circuit c.in_ok-push.ensures.items c.loop-i.invariant

pub returns-clause-bits : goal.returns-clause-bits
returns-clause-bits c = (add-end c.args.xs.now c.args.ys.now c.loop-i.i c.loop-i.over c.loop-i.self c.loop-i.bits.items _ _ _ (omega (arith, c.min-i-end.ensures)) c.loop-i.invariant).0

pub returns-clause-carry : goal.returns-clause-carry
returns-clause-carry c = (add-end c.args.xs.now c.args.ys.now c.loop-i.i c.loop-i.over c.loop-i.self c.loop-i.bits.items _ _ _ (omega (arith, c.min-i-end.ensures)) c.loop-i.invariant).1

pub returns-clause-circuit : goal.returns-clause-circuit
returns-clause-circuit c = (add-end c.args.xs.now c.args.ys.now c.loop-i.i c.loop-i.over c.loop-i.self c.loop-i.bits.items _ _ _ (omega (arith, c.min-i-end.ensures)) c.loop-i.invariant).2
