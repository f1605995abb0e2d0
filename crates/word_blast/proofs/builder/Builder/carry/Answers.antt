use Rattle.std.proofs.Common.{arith}
use Rattle.word_blast.proofs.Steps.{carry-step, carry-end}
use Rattle.word_blast.proofs.builder.Builder.carry.Goals as goal

pub loop-i-preserved : goal.loop-i-preserved
loop-i-preserved c =
    carry-step c.args.xs.now c.args.ys.now c.loop-i.i _ c.loop-i.over c.loop-i.self c.emit.new.self c.in_ok-over.over _
    (omega (arith, c.min-i-end.ensures)) c.in_ok-over.ensures.lit c.in_ok-over.ensures.circuit c.loop-i.invariant

pub returns-clause-carry : goal.returns-clause-carry
returns-clause-carry c = (carry-end c.args.xs.now c.args.ys.now c.loop-i.i c.loop-i.over c.loop-i.self _ (omega (arith, c.min-i-end.ensures)) c.loop-i.invariant).0

pub returns-clause-circuit : goal.returns-clause-circuit
returns-clause-circuit c = (carry-end c.args.xs.now c.args.ys.now c.loop-i.i c.loop-i.over c.loop-i.self _ (omega (arith, c.min-i-end.ensures)) c.loop-i.invariant).1
