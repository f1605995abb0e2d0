use Rattle.word_blast.proofs.Steps.{all-step, all-end}
use Rattle.word_blast.proofs.builder.Builder.all.Goals as goal

pub loop-x-preserved : goal.loop-x-preserved
loop-x-preserved c =
    all-step c.args.xs.now c.loop-x.x-index _ c.loop-x.so_far c.loop-x.self c.emit.new.self c.in_ok-so_far.so_far _ c.loop-x-test.true c.in_ok-so_far.ensures.lit c.in_ok-so_far.ensures.circuit c.loop-x.invariant

pub returns-clause-lit : goal.returns-clause-lit
returns-clause-lit c = (all-end c.args.xs.now c.loop-x.x-index c.loop-x.so_far c.loop-x.self _ c.loop-x-test.false c.loop-x.invariant).0

pub returns-clause-circuit : goal.returns-clause-circuit
returns-clause-circuit c = (all-end c.args.xs.now c.loop-x.x-index c.loop-x.so_far c.loop-x.self _ c.loop-x-test.false c.loop-x.invariant).1
