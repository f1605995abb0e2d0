use Rattle.std.proofs.Common.{◌≡◌, ◌+◌, ◌*◌, ◌%◌, ◌^◌, ap, arith}
use Rattle.word_blast.specs.Valuations.{assigned}
use Rattle.word_blast.proofs.Reading.{bits-start, bits-step, bits-end}
use Rattle.word_blast.proofs.query.word_of_bits.Goals as goal

pub loop-i-init : goal.loop-i-init
loop-i-init c = bits-start (assigned c.args.assignment.now) c.args.input.first c.args.input.count

pub loop-i-preserved : goal.loop-i-preserved
loop-i-preserved c =
    bits-step (assigned c.args.assignment.now) c.args.input.first c.args.input.count c.loop-i.i c.loop-i.word _ c.value_of-bit.result c.loop-i-test.true (omega arith) c.loop-i.invariant c.value_of-bit.ensures
    (ap (λ n. ((c.loop-i.word * 2) % 2 ^ 32 + n) % 2 ^ 32) c.number_of.ensures)

pub returns : goal.returns
returns c = bits-end (assigned c.args.assignment.now) c.args.input.first c.args.input.count c.loop-i.i c.loop-i.word c.loop-i-test.false c.loop-i.invariant
