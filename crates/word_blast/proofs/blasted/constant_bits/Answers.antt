use Rattle.std.proofs.Common.{refl}
use Rattle.word_blast.proofs.Walks.{constants-step, constants-end}
use Rattle.word_blast.proofs.blasted.constant_bits.Goals as goal

pub loop-i-preserved : goal.loop-i-preserved
loop-i-preserved c =
    constants-step c.loop-i.bits.items c.push.new.self.items _ _ c.loop-i.i c.loop-i.rest _ c.loop-i-test.true refl refl c.in_ok-push.ensures.items c.loop-i.invariant

pub returns : goal.returns
returns c = constants-end c.loop-i.bits.items _ c.loop-i.i c.loop-i.rest c.loop-i-test.false c.loop-i.invariant
