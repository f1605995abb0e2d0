use Rattle.std.proofs.Common.{refl, true}
use Rattle.word_blast.proofs.Walks.{lits-step}
use Rattle.word_blast.proofs.blasted.new_bits.Goals as goal

pub loop-variable-preserved : goal.loop-variable-preserved
loop-variable-preserved c =
    lits-step c.loop-variable.bits.items c.push.new.self.items _ (record { variable = c.loop-variable.variable; positive = true }) c.loop-variable.variable _ c.loop-variable-test.true refl c.in_ok-push.ensures.items c.loop-variable.invariant
