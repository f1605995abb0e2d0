use Rattle.word_blast.proofs.Steps.{clauses-twice}
use Rattle.word_blast.proofs.builder.Builder.define_sum.Goals as goal

pub returns : goal.returns
returns c =
    let h = clauses-twice c.args.self.now c.forbid_even.new.self c.forbid_even-2.new.self _ _ c.in_ok-forbid_even.ensures c.in_ok-forbid_even-2.ensures in
    rw (c.opposite.ensures, c.opposite-2.ensures) at h
