use Rattle.word_blast.proofs.builder.Builder.define.Goals as goal

pub returns-in-Sum : goal.returns-in-Sum
returns-in-Sum c = rw c.in-Sum.is c.define_sum.ensures
