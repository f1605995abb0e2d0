use Rattle.std.proofs.Common.{map, take}
use Rattle.std.proofs.lemmas.List.{take_all}
use Rattle.word_terms.proofs.Marking.{ids-suc, Adds-set}
use Rattle.word_terms.proofs.weight.mark.Goals as goal

pub loop-term-preserved : goal.loop-term-preserved
loop-term-preserved c = λ t h.
    rw (ids-suc c.args.terms.now c.loop-term.term-index (record { 0 = 0 }) c.loop-term-test.true)
    (Adds-set c.args.marks.now c.loop-term.marks (map (λ t. t.0) (take c.loop-term.term-index c.args.terms.now)) _ t c.loop-term.auto.marks h
    (c.requires c.loop-term.term-index (record { 0 = 0 }) c.loop-term-test.true) (c.loop-term.invariant t h))

pub returns : goal.returns
returns c =
    (c.loop-term.auto.marks, λ t h. let e = c.loop-term.invariant t h in rw (take_all c.loop-term.term-index c.args.terms.now c.loop-term-test.false) at e)
