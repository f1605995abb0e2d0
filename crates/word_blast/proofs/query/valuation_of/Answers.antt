use Rattle.std.proofs.Common.{◌≡◌, subst, sym, ◌∙◌}
use Rattle.std.proofs.lemmas.List.{take_all}
use Rattle.word_blast.specs.Valuations.{assigned, IsReadFrom}
use Rattle.word_blast.specs.Queries.{words_of}
use Rattle.word_blast.proofs.Reading.{words-read}
use Rattle.word_blast.proofs.query.valuation_of.Goals as goal

pub returns-clause-bits : goal.returns-clause-bits
returns-clause-bits c =
    let t = rw (take_all c.loop-input.input-index c.deref-input-items.result.now c.loop-input-test.false, c.deref-input-items.ensures.value) at c.loop-input.invariant in
    let e : c.from_vec.result ≡ words_of (assigned c.args.assignment.now) c.args.query.now.inputs.items = c.from_vec.ensures ∙ t in
    subst (IsReadFrom (assigned c.args.assignment.now) c.args.query.now.inputs.items) (sym e) (words-read (assigned c.args.assignment.now) c.args.query.now.inputs.items)
