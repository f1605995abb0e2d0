use Rattle.std.proofs.Common.{subst, sym, ap, arith}
use Rattle.word_blast.specs.Circuits.{Whole}
use Rattle.word_blast.specs.Queries.{ids, IsExact}
use Rattle.word_blast.proofs.Exact.{circuit-is-exact, circuit-count}
use Rattle.word_blast.specs.Valuations.{FitSorts}
use Rattle.word_blast.proofs.Reading.{fit-circuit}
use Rattle.word_blast.proofs.query.blast.Goals as goal

pub returns-in-Ok-Query-clause-exact : goal.returns-in-Ok-Query-clause-exact
returns-in-Ok-Query-clause-exact c =
    let h = rw c.in-Ok-Query.field-0-is at c.in-Ok-Query.ensures in
    subst (IsExact c.args.terms.now (ids c.args.truths.now) (ids c.args.falsehoods.now)) (sym h.1)
    (circuit-is-exact c.args.terms.now h.0 (ids c.args.truths.now) (ids c.args.falsehoods.now) c.requires.truths c.requires.falsehoods)

pub returns-in-Ok-Query-clause-few : goal.returns-in-Ok-Query-clause-few
returns-in-Ok-Query-clause-few c =
    let h = rw c.in-Ok-Query.field-0-is at c.in-Ok-Query.ensures in
    omega (arith, ap (λ w. w.variables) h.1, circuit-count c.args.terms.now h.0 (ids c.args.truths.now) (ids c.args.falsehoods.now))

pub returns-in-Ok-Query-clause-fit : goal.returns-in-Ok-Query-clause-fit
returns-in-Ok-Query-clause-fit c =
    let h = rw c.in-Ok-Query.field-0-is at c.in-Ok-Query.ensures in
    subst (λ (w : Whole). FitSorts c.args.terms.now.sorts w.inputs) (sym h.1) (fit-circuit c.args.terms.now h.0 (ids c.args.truths.now) (ids c.args.falsehoods.now))
