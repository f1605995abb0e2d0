-- What is answered by hand of the proof of `body_of`.
use Rattle.std.proofs.Common.{false}
use Rattle.built_text.specs.Plan.{lines}
use Rattle.built_text.proofs.Failing.{along}
use Rattle.built_text.proofs.functions.body_of.Goals as goal

pub returns-in-Err-clause-reads : goal.returns-in-Err-clause-reads
returns-in-Err-clause-reads c = λ next. c.in-Err.ensures.reads (λ o. lines 99 false false next)

pub returns-clause-reads : goal.returns-clause-reads
returns-clause-reads c = λ next. along _ _ _ _ (c.in-Ok.ensures.reads (λ o. lines 99 false false next)) (c.statements.ensures.reads next)
