-- What is answered by hand of the proof of `expression`.
use Rattle.built_text.proofs.expressions.expression.Goals as goal

pub returns-in-Err-clause-reads : goal.returns-in-Err-clause-reads
returns-in-Err-clause-reads c = λ next. c.in-Err.ensures.reads (λ e l. next e)

pub returns-clause-reads : goal.returns-clause-reads
returns-clause-reads c = λ next. c.in-Ok.ensures.reads (λ e l. next e)
