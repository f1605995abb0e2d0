-- What is answered by hand of the proof of `parameter_of`.
use Rattle.built_text.specs.Plan.{named}
use Rattle.built_text.proofs.Failing.{fails_as}
use Rattle.built_text.proofs.functions.parameter_of.Goals as goal

pub returns-in-Err-clause-reads : goal.returns-in-Err-clause-reads
returns-in-Err-clause-reads c = λ next. c.in-Err.ensures.reads (λ t. named (λ n. next (record { typed = t; name = n })))

pub returns-in-Err-identifier-clause-reads : goal.returns-in-Err-identifier-clause-reads
returns-in-Err-identifier-clause-reads c = λ next.
    fails_as _ _ _ (c.in-Ok.ensures.reads (λ t. named (λ n. next (record { typed = t; name = n })))) (c.in-Err-identifier.ensures.reads (λ n. next (record { typed = c.in-Ok.value.0; name = n })))
