-- What is answered by hand of the proof of `call`.
use Rattle.std.proofs.Common.{◌∙◌, ℕ, List}
use Rattle.built_text.specs.declared.token.Fixed.TheVariants as mark
use Rattle.built_text.specs.declared.tree.Named.{Named}
use Rattle.built_text.specs.Tree.{ExprTree, CallTree}
use Rattle.built_text.specs.Plan.{Plan, await, arguments}
use Rattle.built_text.proofs.Failing.{fails_as}
use Rattle.built_text.proofs.expressions.call.Goals as goal

abbrev named_call : ℕ → (CallTree → Plan) → Named → Plan
named_call room next n = await mark.Open (λ a. arguments room (λ es. next (record { name = n; arguments = es })))

pub returns-in-Err-clause-reads : goal.returns-in-Err-clause-reads
returns-in-Err-clause-reads c = λ next. c.in-Err.ensures.reads (named_call c.args.room next)

pub returns-in-Err-expect-clause-reads : goal.returns-in-Err-expect-clause-reads
returns-in-Err-expect-clause-reads c = λ next.
    fails_as _ _ _ (c.in-Ok.ensures.reads (named_call c.args.room next)) (c.in-Err-expect.ensures.reads (λ a. arguments c.args.room (λ es. next (record { name = c.in-Ok.value.0; arguments = es }))))

pub returns-in-Err-arguments_of-clause-reads : goal.returns-in-Err-arguments_of-clause-reads
returns-in-Err-arguments_of-clause-reads c = λ next.
    let N : List ExprTree → Plan = λ es. next (record { name = c.in-Ok.value.0; arguments = es }) in
    fails_as _ _ _ (c.in-Ok.ensures.reads (named_call c.args.room next) ∙ c.in-Ok-expect.ensures.reads (λ a. arguments c.args.room N)) (c.in-Err-arguments_of.ensures.reads N)

pub returns-clause-reads : goal.returns-clause-reads
returns-clause-reads c = λ next.
    let N : List ExprTree → Plan = λ es. next (record { name = c.in-Ok.value.0; arguments = es }) in
    c.in-Ok.ensures.reads (named_call c.args.room next) ∙ c.in-Ok-expect.ensures.reads (λ a. arguments c.args.room N) ∙ c.in-Ok-arguments_of.ensures.reads N
