-- What is answered by hand of the proof of `condition_of`.
use Rattle.std.proofs.Common.{◌∙◌, false}
use Rattle.built_text.specs.declared.token.Fixed.TheVariants as mark
use Rattle.built_text.specs.Tree.{ExprTree}
use Rattle.built_text.specs.Views.{expr_view}
use Rattle.built_text.specs.Plan.{Plan, await, expr}
use Rattle.built_text.proofs.Failing.{fails_as}
use Rattle.built_text.proofs.statements.condition_of.Goals as goal

abbrev closed : (ExprTree → Plan) → ExprTree → Plan
closed next e = await mark.Close (λ b. next e)

pub returns-in-Err-clause-reads : goal.returns-in-Err-clause-reads
returns-in-Err-clause-reads c = λ next. c.in-Err.ensures.reads (λ a. expr false c.args.room (closed next))

pub returns-in-Err-expression-clause-reads : goal.returns-in-Err-expression-clause-reads
returns-in-Err-expression-clause-reads c = λ next.
    fails_as _ _ _ (c.in-Ok.ensures.reads (λ a. expr false c.args.room (closed next))) (c.in-Err-expression.ensures.reads (closed next))

pub returns-in-Err-expect-clause-reads : goal.returns-in-Err-expect-clause-reads
returns-in-Err-expect-clause-reads c = λ next.
    fails_as _ _ _ (c.in-Ok.ensures.reads (λ a. expr false c.args.room (closed next)) ∙ c.in-Ok-expression.ensures.reads (closed next)) (c.in-Err-expect.ensures.reads (λ b. next (expr_view c.in-Ok-expression.value.0)))

pub returns-clause-reads : goal.returns-clause-reads
returns-clause-reads c = λ next.
    c.in-Ok.ensures.reads (λ a. expr false c.args.room (closed next)) ∙ c.in-Ok-expression.ensures.reads (closed next) ∙ c.in-Ok-expect.ensures.reads (λ b. next (expr_view c.in-Ok-expression.value.0))
