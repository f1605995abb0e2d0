-- What is answered by hand of the proof of `return_behind`.
use Rattle.std.proofs.Common.{◌∙◌, ap, sym}
use Rattle.built_text.specs.declared.token.Fixed.TheVariants as mark
use Rattle.built_text.specs.Tree.{return_stmt}
use Rattle.built_text.specs.Views.{expr_view}
use Rattle.built_text.specs.Plan.{await, run}
use Rattle.built_text.proofs.Failing.{fails_as}
use Rattle.built_text.proofs.statements.return_behind.Goals as goal

pub returns-in-Err-clause-reads : goal.returns-in-Err-clause-reads
returns-in-Err-clause-reads c = λ next. c.in-Err.ensures.reads (λ e. await mark.Semicolon (λ s. next (return_stmt c.args.place e)))

pub returns-in-Err-expect-clause-reads : goal.returns-in-Err-expect-clause-reads
returns-in-Err-expect-clause-reads c = λ next.
    fails_as _ _ _ (c.in-Ok.ensures.reads (λ e. await mark.Semicolon (λ s. next (return_stmt c.args.place e)))) (c.in-Err-expect.ensures.reads (λ s. next (return_stmt c.args.place (expr_view c.in-Ok.value.0))))

pub returns-clause-reads : goal.returns-clause-reads
returns-clause-reads c = λ next.
    c.in-Ok.ensures.reads (λ e. await mark.Semicolon (λ s. next (return_stmt c.args.place e))) ∙ c.in-Ok-expect.ensures.reads (λ s. next (return_stmt c.args.place (expr_view c.in-Ok.value.0)))
    ∙ ap (λ s. run (next s) c.in-Ok-expect.value.1.now) (sym c.return_statement.ensures)
