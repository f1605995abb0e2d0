-- What is answered by hand of the proof of `print`.
use Rattle.built_text.specs.declared.token.Fixed.TheVariants as mark
use Rattle.built_text.specs.Tree.{print_stmt}
use Rattle.built_text.specs.Views.{expr_view}
use Rattle.built_text.specs.Plan.{await}
use Rattle.built_text.proofs.Failing.{fails_as}
use Rattle.built_text.proofs.statements.print.Goals as goal

pub returns-in-Err-clause-reads : goal.returns-in-Err-clause-reads
returns-in-Err-clause-reads c = λ next. c.in-Err.ensures.reads (λ e. await mark.Semicolon (λ s. next (print_stmt c.args.place c.args.shape e)))

pub returns-in-Err-expect-clause-reads : goal.returns-in-Err-expect-clause-reads
returns-in-Err-expect-clause-reads c = λ next.
    fails_as _ _ _ (c.in-Ok.ensures.reads (λ e. await mark.Semicolon (λ s. next (print_stmt c.args.place c.args.shape e)))) (c.in-Err-expect.ensures.reads (λ s. next (print_stmt c.args.place c.args.shape (expr_view c.in-Ok.value.0))))
