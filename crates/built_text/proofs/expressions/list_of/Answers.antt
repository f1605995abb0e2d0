-- What is answered by hand of the proof of `list_of`.
use Rattle.std.proofs.Common.{◌∙◌, ◌∷◌, ◌++◌, ap, sym}
use Rattle.built_text.specs.Tree.{ExprTree}
use Rattle.built_text.specs.Plan.{Plan, chain, run}
use Rattle.built_text.proofs.Failing.{along}
use Rattle.built_text.proofs.expressions.list_of.Goals as goal

abbrev rest_of : (ExprTree → Plan) → ExprTree → Plan
rest_of N e = N e

pub returns-in-Err-clause-reads : goal.returns-in-Err-clause-reads
returns-in-Err-clause-reads c = λ next. c.in-Err.ensures.reads (λ e. chain c.args.separator c.args.outcome c.args.room (λ es. next (e ∷ es)))

pub returns-clause-reads : goal.returns-clause-reads
returns-clause-reads c = λ next.
    along _ _ _ _
    (c.in-Ok.ensures.reads (λ e. chain c.args.separator c.args.outcome c.args.room (λ es. next (e ∷ es)))
    ∙ ap (λ l. run (chain c.args.separator c.args.outcome c.args.room (λ es. next (l ++ es))) c.in-Ok.value.1.now) (sym c.in_ok-found.ensures))
    (c.more.ensures.reads next)
