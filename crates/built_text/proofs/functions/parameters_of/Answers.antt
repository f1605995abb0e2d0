-- What is answered by hand of the proof of `parameters_of`.
use Rattle.std.proofs.Common.{◌∙◌, ◌∷◌, [], ◌++◌, List, ap, sym}
use Rattle.built_text.specs.declared.token.Fixed.TheVariants as mark
use Rattle.built_text.specs.declared.tree.Parameter.{Parameter}
use Rattle.built_text.specs.Plan.{Plan, parameter_plan, more_parameters, run}
use Rattle.built_text.proofs.Failing.{fails_as, along}
use Rattle.built_text.proofs.Loops.{peek_await, not_first}
use Rattle.built_text.proofs.functions.parameters_of.Goals as goal

abbrev more : (List Parameter → Plan) → Parameter → Plan
more next p = more_parameters (λ ps. next (p ∷ ps))

pub returns-in-Err-clause-reads : goal.returns-in-Err-clause-reads
returns-in-Err-clause-reads c = λ next.
    fails_as _ _ _ (peek_await mark.Close (λ b. next []) (parameter_plan (more next)) c.args.tokens.now (sym c.begins.ensures ∙ c.if-begins.true)) (c.in-Err.ensures.reads (λ b. next []))

pub returns-in-Err-parameter_of-clause-reads : goal.returns-in-Err-parameter_of-clause-reads
returns-in-Err-parameter_of-clause-reads c = λ next.
    fails_as _ _ _ (not_first mark.Close (λ b. next []) (parameter_plan (more next)) c.args.tokens.now (sym c.begins.ensures ∙ c.if-begins.false)) (c.in-Err-parameter_of.ensures.reads (more next))

pub returns-then-begins-clause-reads : goal.returns-then-begins-clause-reads
returns-then-begins-clause-reads c = λ next.
    peek_await mark.Close (λ b. next []) (parameter_plan (more next)) c.args.tokens.now (sym c.begins.ensures ∙ c.if-begins.true) ∙ c.in-Ok.ensures.reads (λ b. next []) ∙ ap (λ l. run (next l) c.in-Ok.value.1.now) (sym c.new.ensures)

pub returns-clause-reads : goal.returns-clause-reads
returns-clause-reads c = λ next.
    along _ _ _ _
    (not_first mark.Close (λ b. next []) (parameter_plan (more next)) c.args.tokens.now (sym c.begins.ensures ∙ c.if-begins.false) ∙ c.in-Ok-parameter_of.ensures.reads (more next)
    ∙ ap (λ l. run (more_parameters (λ ps. next (l ++ ps))) c.in-Ok-parameter_of.value.1.now) (sym c.in_ok-found.ensures))
    (c.parameters_behind.ensures.reads next)
