-- What is answered by hand of the proof of `arguments_of`.
use Rattle.std.proofs.Common.{◌∙◌, ◌∷◌, [], ℕ, List, ap, sym, false}
use Rattle.built_text.specs.declared.token.Fixed.TheVariants as mark
use Rattle.built_text.specs.Tree.{ExprTree}
use Rattle.built_text.specs.Views.{exprs_view}
use Rattle.built_text.specs.Plan.{Plan, await, expr, chain, run}
use Rattle.built_text.proofs.Failing.{fails_as}
use Rattle.built_text.proofs.Loops.{peek_await, not_first}
use Rattle.built_text.proofs.expressions.arguments_of.Goals as goal

abbrev closed : (List ExprTree → Plan) → List ExprTree → Plan
closed next es = await mark.Close (λ b. next es)

abbrev listed : ℕ → (List ExprTree → Plan) → Plan
listed room next = expr false room (λ e. chain mark.Comma false room (λ es. closed next (e ∷ es)))

pub returns-in-Err-clause-reads : goal.returns-in-Err-clause-reads
returns-in-Err-clause-reads c = λ next.
    fails_as _ _ _ (peek_await mark.Close (λ b. next []) (listed c.args.room next) c.args.tokens.now (sym c.begins.ensures ∙ c.if-begins.true)) (c.in-Err.ensures.reads (λ b. next []))

pub returns-in-Err-list_of-clause-reads : goal.returns-in-Err-list_of-clause-reads
returns-in-Err-list_of-clause-reads c = λ next.
    fails_as _ _ _ (not_first mark.Close (λ b. next []) (listed c.args.room next) c.args.tokens.now (sym c.begins.ensures ∙ c.if-begins.false)) (c.in-Err-list_of.ensures.reads (closed next))

pub returns-in-Err-expect-clause-reads : goal.returns-in-Err-expect-clause-reads
returns-in-Err-expect-clause-reads c = λ next.
    fails_as _ _ _ (not_first mark.Close (λ b. next []) (listed c.args.room next) c.args.tokens.now (sym c.begins.ensures ∙ c.if-begins.false) ∙ c.in-Ok-list_of.ensures.reads (closed next)) (c.in-Err-expect.ensures.reads (λ b. next (exprs_view c.in-Ok-list_of.value.0)))

pub returns-then-begins-clause-reads : goal.returns-then-begins-clause-reads
returns-then-begins-clause-reads c = λ next.
    peek_await mark.Close (λ b. next []) (listed c.args.room next) c.args.tokens.now (sym c.begins.ensures ∙ c.if-begins.true) ∙ c.in-Ok.ensures.reads (λ b. next []) ∙ ap (λ l. run (next (exprs_view l)) c.in-Ok.value.1.now) (sym c.new.ensures)

pub returns-clause-reads : goal.returns-clause-reads
returns-clause-reads c = λ next.
    not_first mark.Close (λ b. next []) (listed c.args.room next) c.args.tokens.now (sym c.begins.ensures ∙ c.if-begins.false) ∙ c.in-Ok-list_of.ensures.reads (closed next) ∙ c.in-Ok-expect.ensures.reads (λ b. next (exprs_view c.in-Ok-list_of.value.0))
