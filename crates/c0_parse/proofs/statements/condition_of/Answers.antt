-- `condition_of`: what is left to show of its clauses.
use Rattle.std.proofs.Common.{List, ℕ, ◌∙◌}
use Rattle.gc0_base.specs.declared.place.Place.{Place}
use Rattle.parsed_tree.specs.Tree.{ExprTree}
use Rattle.parsed_tree.specs.Views.{expr_view}
use Rattle.c0_grammar.specs.Tokens.{sign_mark}
use Rattle.c0_grammar.specs.Allowed.{code}
use Rattle.c0_grammar.specs.Plan.{Plan, await, expr}
use Rattle.c0_cursor.specs.Laws.{fails_as}
use Rattle.c0_lex.specs.declared.token.Symbol.TheVariants as mark
use Rattle.c0_parse.proofs.statements.condition_of.Goals as goal

abbrev closed : (ExprTree → ℕ → Plan) → ExprTree → ℕ → Plan
closed next e d = await 0 (sign_mark mark.CloseParen) (λ b. next e d)

abbrev inner : List (List ℕ) → ℕ → (ExprTree → ℕ → Plan) → Place → Plan
inner names up next a = expr names code up (closed next)

pub returns-in-Err-clause-reads : goal.returns-in-Err-clause-reads
returns-in-Err-clause-reads c = λ next.
    c.in-Err.ensures.reads (inner c.args.names.now c.args.up next)

pub returns-in-Err-expression-clause-reads : goal.returns-in-Err-expression-clause-reads
returns-in-Err-expression-clause-reads c = λ next.
    fails_as _ _ _ (c.in-Ok.ensures.reads (inner c.args.names.now c.args.up next))
    (c.in-Err-expression.ensures.reads (closed next))

pub returns-in-Err-expect-clause-reads : goal.returns-in-Err-expect-clause-reads
returns-in-Err-expect-clause-reads c = λ next.
    fails_as _ _ _ (c.in-Ok.ensures.reads (inner c.args.names.now c.args.up next)
    ∙ c.in-Ok-expression.ensures.reads (closed next))
    (c.in-Err-expect.ensures.reads (λ b. next (expr_view c.in-Ok-expression.value.0.expr) c.in-Ok-expression.value.0.depth))

pub returns-clause-reads : goal.returns-clause-reads
returns-clause-reads c = λ next.
    c.in-Ok.ensures.reads (inner c.args.names.now c.args.up next)
    ∙ c.in-Ok-expression.ensures.reads (closed next)
    ∙ c.in-Ok-expect.ensures.reads (λ b. next (expr_view c.in-Ok-expression.value.0.expr) c.in-Ok-expression.value.0.depth)
