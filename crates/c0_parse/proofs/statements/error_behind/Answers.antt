-- `error_behind`: what is left to show of its clauses.
use Rattle.std.proofs.Common.{ap, arith, sym, ℕ, ◌+◌, ◌∙◌}
use Rattle.gc0_base.specs.declared.place.Place.{Place}
use Rattle.parsed_tree.specs.declared.expressions.Text.{Text}
use Rattle.parsed_tree.specs.Tree.{StmtTree, error_stmt}
use Rattle.c0_grammar.specs.Tokens.{sign_mark}
use Rattle.c0_grammar.specs.Plan.{Plan, await, error_plan, text}
use Rattle.c0_cursor.specs.Seen.{reading}
use Rattle.c0_cursor.specs.Laws.{fails_as, step_on}
use Rattle.c0_lex.specs.declared.token.Symbol.TheVariants as mark
use Rattle.c0_parse.proofs.statements.error_behind.Goals as goal

abbrev made : (StmtTree → ℕ → Plan) → Place → Text → Place → Plan
made next at t s = next (error_stmt at t) 1

abbrev ended : (StmtTree → ℕ → Plan) → Place → Text → Place → Plan
ended next at t b = await 0 (sign_mark mark.Semicolon) (made next at t)

abbrev closed : (StmtTree → ℕ → Plan) → Place → Text → Plan
closed next at t = await 0 (sign_mark mark.CloseParen) (ended next at t)

abbrev opened : (StmtTree → ℕ → Plan) → Place → Place → Plan
opened next at a = text (closed next at)

pub returns-in-Err-clause-reads : goal.returns-in-Err-clause-reads
returns-in-Err-clause-reads c = λ next.
    fails_as _ _ _ (step_on (c.args.up + 1) (error_plan next c.args.place) c.args.place c.args.tokens.now (omega arith))
    (c.in-Err.ensures.reads (opened next c.args.place))

pub returns-in-Err-string-clause-reads : goal.returns-in-Err-string-clause-reads
returns-in-Err-string-clause-reads c = λ next.
    fails_as _ _ _ (step_on (c.args.up + 1) (error_plan next c.args.place) c.args.place c.args.tokens.now (omega arith)
    ∙ c.in-Ok.ensures.reads (opened next c.args.place))
    (c.in-Err-string.ensures.reads (closed next c.args.place))

pub returns-in-Err-expect-clause-reads : goal.returns-in-Err-expect-clause-reads
returns-in-Err-expect-clause-reads c = λ next.
    fails_as _ _ _ (step_on (c.args.up + 1) (error_plan next c.args.place) c.args.place c.args.tokens.now (omega arith)
    ∙ c.in-Ok.ensures.reads (opened next c.args.place)
    ∙ c.in-Ok-string.ensures.reads (closed next c.args.place))
    (c.in-Err-expect.ensures.reads (ended next c.args.place c.in-Ok-string.value.0))

pub returns-in-Err-expect-2-clause-reads : goal.returns-in-Err-expect-2-clause-reads
returns-in-Err-expect-2-clause-reads c = λ next.
    fails_as _ _ _ (step_on (c.args.up + 1) (error_plan next c.args.place) c.args.place c.args.tokens.now (omega arith)
    ∙ c.in-Ok.ensures.reads (opened next c.args.place)
    ∙ c.in-Ok-string.ensures.reads (closed next c.args.place)
    ∙ c.in-Ok-expect.ensures.reads (ended next c.args.place c.in-Ok-string.value.0))
    (c.in-Err-expect-2.ensures.reads (made next c.args.place c.in-Ok-string.value.0))

pub returns-clause-reads : goal.returns-clause-reads
returns-clause-reads c = λ next.
    step_on (c.args.up + 1) (error_plan next c.args.place) c.args.place c.args.tokens.now (omega arith)
    ∙ c.in-Ok.ensures.reads (opened next c.args.place)
    ∙ c.in-Ok-string.ensures.reads (closed next c.args.place)
    ∙ c.in-Ok-expect.ensures.reads (ended next c.args.place c.in-Ok-string.value.0)
    ∙ c.in-Ok-expect-2.ensures.reads (made next c.args.place c.in-Ok-string.value.0)
    ∙ ap (λ z. reading (next z 1) c.in-Ok-expect-2.value.1.now) (sym c.error_stop.ensures)
