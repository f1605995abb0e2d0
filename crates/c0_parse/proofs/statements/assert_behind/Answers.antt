-- `assert_behind`: what is left to show of its clauses.
use Rattle.std.proofs.Common.{ap, arith, sym, ℕ, ◌+◌, ◌∙◌}
use Rattle.gc0_base.specs.declared.place.Place.{Place}
use Rattle.parsed_tree.specs.Tree.{ExprTree, StmtTree, assert_stmt}
use Rattle.parsed_tree.specs.Views.{expr_view}
use Rattle.c0_grammar.specs.Tokens.{sign_mark}
use Rattle.c0_grammar.specs.Plan.{Plan, assert_stmt_plan, await}
use Rattle.c0_cursor.specs.Seen.{reading}
use Rattle.c0_cursor.specs.Laws.{fails_as, step_on}
use Rattle.c0_lex.specs.declared.token.Symbol.TheVariants as mark
use Rattle.c0_parse.proofs.statements.assert_behind.Goals as goal

abbrev asserted : (StmtTree → ℕ → Plan) → Place → ExprTree → ℕ → Place → Plan
asserted next at e d s = next (assert_stmt at e) (d + 1)

abbrev ended : (StmtTree → ℕ → Plan) → Place → ExprTree → ℕ → Plan
ended next at e d = await 0 (sign_mark mark.Semicolon) (asserted next at e d)

pub returns-in-Err-clause-reads : goal.returns-in-Err-clause-reads
returns-in-Err-clause-reads c = λ next.
    fails_as _ _ _ (step_on (c.args.up + 1) (assert_stmt_plan c.args.names.now c.args.up next c.args.place) c.args.place c.args.tokens.now (omega arith))
    (c.in-Err.ensures.reads (ended next c.args.place))

pub returns-in-Err-expect-clause-reads : goal.returns-in-Err-expect-clause-reads
returns-in-Err-expect-clause-reads c = λ next.
    fails_as _ _ _ (step_on (c.args.up + 1) (assert_stmt_plan c.args.names.now c.args.up next c.args.place) c.args.place c.args.tokens.now (omega arith)
    ∙ c.in-Ok.ensures.reads (ended next c.args.place))
    (c.in-Err-expect.ensures.reads (asserted next c.args.place (expr_view c.in-Ok.value.0) c.in-Ok.value.1))

pub returns-clause-reads : goal.returns-clause-reads
returns-clause-reads c = λ next.
    step_on (c.args.up + 1) (assert_stmt_plan c.args.names.now c.args.up next c.args.place) c.args.place c.args.tokens.now (omega arith)
    ∙ c.in-Ok.ensures.reads (ended next c.args.place)
    ∙ c.in-Ok-expect.ensures.reads (asserted next c.args.place (expr_view c.in-Ok.value.0) c.in-Ok.value.1)
    ∙ ap (λ z. reading (next z (c.in-Ok.value.1 + 1)) c.in-Ok-expect.value.1.now) (sym c.assertion.ensures)
