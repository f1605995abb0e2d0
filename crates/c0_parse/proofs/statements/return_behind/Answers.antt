-- `return_behind`: what is left to show of its clauses.
use Rattle.std.proofs.Common.{List, None, Some, ap, arith, false, rules, sym, true, ℕ, ◌+◌, ◌∙◌, ◌≡◌}
use Rattle.gc0_base.specs.declared.place.Place.{Place}
use Rattle.parsed_tree.specs.Tree.{ExprTree, StmtTree, return_stmt}
use Rattle.parsed_tree.specs.Views.{expr_view}
use Rattle.c0_grammar.specs.Tokens.{sign_mark}
use Rattle.c0_grammar.specs.Allowed.{code}
use Rattle.c0_grammar.specs.Plan.{Plan, await, expr, return_plan}
use Rattle.c0_cursor.specs.Seen.{reading, starts}
use Rattle.c0_cursor.specs.Laws.{fails_as, not_first, peek_await, step_on}
use Rattle.c0_lex.specs.declared.token.Symbol.TheVariants as mark
use Rattle.c0_parse.proofs.statements.return_behind.Goals as goal

abbrev returned : (StmtTree → ℕ → Plan) → Place → Place → Plan
returned next at s = next (return_stmt at None) 1

abbrev valued : (StmtTree → ℕ → Plan) → Place → ExprTree → ℕ → Place → Plan
valued next at e d s = next (return_stmt at (Some e)) (d + 1)

abbrev ended : (StmtTree → ℕ → Plan) → Place → ExprTree → ℕ → Plan
ended next at e d = await 0 (sign_mark mark.Semicolon) (valued next at e d)

abbrev evaluated : List (List ℕ) → ℕ → (StmtTree → ℕ → Plan) → Place → Plan
evaluated names up next at = expr names code (up + 1) (ended next at)

pub returns-in-Err-clause-reads : goal.returns-in-Err-clause-reads
returns-in-Err-clause-reads c = λ next.
    let y : starts (sign_mark mark.Semicolon) c.args.tokens.now ≡ true = search rules in
    fails_as _ _ _ (step_on (c.args.up + 1) (return_plan c.args.names.now c.args.up next c.args.place) c.args.place c.args.tokens.now (omega arith)
    ∙ peek_await 0 (sign_mark mark.Semicolon) (returned next c.args.place) (evaluated c.args.names.now c.args.up next c.args.place) c.args.tokens.now y)
    (c.in-Err.ensures.reads (returned next c.args.place))

pub returns-then-begins-clause-reads : goal.returns-then-begins-clause-reads
returns-then-begins-clause-reads c = λ next.
    let y : starts (sign_mark mark.Semicolon) c.args.tokens.now ≡ true = search rules in
    step_on (c.args.up + 1) (return_plan c.args.names.now c.args.up next c.args.place) c.args.place c.args.tokens.now (omega arith)
    ∙ peek_await 0 (sign_mark mark.Semicolon) (returned next c.args.place) (evaluated c.args.names.now c.args.up next c.args.place) c.args.tokens.now y
    ∙ c.in-Ok.ensures.reads (returned next c.args.place)
    ∙ ap (λ z. reading (next z 1) c.in-Ok.value.1.now) (sym c.return_none.ensures)

pub returns-in-Err-expression-clause-reads : goal.returns-in-Err-expression-clause-reads
returns-in-Err-expression-clause-reads c = λ next.
    let n : starts (sign_mark mark.Semicolon) c.args.tokens.now ≡ false = search rules in
    fails_as _ _ _ (step_on (c.args.up + 1) (return_plan c.args.names.now c.args.up next c.args.place) c.args.place c.args.tokens.now (omega arith)
    ∙ not_first 0 (sign_mark mark.Semicolon) (returned next c.args.place) (evaluated c.args.names.now c.args.up next c.args.place) c.args.tokens.now n)
    (c.in-Err-expression.ensures.reads (ended next c.args.place))

pub returns-in-Err-expect-clause-reads : goal.returns-in-Err-expect-clause-reads
returns-in-Err-expect-clause-reads c = λ next.
    let n : starts (sign_mark mark.Semicolon) c.args.tokens.now ≡ false = search rules in
    let x = c.in-Ok-expression.value.0 in
    fails_as _ _ _ (step_on (c.args.up + 1) (return_plan c.args.names.now c.args.up next c.args.place) c.args.place c.args.tokens.now (omega arith)
    ∙ not_first 0 (sign_mark mark.Semicolon) (returned next c.args.place) (evaluated c.args.names.now c.args.up next c.args.place) c.args.tokens.now n
    ∙ c.in-Ok-expression.ensures.reads (ended next c.args.place))
    (c.in-Err-expect.ensures.reads (valued next c.args.place (expr_view x.expr) x.depth))

pub returns-clause-reads : goal.returns-clause-reads
returns-clause-reads c = λ next.
    let n : starts (sign_mark mark.Semicolon) c.args.tokens.now ≡ false = search rules in
    let x = c.in-Ok-expression.value.0 in
    step_on (c.args.up + 1) (return_plan c.args.names.now c.args.up next c.args.place) c.args.place c.args.tokens.now (omega arith)
    ∙ not_first 0 (sign_mark mark.Semicolon) (returned next c.args.place) (evaluated c.args.names.now c.args.up next c.args.place) c.args.tokens.now n
    ∙ c.in-Ok-expression.ensures.reads (ended next c.args.place)
    ∙ c.in-Ok-expect.ensures.reads (valued next c.args.place (expr_view x.expr) x.depth)
    ∙ ap (λ z. reading (next z (x.depth + 1)) c.in-Ok-expect.value.1.now) (sym c.return_value.ensures)
