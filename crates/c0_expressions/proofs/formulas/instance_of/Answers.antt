-- `instance_of`: what is left to show of its clauses.
use Rattle.std.proofs.Common.{◌∙◌, ◌+◌, ℕ, List}
use Rattle.c0_lex.specs.declared.token.Symbol.TheVariants as mark
use Rattle.parsed_tree.specs.declared.expressions.Named.{Named}
use Rattle.parsed_tree.specs.Tree.{ExprTrees, InstanceTree}
use Rattle.parsed_tree.specs.Views.{exprs_view}
use Rattle.c0_grammar.specs.Tokens.{sign_mark}
use Rattle.c0_grammar.specs.Allowed.{value}
use Rattle.c0_grammar.specs.Plan.{Plan, await, arguments}
use Rattle.c0_cursor.specs.Laws.{fails_as}
use Rattle.c0_expressions.proofs.formulas.instance_of.Goals as goal

abbrev made : (InstanceTree → ℕ → Plan) → Named → ExprTrees → ℕ → Plan
made next n es d = next (record { name = n; arguments = es }) (d + 1)

abbrev ended : (InstanceTree → ℕ → Plan) → Named → ExprTrees → ℕ → Plan
ended next n es d = await 0 (sign_mark mark.Semicolon) (λ s. made next n es d)

abbrev given : List (List ℕ) → ℕ → (InstanceTree → ℕ → Plan) → Named → Plan
given names up next n = arguments names value (up + 1) (ended next n)

abbrev opened : List (List ℕ) → ℕ → (InstanceTree → ℕ → Plan) → Named → Plan
opened names up next n = await 0 (sign_mark mark.OpenParen) (λ a. given names up next n)

pub returns-in-Err-clause-reads : goal.returns-in-Err-clause-reads
returns-in-Err-clause-reads c = λ next. c.in-Err.ensures.reads (opened c.args.names.now c.args.up next)

pub returns-in-Err-expect-clause-reads : goal.returns-in-Err-expect-clause-reads
returns-in-Err-expect-clause-reads c = λ next.
    let names = c.args.names.now in
    let n = c.in-Ok.value.0 in
    fails_as _ _ _ (c.in-Ok.ensures.reads (opened names c.args.up next)) (c.in-Err-expect.ensures.reads (λ a. given names c.args.up next n))

pub returns-in-Err-arguments_of-clause-reads : goal.returns-in-Err-arguments_of-clause-reads
returns-in-Err-arguments_of-clause-reads c = λ next.
    let names = c.args.names.now in
    let n = c.in-Ok.value.0 in
    fails_as _ _ _ (c.in-Ok.ensures.reads (opened names c.args.up next) ∙ c.in-Ok-expect.ensures.reads (λ a. given names c.args.up next n)) (c.in-Err-arguments_of.ensures.reads (ended next n))

pub returns-in-Err-expect-2-clause-reads : goal.returns-in-Err-expect-2-clause-reads
returns-in-Err-expect-2-clause-reads c = λ next.
    let names = c.args.names.now in
    let n = c.in-Ok.value.0 in
    let x = c.in-Ok-arguments_of.value in
    fails_as _ _ _ (c.in-Ok.ensures.reads (opened names c.args.up next) ∙ c.in-Ok-expect.ensures.reads (λ a. given names c.args.up next n) ∙ c.in-Ok-arguments_of.ensures.reads (ended next n)) (c.in-Err-expect-2.ensures.reads (λ s. made next n (exprs_view x.0) x.1))

pub returns-clause-reads : goal.returns-clause-reads
returns-clause-reads c = λ next.
    let names = c.args.names.now in
    let n = c.in-Ok.value.0 in
    let x = c.in-Ok-arguments_of.value in
    c.in-Ok.ensures.reads (opened names c.args.up next) ∙ c.in-Ok-expect.ensures.reads (λ a. given names c.args.up next n) ∙ c.in-Ok-arguments_of.ensures.reads (ended next n) ∙ c.in-Ok-expect-2.ensures.reads (λ s. made next n (exprs_view x.0) x.1)
