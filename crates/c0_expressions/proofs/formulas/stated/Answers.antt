-- `stated`: what is left to show of its clauses.
use Rattle.std.proofs.Common.{◌∙◌, ℕ}
use Rattle.c0_lex.specs.declared.token.Symbol.TheVariants as mark
use Rattle.parsed_tree.specs.Tree.{FormulaTree}
use Rattle.parsed_tree.specs.Views.{formula_view}
use Rattle.c0_grammar.specs.Tokens.{sign_mark}
use Rattle.c0_grammar.specs.Plan.{Plan, await}
use Rattle.c0_cursor.specs.Laws.{fails_as}
use Rattle.c0_expressions.proofs.formulas.stated.Goals as goal

abbrev ended : (FormulaTree → ℕ → Plan) → FormulaTree → ℕ → Plan
ended next f d = await 0 (sign_mark mark.Semicolon) (λ s. next f d)

pub returns-in-Err-clause-reads : goal.returns-in-Err-clause-reads
returns-in-Err-clause-reads c = λ next. c.in-Err.ensures.reads (ended next)

pub returns-in-Err-expect-clause-reads : goal.returns-in-Err-expect-clause-reads
returns-in-Err-expect-clause-reads c = λ next.
    fails_as _ _ _ (c.in-Ok.ensures.reads (ended next)) (c.in-Err-expect.ensures.reads (λ s. next (formula_view c.in-Ok.value.0) c.in-Ok.value.1))

pub returns-clause-reads : goal.returns-clause-reads
returns-clause-reads c = λ next.
    c.in-Ok.ensures.reads (ended next) ∙ c.in-Ok-expect.ensures.reads (λ s. next (formula_view c.in-Ok.value.0) c.in-Ok.value.1)
