-- `predicate_behind`: what is left to show of its clauses.
use Rattle.std.proofs.Common.{List, ap, sym, ℕ, ◌∙◌}
use Rattle.c0_cursor.specs.Seen.{reading}
use Rattle.gc0_base.specs.declared.place.Place.{Place}
use Rattle.parsed_tree.specs.declared.expressions.Named.{Named}
use Rattle.parsed_tree.specs.declared.items.Param.{Param}
use Rattle.parsed_tree.specs.Tree.{ExprTree, PredicateTree}
use Rattle.parsed_tree.specs.Views.{expr_view}
use Rattle.c0_grammar.specs.Tokens.{sign_mark}
use Rattle.c0_grammar.specs.Allowed.{conjunct}
use Rattle.c0_grammar.specs.Plan.{Plan, await, expr, params_plan}
use Rattle.c0_cursor.specs.Laws.{fails_as}
use Rattle.c0_lex.specs.declared.token.Symbol.TheVariants as mark
use Rattle.c0_parse.proofs.items.predicate_behind.Goals as goal

abbrev made : (PredicateTree → ℕ → Plan) → Place → Named → List Param → ExprTree → ℕ → Place → Plan
made next at n ps e d s = next (record { place = at; name = n; params = ps; body = e }) d

abbrev ended : (PredicateTree → ℕ → Plan) → Place → Named → List Param → ExprTree → ℕ → Plan
ended next at n ps e d = await 0 (sign_mark mark.Semicolon) (made next at n ps e d)

abbrev equals : List (List ℕ) → (PredicateTree → ℕ → Plan) → Place → Named → List Param → Place → Plan
equals names next at n ps q = expr names conjunct 0 (ended next at n ps)

abbrev with_params : List (List ℕ) → (PredicateTree → ℕ → Plan) → Place → Named → List Param → Plan
with_params names next at n ps = await 0 (sign_mark mark.Assign) (equals names next at n ps)

abbrev opened : List (List ℕ) → (PredicateTree → ℕ → Plan) → Place → Named → Place → Plan
opened names next at n a = params_plan names (with_params names next at n)

abbrev named : List (List ℕ) → (PredicateTree → ℕ → Plan) → Place → Named → Plan
named names next at n = await 0 (sign_mark mark.OpenParen) (opened names next at n)

pub returns-in-Err-clause-reads : goal.returns-in-Err-clause-reads
returns-in-Err-clause-reads c = λ next.
    c.in-Err.ensures.reads (named c.args.names.now next c.args.place)

pub returns-in-Err-expect-clause-reads : goal.returns-in-Err-expect-clause-reads
returns-in-Err-expect-clause-reads c = λ next.
    fails_as _ _ _ (c.in-Ok.ensures.reads (named c.args.names.now next c.args.place))
    (c.in-Err-expect.ensures.reads (opened c.args.names.now next c.args.place c.in-Ok.value.0))

pub returns-in-Err-params_of-clause-reads : goal.returns-in-Err-params_of-clause-reads
returns-in-Err-params_of-clause-reads c = λ next.
    fails_as _ _ _ (c.in-Ok.ensures.reads (named c.args.names.now next c.args.place)
    ∙ c.in-Ok-expect.ensures.reads (opened c.args.names.now next c.args.place c.in-Ok.value.0))
    (c.in-Err-params_of.ensures.reads (with_params c.args.names.now next c.args.place c.in-Ok.value.0))

pub returns-in-Err-expect-2-clause-reads : goal.returns-in-Err-expect-2-clause-reads
returns-in-Err-expect-2-clause-reads c = λ next.
    fails_as _ _ _ (c.in-Ok.ensures.reads (named c.args.names.now next c.args.place)
    ∙ c.in-Ok-expect.ensures.reads (opened c.args.names.now next c.args.place c.in-Ok.value.0)
    ∙ c.in-Ok-params_of.ensures.reads (with_params c.args.names.now next c.args.place c.in-Ok.value.0))
    (c.in-Err-expect-2.ensures.reads (equals c.args.names.now next c.args.place c.in-Ok.value.0 c.in-Ok-params_of.value.0))

pub returns-in-Err-expression-clause-reads : goal.returns-in-Err-expression-clause-reads
returns-in-Err-expression-clause-reads c = λ next.
    fails_as _ _ _ (c.in-Ok.ensures.reads (named c.args.names.now next c.args.place)
    ∙ c.in-Ok-expect.ensures.reads (opened c.args.names.now next c.args.place c.in-Ok.value.0)
    ∙ c.in-Ok-params_of.ensures.reads (with_params c.args.names.now next c.args.place c.in-Ok.value.0)
    ∙ c.in-Ok-expect-2.ensures.reads (equals c.args.names.now next c.args.place c.in-Ok.value.0 c.in-Ok-params_of.value.0))
    (c.in-Err-expression.ensures.reads (ended next c.args.place c.in-Ok.value.0 c.in-Ok-params_of.value.0))

pub returns-in-Err-expect-3-clause-reads : goal.returns-in-Err-expect-3-clause-reads
returns-in-Err-expect-3-clause-reads c = λ next.
    fails_as _ _ _ (c.in-Ok.ensures.reads (named c.args.names.now next c.args.place)
    ∙ c.in-Ok-expect.ensures.reads (opened c.args.names.now next c.args.place c.in-Ok.value.0)
    ∙ c.in-Ok-params_of.ensures.reads (with_params c.args.names.now next c.args.place c.in-Ok.value.0)
    ∙ c.in-Ok-expect-2.ensures.reads (equals c.args.names.now next c.args.place c.in-Ok.value.0 c.in-Ok-params_of.value.0)
    ∙ c.in-Ok-expression.ensures.reads (ended next c.args.place c.in-Ok.value.0 c.in-Ok-params_of.value.0))
    (c.in-Err-expect-3.ensures.reads (made next c.args.place c.in-Ok.value.0 c.in-Ok-params_of.value.0 (expr_view c.in-Ok-expression.value.0.expr) c.in-Ok-expression.value.0.depth))

pub returns-clause-reads : goal.returns-clause-reads
returns-clause-reads c = λ next.
    c.in-Ok.ensures.reads (named c.args.names.now next c.args.place)
    ∙ c.in-Ok-expect.ensures.reads (opened c.args.names.now next c.args.place c.in-Ok.value.0)
    ∙ c.in-Ok-params_of.ensures.reads (with_params c.args.names.now next c.args.place c.in-Ok.value.0)
    ∙ c.in-Ok-expect-2.ensures.reads (equals c.args.names.now next c.args.place c.in-Ok.value.0 c.in-Ok-params_of.value.0)
    ∙ c.in-Ok-expression.ensures.reads (ended next c.args.place c.in-Ok.value.0 c.in-Ok-params_of.value.0)
    ∙ c.in-Ok-expect-3.ensures.reads (made next c.args.place c.in-Ok.value.0 c.in-Ok-params_of.value.0 (expr_view c.in-Ok-expression.value.0.expr) c.in-Ok-expression.value.0.depth)
    ∙ ap (λ b. reading (made next c.args.place c.in-Ok.value.0 c.in-Ok-params_of.value.0 (expr_view b) c.in-Ok-expression.value.0.depth c.in-Ok-expect-3.value.0) c.in-Ok-expect-3.value.1.now) (sym c.into_inner.ensures)
