-- `named_params`: what is left to show of its clauses.
use Rattle.std.proofs.Common.{List, ℕ, ◌∙◌}
use Rattle.gc0_base.specs.declared.place.Place.{Place}
use Rattle.parsed_tree.specs.declared.expressions.Named.{Named}
use Rattle.parsed_tree.specs.declared.items.Param.{Param}
use Rattle.parsed_tree.specs.declared.items.ResultType.{ResultType}
use Rattle.parsed_tree.specs.Tree.{ItemTree}
use Rattle.c0_grammar.specs.Tokens.{sign_mark}
use Rattle.c0_grammar.specs.Plan.{Plan, await, behind_head, params_plan}
use Rattle.c0_cursor.specs.Laws.{fails_as}
use Rattle.c0_lex.specs.declared.token.Symbol.TheVariants as mark
use Rattle.c0_parse.proofs.items.named_params.Goals as goal

abbrev behind_params : List (List ℕ) → (ItemTree → ℕ → Plan) → ResultType → Named → List Param → Plan
behind_params names next r n ps = behind_head names next (record { result = r; name = n; params = ps })

abbrev behind_paren : List (List ℕ) → (ItemTree → ℕ → Plan) → ResultType → Named → Place → Plan
behind_paren names next r n a = params_plan names (behind_params names next r n)

abbrev behind_result : List (List ℕ) → (ItemTree → ℕ → Plan) → ResultType → Named → Plan
behind_result names next r n = await 0 (sign_mark mark.OpenParen) (behind_paren names next r n)

pub returns-in-Err-clause-reads : goal.returns-in-Err-clause-reads
returns-in-Err-clause-reads c = λ r next. c.in-Err.ensures.reads (behind_result c.args.names.now next r)

pub returns-in-Err-expect-clause-reads : goal.returns-in-Err-expect-clause-reads
returns-in-Err-expect-clause-reads c = λ r next.
    let names = c.args.names.now in
    let n = c.in-Ok.value.0 in
    fails_as _ _ _ (c.in-Ok.ensures.reads (behind_result names next r))
    (c.in-Err-expect.ensures.reads (behind_paren names next r n))

pub returns-in-Err-params_of-clause-reads : goal.returns-in-Err-params_of-clause-reads
returns-in-Err-params_of-clause-reads c = λ r next.
    let names = c.args.names.now in
    let n = c.in-Ok.value.0 in
    fails_as _ _ _ (c.in-Ok.ensures.reads (behind_result names next r)
    ∙ c.in-Ok-expect.ensures.reads (behind_paren names next r n))
    (c.in-Err-params_of.ensures.reads (behind_params names next r n))

pub returns-clause-reads : goal.returns-clause-reads
returns-clause-reads c = λ r next.
    let names = c.args.names.now in
    let n = c.in-Ok.value.0 in
    c.in-Ok.ensures.reads (behind_result names next r)
    ∙ c.in-Ok-expect.ensures.reads (behind_paren names next r n)
    ∙ c.in-Ok-params_of.ensures.reads (behind_params names next r n)
