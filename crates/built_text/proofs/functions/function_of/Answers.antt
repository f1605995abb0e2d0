-- What is answered by hand of the proof of `function_of`.
use Rattle.std.proofs.Common.{◌∙◌, List}
use Rattle.gc0_base.specs.declared.place.Place.{Place}
use Rattle.built_text.specs.declared.token.Fixed.TheVariants as mark
use Rattle.built_text.specs.declared.tree.Named.{Named}
use Rattle.built_text.specs.declared.tree.Typed.{Typed}
use Rattle.built_text.specs.declared.tree.Parameter.{Parameter}
use Rattle.built_text.specs.Tree.{StmtTrees, ClauseTree, FunctionTree}
use Rattle.built_text.specs.Views.{clauses_view}
use Rattle.built_text.specs.Plan.{Plan, await, contract, body, parameters_plan}
use Rattle.built_text.proofs.Failing.{fails_as}
use Rattle.built_text.proofs.functions.function_of.Goals as goal

abbrev made : Typed → Named → List Parameter → (FunctionTree → Plan) → List ClauseTree → StmtTrees → Place → Plan
made t n ps next cs ss e = next (record { typed = t; name = n; parameters = ps; contract = cs; body = ss; close = e })

abbrev with_body : Typed → Named → List Parameter → (FunctionTree → Plan) → List ClauseTree → Plan
with_body t n ps next cs = body (made t n ps next cs)

abbrev with_contract : Typed → Named → (FunctionTree → Plan) → List Parameter → Plan
with_contract t n next ps = contract (with_body t n ps next)

abbrev with_parameters : Typed → (FunctionTree → Plan) → Named → Plan
with_parameters t next n = await mark.Open (λ a. parameters_plan (with_contract t n next))

pub returns-in-Err-clause-reads : goal.returns-in-Err-clause-reads
returns-in-Err-clause-reads c = λ next. c.in-Err.ensures.reads (with_parameters c.args.typed next)

pub returns-in-Err-expect-clause-reads : goal.returns-in-Err-expect-clause-reads
returns-in-Err-expect-clause-reads c = λ next.
    let t = c.args.typed in
    let n = c.in-Ok.value.0 in
    fails_as _ _ _ (c.in-Ok.ensures.reads (with_parameters t next)) (c.in-Err-expect.ensures.reads (λ a. parameters_plan (with_contract t n next)))

pub returns-in-Err-parameters_of-clause-reads : goal.returns-in-Err-parameters_of-clause-reads
returns-in-Err-parameters_of-clause-reads c = λ next.
    let t = c.args.typed in
    let n = c.in-Ok.value.0 in
    fails_as _ _ _ (c.in-Ok.ensures.reads (with_parameters t next) ∙ c.in-Ok-expect.ensures.reads (λ a. parameters_plan (with_contract t n next))) (c.in-Err-parameters_of.ensures.reads (with_contract t n next))

pub returns-in-Err-contract_of-clause-reads : goal.returns-in-Err-contract_of-clause-reads
returns-in-Err-contract_of-clause-reads c = λ next.
    let t = c.args.typed in
    let n = c.in-Ok.value.0 in
    let ps = c.in-Ok-parameters_of.value.0 in
    fails_as _ _ _ (c.in-Ok.ensures.reads (with_parameters t next) ∙ c.in-Ok-expect.ensures.reads (λ a. parameters_plan (with_contract t n next)) ∙ c.in-Ok-parameters_of.ensures.reads (with_contract t n next)) (c.in-Err-contract_of.ensures.reads (with_body t n ps next))

pub returns-in-Err-body_of-clause-reads : goal.returns-in-Err-body_of-clause-reads
returns-in-Err-body_of-clause-reads c = λ next.
    let t = c.args.typed in
    let n = c.in-Ok.value.0 in
    let ps = c.in-Ok-parameters_of.value.0 in
    fails_as _ _ _ (c.in-Ok.ensures.reads (with_parameters t next) ∙ c.in-Ok-expect.ensures.reads (λ a. parameters_plan (with_contract t n next)) ∙ c.in-Ok-parameters_of.ensures.reads (with_contract t n next) ∙ c.in-Ok-contract_of.ensures.reads (with_body t n ps next)) (c.in-Err-body_of.ensures.reads (made t n ps next (clauses_view c.in-Ok-contract_of.value.0)))
