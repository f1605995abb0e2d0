-- `acc_behind`: what is left to show of its clauses.
use Rattle.std.proofs.Common.{◌∙◌, ◌+◌, ℕ, [], sym, arith}
use Rattle.gc0_base.specs.declared.place.Place.{Place}
use Rattle.c0_lex.specs.declared.token.Symbol.TheVariants as mark
use Rattle.parsed_tree.specs.declared.expressions.Named.{Named}
use Rattle.parsed_tree.specs.Tree.{ExprTree, acc}
use Rattle.parsed_tree.specs.Views.{expr_view}
use Rattle.c0_grammar.specs.Tokens.{sign_mark}
use Rattle.c0_grammar.specs.Written.{spot}
use Rattle.c0_grammar.specs.Plan.{Plan, await, name, acc_arrows, path_start, acc_plan}
use Rattle.c0_cursor.specs.Seen.{reading}
use Rattle.c0_cursor.specs.Laws.{fails_as, step_on}
use Rattle.c0_expressions.proofs.Steps.{both}
use Rattle.c0_expressions.proofs.expressions.acc_behind.Goals as goal

abbrev made : (ExprTree → ℕ → Plan) → Place → ExprTree → ℕ → Place → Named → Plan
made next at y d q g = next (acc (spot at) y q g) (d + 2)

abbrev behind_field : ℕ → (ExprTree → ℕ → Plan) → Place → ExprTree → Place → Named → Plan
behind_field up next at x p f = acc_arrows up x 0 p f (made next at)

abbrev behind_arrow : ℕ → (ExprTree → ℕ → Plan) → Place → ExprTree → Place → Plan
behind_arrow up next at x p = name [] (behind_field up next at x p)

abbrev behind_path : ℕ → (ExprTree → ℕ → Plan) → Place → ExprTree → Plan
behind_path up next at x = await 0 (sign_mark mark.Arrow) (behind_arrow up next at x)

pub returns-in-Err-clause-reads : goal.returns-in-Err-clause-reads
returns-in-Err-clause-reads c = λ next.
    fails_as _ _ _ (step_on (c.args.up + 2) (acc_plan c.args.names.now c.args.up next c.args.place) c.args.place c.args.tokens.now (omega arith))
    (c.in-Err.ensures.reads (λ a. path_start c.args.names.now (behind_path c.args.up next c.args.place)))

pub returns-in-Err-path_start_of-clause-reads : goal.returns-in-Err-path_start_of-clause-reads
returns-in-Err-path_start_of-clause-reads c = λ next.
    fails_as _ _ _ (step_on (c.args.up + 2) (acc_plan c.args.names.now c.args.up next c.args.place) c.args.place c.args.tokens.now (omega arith)
    ∙ c.in-Ok.ensures.reads (λ a. path_start c.args.names.now (behind_path c.args.up next c.args.place)))
    (c.in-Err-path_start_of.ensures.reads (behind_path c.args.up next c.args.place))

pub returns-in-Err-expect-clause-reads : goal.returns-in-Err-expect-clause-reads
returns-in-Err-expect-clause-reads c = λ next.
    let x = expr_view c.in-Ok-path_start_of.value.0 in
    fails_as _ _ _ (step_on (c.args.up + 2) (acc_plan c.args.names.now c.args.up next c.args.place) c.args.place c.args.tokens.now (omega arith)
    ∙ c.in-Ok.ensures.reads (λ a. path_start c.args.names.now (behind_path c.args.up next c.args.place))
    ∙ c.in-Ok-path_start_of.ensures.reads (behind_path c.args.up next c.args.place))
    (c.in-Err-expect.ensures.reads (behind_arrow c.args.up next c.args.place x))

pub returns-in-Err-any_name-clause-reads : goal.returns-in-Err-any_name-clause-reads
returns-in-Err-any_name-clause-reads c = λ next.
    let x = expr_view c.in-Ok-path_start_of.value.0 in
    fails_as _ _ _ (step_on (c.args.up + 2) (acc_plan c.args.names.now c.args.up next c.args.place) c.args.place c.args.tokens.now (omega arith)
    ∙ c.in-Ok.ensures.reads (λ a. path_start c.args.names.now (behind_path c.args.up next c.args.place))
    ∙ c.in-Ok-path_start_of.ensures.reads (behind_path c.args.up next c.args.place)
    ∙ c.in-Ok-expect.ensures.reads (behind_arrow c.args.up next c.args.place x))
    (c.in-Err-any_name.ensures.reads (behind_field c.args.up next c.args.place x c.in-Ok-expect.value.0))

pub returns-in-Err-acc_end-clause-reads : goal.returns-in-Err-acc_end-clause-reads
returns-in-Err-acc_end-clause-reads c = λ next.
    let x = expr_view c.in-Ok-path_start_of.value.0 in
    fails_as _ _ _ (step_on (c.args.up + 2) (acc_plan c.args.names.now c.args.up next c.args.place) c.args.place c.args.tokens.now (omega arith)
    ∙ c.in-Ok.ensures.reads (λ a. path_start c.args.names.now (behind_path c.args.up next c.args.place))
    ∙ c.in-Ok-path_start_of.ensures.reads (behind_path c.args.up next c.args.place)
    ∙ c.in-Ok-expect.ensures.reads (behind_arrow c.args.up next c.args.place x)
    ∙ c.in-Ok-any_name.ensures.reads (behind_field c.args.up next c.args.place x c.in-Ok-expect.value.0))
    (c.in-Err-acc_end.ensures.reads (made next c.args.place))

pub returns-clause-reads : goal.returns-clause-reads
returns-clause-reads c = λ next.
    let x = expr_view c.in-Ok-path_start_of.value.0 in
    step_on (c.args.up + 2) (acc_plan c.args.names.now c.args.up next c.args.place) c.args.place c.args.tokens.now (omega arith)
    ∙ c.in-Ok.ensures.reads (λ a. path_start c.args.names.now (behind_path c.args.up next c.args.place))
    ∙ c.in-Ok-path_start_of.ensures.reads (behind_path c.args.up next c.args.place)
    ∙ c.in-Ok-expect.ensures.reads (behind_arrow c.args.up next c.args.place x)
    ∙ c.in-Ok-any_name.ensures.reads (behind_field c.args.up next c.args.place x c.in-Ok-expect.value.0)
    ∙ c.in-Ok-acc_end.ensures.reads (made next c.args.place)
    ∙ both (λ y d. reading (next y d) c.in-Ok-acc_end.value.4.now) _ _ _ _ (sym c.in_ok-permission.ensures.expr) (sym c.in_ok-permission.ensures.depth)
