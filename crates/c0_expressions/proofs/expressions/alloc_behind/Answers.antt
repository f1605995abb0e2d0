-- `alloc_behind`: what is left to show of its clauses.
use Rattle.std.proofs.Common.{◌∙◌, sym, ℕ}
use Rattle.gc0_base.specs.declared.place.Place.{Place}
use Rattle.c0_lex.specs.declared.token.Symbol.TheVariants as mark
use Rattle.parsed_tree.specs.declared.expressions.TypeName.{TypeName}
use Rattle.parsed_tree.specs.Tree.{ExprTree, alloc}
use Rattle.c0_grammar.specs.Tokens.{sign_mark}
use Rattle.c0_grammar.specs.Written.{spot}
use Rattle.c0_grammar.specs.Plan.{Plan, await, arrows, typed}
use Rattle.c0_cursor.specs.Seen.{reading}
use Rattle.c0_cursor.specs.Laws.{fails_as, along}
use Rattle.c0_expressions.proofs.Steps.{both}
use Rattle.c0_expressions.proofs.expressions.alloc_behind.Goals as goal

abbrev made : ℕ → (ExprTree → ℕ → Plan) → Place → TypeName → Plan
made up next at t = arrows up (alloc (spot at) t) 0 next

abbrev closed : ℕ → (ExprTree → ℕ → Plan) → Place → TypeName → Plan
closed up next at t = await 0 (sign_mark mark.CloseParen) (λ b. made up next at t)

pub returns-in-Err-clause-reads : goal.returns-in-Err-clause-reads
returns-in-Err-clause-reads c = λ next. c.in-Err.ensures.reads (λ a. typed c.args.names.now (closed c.args.up next c.args.place))

pub returns-in-Err-type_name-clause-reads : goal.returns-in-Err-type_name-clause-reads
returns-in-Err-type_name-clause-reads c = λ next.
    fails_as _ _ _ (c.in-Ok.ensures.reads (λ a. typed c.args.names.now (closed c.args.up next c.args.place))) (c.in-Err-type_name.ensures.reads (closed c.args.up next c.args.place))

pub returns-in-Err-expect-clause-reads : goal.returns-in-Err-expect-clause-reads
returns-in-Err-expect-clause-reads c = λ next.
    fails_as _ _ _
    (c.in-Ok.ensures.reads (λ a. typed c.args.names.now (closed c.args.up next c.args.place)) ∙ c.in-Ok-type_name.ensures.reads (closed c.args.up next c.args.place))
    (c.in-Err-expect.ensures.reads (λ b. made c.args.up next c.args.place c.in-Ok-type_name.value.0))

pub returns-clause-reads : goal.returns-clause-reads
returns-clause-reads c = λ next.
    along _ _ _ _
    (c.in-Ok.ensures.reads (λ a. typed c.args.names.now (closed c.args.up next c.args.place)) ∙ c.in-Ok-type_name.ensures.reads (closed c.args.up next c.args.place)
    ∙ c.in-Ok-expect.ensures.reads (λ b. made c.args.up next c.args.place c.in-Ok-type_name.value.0)
    ∙ both (λ x d. reading (arrows c.args.up x d next) c.in-Ok-expect.value.1.now) _ _ _ _ (sym c.in_ok-allocation.ensures.expr) (sym c.in_ok-allocation.ensures.depth))
    (c.arrows_behind.ensures.reads next)
