-- What is answered by hand of the proof of `assignment`.
use Rattle.std.proofs.Common.{◌∙◌}
use Rattle.gc0_base.specs.declared.place.Place.{Place}
use Rattle.built_text.specs.declared.token.Fixed.TheVariants as mark
use Rattle.built_text.specs.Tree.{RightTree}
use Rattle.built_text.specs.Views.{right_view}
use Rattle.built_text.specs.Plan.{Plan, await, right_side}
use Rattle.built_text.proofs.Failing.{fails_as}
use Rattle.built_text.proofs.statements.assignment.Goals as goal

abbrev ended : (Place → RightTree → Plan) → Place → RightTree → Plan
ended next q r = await mark.Semicolon (λ s. next q r)

pub returns-in-Err-clause-reads : goal.returns-in-Err-clause-reads
returns-in-Err-clause-reads c = λ next. c.in-Err.ensures.reads (λ q. right_side c.args.room (ended next q))

pub returns-in-Err-right-clause-reads : goal.returns-in-Err-right-clause-reads
returns-in-Err-right-clause-reads c = λ next.
    fails_as _ _ _ (c.in-Ok.ensures.reads (λ q. right_side c.args.room (ended next q))) (c.in-Err-right.ensures.reads (ended next c.in-Ok.value.0))

pub returns-in-Err-expect-clause-reads : goal.returns-in-Err-expect-clause-reads
returns-in-Err-expect-clause-reads c = λ next.
    fails_as _ _ _ (c.in-Ok.ensures.reads (λ q. right_side c.args.room (ended next q)) ∙ c.in-Ok-right.ensures.reads (ended next c.in-Ok.value.0)) (c.in-Err-expect.ensures.reads (λ s. next c.in-Ok.value.0 (right_view c.in-Ok-right.value.0)))
