-- What is answered by hand of the proof of `note`.
use Rattle.std.proofs.Common.{◌∙◌}
use Rattle.gc0_base.specs.declared.place.Place.{Place}
use Rattle.built_text.specs.declared.token.Fixed.TheVariants as mark
use Rattle.built_text.specs.Tree.{FormulaTree, NoteTree}
use Rattle.built_text.specs.Views.{formula_view}
use Rattle.built_text.specs.Plan.{Plan, await}
use Rattle.built_text.proofs.Failing.{fails_as}
use Rattle.built_text.proofs.expressions.note.Goals as goal

abbrev ended : Place → (NoteTree → Plan) → FormulaTree → Plan
ended at next q = await mark.LineEnd (λ l. next (record { place = at; formula = q }))

abbrev told : Place → (NoteTree → Plan) → FormulaTree → Plan
told at next q = await mark.Semicolon (λ s. ended at next q)

pub returns-in-Err-clause-reads : goal.returns-in-Err-clause-reads
returns-in-Err-clause-reads c = λ next. c.in-Err.ensures.reads (told c.args.place next)

pub returns-in-Err-expect-clause-reads : goal.returns-in-Err-expect-clause-reads
returns-in-Err-expect-clause-reads c = λ next.
    fails_as _ _ _ (c.in-Ok.ensures.reads (told c.args.place next)) (c.in-Err-expect.ensures.reads (λ s. ended c.args.place next (formula_view c.in-Ok.value.0)))

pub returns-in-Err-expect-2-clause-reads : goal.returns-in-Err-expect-2-clause-reads
returns-in-Err-expect-2-clause-reads c = λ next.
    fails_as _ _ _ (c.in-Ok.ensures.reads (told c.args.place next) ∙ c.in-Ok-expect.ensures.reads (λ s. ended c.args.place next (formula_view c.in-Ok.value.0))) (c.in-Err-expect-2.ensures.reads (λ l. next (record { place = c.args.place; formula = formula_view c.in-Ok.value.0 })))

pub returns-clause-reads : goal.returns-clause-reads
returns-clause-reads c = λ next.
    c.in-Ok.ensures.reads (told c.args.place next) ∙ c.in-Ok-expect.ensures.reads (λ s. ended c.args.place next (formula_view c.in-Ok.value.0)) ∙ c.in-Ok-expect-2.ensures.reads (λ l. next (record { place = c.args.place; formula = formula_view c.in-Ok.value.0 }))
