-- `use_of`: what is left to show of its clauses.
use Rattle.std.proofs.Common.{◌∙◌, ℕ}
use Rattle.gc0_base.specs.declared.place.Place.{Place}
use Rattle.c0_lex.specs.declared.token.Symbol.TheVariants as mark
use Rattle.parsed_tree.specs.declared.items.Library.{Library}
use Rattle.c0_grammar.specs.Tokens.{sign_mark}
use Rattle.c0_grammar.specs.Plan.{Plan, await, library_name_of, use_plan}
use Rattle.c0_cursor.specs.Laws.{fails_as}
use Rattle.c0_parse.proofs.reader.use_of.Goals as goal

abbrev named : (Library → ℕ → Plan) → Place → Plan
named next at = use_plan next

abbrev closed : (Library → ℕ → Plan) → Library → Plan
closed next l = await 0 (sign_mark mark.Greater) (λ b. next l 0)

abbrev opened : (Library → ℕ → Plan) → Place → Plan
opened next a = library_name_of (closed next)

pub returns-in-Err-clause-reads : goal.returns-in-Err-clause-reads
returns-in-Err-clause-reads c = λ next. c.in-Err.ensures.reads (named next)

pub returns-in-Err-expect-clause-reads : goal.returns-in-Err-expect-clause-reads
returns-in-Err-expect-clause-reads c = λ next. fails_as _ _ _ (c.in-Ok.ensures.reads (named next)) (c.in-Err-expect.ensures.reads (opened next))

pub returns-in-Err-library-clause-reads : goal.returns-in-Err-library-clause-reads
returns-in-Err-library-clause-reads c = λ next.
    fails_as _ _ _ (c.in-Ok.ensures.reads (named next) ∙ c.in-Ok-expect.ensures.reads (opened next)) (c.in-Err-library.ensures.reads (closed next))

pub returns-in-Err-expect-2-clause-reads : goal.returns-in-Err-expect-2-clause-reads
returns-in-Err-expect-2-clause-reads c = λ next.
    fails_as _ _ _
    (c.in-Ok.ensures.reads (named next) ∙ c.in-Ok-expect.ensures.reads (opened next) ∙ c.in-Ok-library.ensures.reads (closed next))
    (c.in-Err-expect-2.ensures.reads (λ b. next c.in-Ok-library.value.0 0))

pub returns-clause-reads : goal.returns-clause-reads
returns-clause-reads c = λ next.
    c.in-Ok.ensures.reads (named next) ∙ c.in-Ok-expect.ensures.reads (opened next) ∙ c.in-Ok-library.ensures.reads (closed next)
    ∙ c.in-Ok-expect-2.ensures.reads (λ b. next c.in-Ok-library.value.0 0)
