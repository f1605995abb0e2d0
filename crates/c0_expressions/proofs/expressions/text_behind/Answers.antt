-- `text_behind`: what is left to show of its clauses.
use Rattle.std.proofs.Common.{◌∙◌, sym}
use Rattle.parsed_tree.specs.Tree.{call_text}
use Rattle.c0_grammar.specs.Written.{spot}
use Rattle.c0_grammar.specs.Plan.{arrows}
use Rattle.c0_cursor.specs.Seen.{reading}
use Rattle.c0_expressions.specs.Read.{text_called}
use Rattle.c0_cursor.specs.Laws.{fails_as, along}
use Rattle.c0_expressions.proofs.Steps.{both}
use Rattle.c0_expressions.proofs.expressions.text_behind.Goals as goal

pub returns-in-Err-clause-reads : goal.returns-in-Err-clause-reads
returns-in-Err-clause-reads c = λ next. c.in-Err.ensures.reads (text_called c.args.up next c.args.place c.args.name)

pub returns-in-Err-expect-clause-reads : goal.returns-in-Err-expect-clause-reads
returns-in-Err-expect-clause-reads c = λ next.
    fails_as _ _ _ (c.in-Ok.ensures.reads (text_called c.args.up next c.args.place c.args.name))
    (c.in-Err-expect.ensures.reads (λ b. arrows c.args.up (call_text (spot c.args.place) c.args.name c.in-Ok.value.0) 1 next))

pub returns-clause-reads : goal.returns-clause-reads
returns-clause-reads c = λ next.
    along _ _ _ _
    (c.in-Ok.ensures.reads (text_called c.args.up next c.args.place c.args.name)
    ∙ c.in-Ok-expect.ensures.reads (λ b. arrows c.args.up (call_text (spot c.args.place) c.args.name c.in-Ok.value.0) 1 next)
    ∙ both (λ x d. reading (arrows c.args.up x d next) c.in-Ok-expect.value.1.now) _ _ _ _ (sym c.in_ok-call_text.ensures.expr) (sym c.in_ok-call_text.ensures.depth))
    (c.arrows_behind.ensures.reads next)
