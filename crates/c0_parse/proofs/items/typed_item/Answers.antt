-- `typed_item`: what is left to show of its clauses.
use Rattle.c0_grammar.specs.Plan.{typed_head}
use Rattle.c0_cursor.specs.Laws.{along}
use Rattle.c0_parse.proofs.items.typed_item.Goals as goal

pub returns-in-Err-clause-reads : goal.returns-in-Err-clause-reads
returns-in-Err-clause-reads c = λ next.
    c.in-Err.ensures.reads (typed_head c.args.names.now next)

pub returns-clause-reads : goal.returns-clause-reads
returns-clause-reads c = λ next.
    along _ _ _ _ (c.in-Ok.ensures.reads (typed_head c.args.names.now next))
    (c.head_behind.ensures.reads next)
