-- `behind_base`: what is left to show of its clauses.
use Rattle.c0_cursor.proofs.types.behind_base.Goals as goal

pub returns-in-Err-clause-reads : goal.returns-in-Err-clause-reads
returns-in-Err-clause-reads c = λ next. c.in-Err.ensures.reads c.args.place c.args.base next

pub returns-clause-reads : goal.returns-clause-reads
returns-clause-reads c = λ next. c.in-Ok.ensures.reads c.args.place c.args.base next
