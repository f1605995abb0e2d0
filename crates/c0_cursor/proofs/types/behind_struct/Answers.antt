-- `behind_struct`: what is left to show of its clauses.
use Rattle.parsed_tree.specs.declared.expressions.Base.TheVariants as base
use Rattle.c0_grammar.specs.Plan.{stars}
use Rattle.c0_cursor.specs.Laws.{along}
use Rattle.c0_cursor.proofs.types.behind_struct.Goals as goal

pub returns-in-Err-clause-reads : goal.returns-in-Err-clause-reads
returns-in-Err-clause-reads c = λ next. c.in-Err.ensures.reads (λ n. stars c.args.place (base.Struct n) next)

pub returns-clause-reads : goal.returns-clause-reads
returns-clause-reads c = λ next. along _ _ _ _ (c.in-Ok.ensures.reads (λ n. stars c.args.place (base.Struct n) next)) (c.behind_base.ensures.reads next)
