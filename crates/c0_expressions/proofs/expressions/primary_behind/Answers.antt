-- `primary_behind`: what is left to show of its clauses.
use Rattle.std.proofs.Common.{ap}
use Rattle.parsed_tree.specs.Views.{expr_view}
use Rattle.c0_grammar.specs.Plan.{primary}
use Rattle.c0_cursor.specs.Seen.{reading, mode_view}
use Rattle.c0_cursor.specs.Laws.{along}
use Rattle.c0_expressions.proofs.expressions.primary_behind.Goals as goal

pub returns-in-Code-clause-reads : goal.returns-in-Code-clause-reads
returns-in-Code-clause-reads c = λ next.
    along _ _ _ _ (ap (λ m. reading (primary (mode_view m) c.args.up next (expr_view c.args.e.expr) c.args.e.depth) c.args.tokens.now) c.in-Code.is)
    (c.arrows_behind.ensures.reads next)
