-- `outcome_behind`: what is left to show of its clauses.
use Rattle.std.proofs.Common.{◌∙◌, ap, sym, not}
use Rattle.parsed_tree.specs.Tree.{outcome}
use Rattle.c0_grammar.specs.Written.{spot}
use Rattle.c0_grammar.specs.Plan.{arrows, node, step_if}
use Rattle.c0_cursor.specs.Seen.{reading, stepping}
use Rattle.c0_cursor.specs.Laws.{along, step_on}
use Rattle.c0_expressions.proofs.Steps.{both}
use Rattle.c0_expressions.proofs.expressions.outcome_behind.Goals as goal

pub returns-then-is_code-clause-reads : goal.returns-then-is_code-clause-reads
returns-then-is_code-clause-reads c = λ next.
    ap (λ b. stepping (step_if (not b) (node c.args.up (arrows c.args.up (outcome (spot c.args.place)) 0 next))) c.args.place c.args.tokens.now) (sym c.is_code.ensures ∙ c.if-is_code.true)

pub returns-clause-reads : goal.returns-clause-reads
returns-clause-reads c = λ next.
    let u = c.args.up in
    let at = c.args.place in
    let ts = c.args.tokens.now in
    along _ _ _ _
    (ap (λ b. stepping (step_if (not b) (node u (arrows u (outcome (spot at)) 0 next))) at ts) (sym c.is_code.ensures ∙ c.if-is_code.false)
    ∙ step_on u (arrows u (outcome (spot at)) 0 next) at ts c.requires
    ∙ both (λ x d. reading (arrows u x d next) ts) _ _ _ _ (sym c.in_ok-outcome.ensures.expr) (sym c.in_ok-outcome.ensures.depth))
    (c.arrows_behind.ensures.reads next)
