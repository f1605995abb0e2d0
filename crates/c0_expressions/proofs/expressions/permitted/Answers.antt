-- `permitted`: what is left to show of its clauses.
use Rattle.std.proofs.Common.{rules, ◌≡◌, ◌+◌, ap, true, false}
use Rattle.c0_grammar.specs.Allowed.{is_conjunct}
use Rattle.c0_grammar.specs.Plan.{acc_plan, node, step_if}
use Rattle.c0_cursor.specs.Seen.{mode_view, stepping}
use Rattle.c0_cursor.specs.Laws.{along}
use Rattle.c0_expressions.proofs.expressions.permitted.Goals as goal

pub returns-then-not-is_conjunct-clause-reads : goal.returns-then-not-is_conjunct-clause-reads
returns-then-not-is_conjunct-clause-reads c = λ next.
    let f : is_conjunct (mode_view c.args.mode) ≡ false = search rules in
    ap (λ b. stepping (step_if b (node (c.args.up + 2) (acc_plan c.args.names.now c.args.up next c.args.place))) c.args.place c.args.tokens.now) f

pub returns-clause-reads : goal.returns-clause-reads
returns-clause-reads c = λ next.
    let f : is_conjunct (mode_view c.args.mode) ≡ true = search rules in
    along _ _ _ _
    (ap (λ b. stepping (step_if b (node (c.args.up + 2) (acc_plan c.args.names.now c.args.up next c.args.place))) c.args.place c.args.tokens.now) f)
    (c.acc_behind.ensures.reads next)
