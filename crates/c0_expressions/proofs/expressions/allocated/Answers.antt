-- `allocated`: what is left to show of its clauses.
use Rattle.std.proofs.Common.{rules, ◌≡◌, ◌∙◌, ap, true, false}
use Rattle.c0_grammar.specs.Allowed.{is_code}
use Rattle.c0_grammar.specs.Plan.{alloc_plan, node, step_if}
use Rattle.c0_cursor.specs.Seen.{mode_view, stepping}
use Rattle.c0_cursor.specs.Laws.{along, step_on}
use Rattle.c0_expressions.proofs.expressions.allocated.Goals as goal

pub returns-then-not-is_code-clause-reads : goal.returns-then-not-is_code-clause-reads
returns-then-not-is_code-clause-reads c = λ next.
    let f : is_code (mode_view c.args.mode) ≡ false = search rules in
    ap (λ b. stepping (step_if b (node c.args.up (alloc_plan c.args.names.now c.args.up next c.args.place))) c.args.place c.args.tokens.now) f

pub returns-clause-reads : goal.returns-clause-reads
returns-clause-reads c = λ next.
    let f : is_code (mode_view c.args.mode) ≡ true = search rules in
    let A = alloc_plan c.args.names.now c.args.up next c.args.place in
    along _ _ _ _
    (ap (λ b. stepping (step_if b (node c.args.up A)) c.args.place c.args.tokens.now) f ∙ step_on c.args.up A c.args.place c.args.tokens.now c.requires)
    (c.alloc_behind.ensures.reads next)
