-- `by_keyword`: what is left to show of its clauses.
use Rattle.std.proofs.Common.{◌∙◌, ap, sym, true, false}
use Rattle.parsed_tree.specs.Tree.{truth, null}
use Rattle.c0_grammar.specs.Written.{spot}
use Rattle.c0_grammar.specs.Plan.{primary, word_step}
use Rattle.c0_cursor.specs.Seen.{mode_view, reading, stepping}
use Rattle.c0_cursor.specs.Laws.{along, step_on}
use Rattle.c0_expressions.proofs.Steps.{both}
use Rattle.c0_expressions.proofs.expressions.by_keyword.Goals as goal

pub returns-in_ok-truth-in-True-clause-reads : goal.returns-in_ok-truth-in-True-clause-reads
returns-in_ok-truth-in-True-clause-reads c = λ next.
    let m = mode_view c.args.mode in
    let u = c.args.up in
    let at = c.args.place in
    let ts = c.args.tokens.now in
    along _ _ _ _
    (ap (λ k. stepping (word_step c.args.names.now m u next k at) at ts) c.in-True.is
    ∙ step_on u (primary m u next (truth (spot at) true) 0) at ts c.requires
    ∙ both (λ x d. reading (primary m u next x d) ts) _ _ _ _ (sym c.in_ok-truth-in-True.ensures.expr) (sym c.in_ok-truth-in-True.ensures.depth))
    (c.primary_behind.ensures.reads next)

pub returns-in_ok-truth-in-False-clause-reads : goal.returns-in_ok-truth-in-False-clause-reads
returns-in_ok-truth-in-False-clause-reads c = λ next.
    let m = mode_view c.args.mode in
    let u = c.args.up in
    let at = c.args.place in
    let ts = c.args.tokens.now in
    along _ _ _ _
    (ap (λ k. stepping (word_step c.args.names.now m u next k at) at ts) c.in-False.is
    ∙ step_on u (primary m u next (truth (spot at) false) 0) at ts c.requires
    ∙ both (λ x d. reading (primary m u next x d) ts) _ _ _ _ (sym c.in_ok-truth-in-False.ensures.expr) (sym c.in_ok-truth-in-False.ensures.depth))
    (c.primary_behind-in-False.ensures.reads next)

pub returns-in_ok-null-in-Null-clause-reads : goal.returns-in_ok-null-in-Null-clause-reads
returns-in_ok-null-in-Null-clause-reads c = λ next.
    let m = mode_view c.args.mode in
    let u = c.args.up in
    let at = c.args.place in
    let ts = c.args.tokens.now in
    along _ _ _ _
    (ap (λ k. stepping (word_step c.args.names.now m u next k at) at ts) c.in-Null.is
    ∙ step_on u (primary m u next (null (spot at)) 0) at ts c.requires
    ∙ both (λ x d. reading (primary m u next x d) ts) _ _ _ _ (sym c.in_ok-null-in-Null.ensures.expr) (sym c.in_ok-null-in-Null.ensures.depth))
    (c.primary_behind-in-Null.ensures.reads next)

pub returns-in-Outcome-clause-reads : goal.returns-in-Outcome-clause-reads
returns-in-Outcome-clause-reads c = λ next.
    along _ _ _ _ (ap (λ k. stepping (word_step c.args.names.now (mode_view c.args.mode) c.args.up next k c.args.place) c.args.place c.args.tokens.now) c.in-Outcome.is) (c.outcome_behind.ensures.reads next)

pub returns-in-Alloc-clause-reads : goal.returns-in-Alloc-clause-reads
returns-in-Alloc-clause-reads c = λ next.
    along _ _ _ _ (ap (λ k. stepping (word_step c.args.names.now (mode_view c.args.mode) c.args.up next k c.args.place) c.args.place c.args.tokens.now) c.in-Alloc.is) (c.allocated.ensures.reads next)

pub returns-in-Acc-clause-reads : goal.returns-in-Acc-clause-reads
returns-in-Acc-clause-reads c = λ next.
    along _ _ _ _ (ap (λ k. stepping (word_step c.args.names.now (mode_view c.args.mode) c.args.up next k c.args.place) c.args.place c.args.tokens.now) c.in-Acc.is) (c.permitted.ensures.reads next)
