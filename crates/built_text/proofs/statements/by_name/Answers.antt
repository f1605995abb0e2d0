-- What is answered by hand of the proof of `by_name`.
use Rattle.std.proofs.Common.{◌∙◌, ap, sym}
use Rattle.gc0_base.specs.declared.place.Place.{Place}
use Rattle.built_text.specs.declared.tree.Named.{Named}
use Rattle.built_text.specs.Tree.{RightTree, StmtTree, assign, call_stmt}
use Rattle.built_text.specs.Views.{call_view}
use Rattle.built_text.specs.Plan.{Plan, run}
use Rattle.built_text.proofs.Failing.{fails_as}
use Rattle.built_text.proofs.Loops.{call_line, line_call, assignment, line_assign}
use Rattle.built_text.proofs.statements.by_name.Goals as goal

abbrev made : (StmtTree → Plan) → Named → Place → RightTree → Plan
made next n q r = next (assign n q r)

pub returns-in-Err-clause-reads : goal.returns-in-Err-clause-reads
returns-in-Err-clause-reads c = λ next.
    fails_as _ _ _ (line_call c.args.room next c.args.tokens.now (sym c.begins_call.ensures ∙ c.if-begins_call.true)) (c.in-Err.ensures.reads (call_line c.args.room next))

pub returns-in-Err-expect-clause-reads : goal.returns-in-Err-expect-clause-reads
returns-in-Err-expect-clause-reads c = λ next.
    fails_as _ _ _ (line_call c.args.room next c.args.tokens.now (sym c.begins_call.ensures ∙ c.if-begins_call.true) ∙ c.in-Ok.ensures.reads (call_line c.args.room next)) (c.in-Err-expect.ensures.reads (λ s. next (call_stmt (call_view c.in-Ok.value.0))))

pub returns-in-Err-identifier-clause-reads : goal.returns-in-Err-identifier-clause-reads
returns-in-Err-identifier-clause-reads c = λ next.
    fails_as _ _ _ (line_assign c.args.room next c.args.tokens.now c.requires (sym c.begins_call.ensures ∙ c.if-begins_call.false)) (c.in-Err-identifier.ensures.reads (assignment c.args.room next))

pub returns-in-Err-assignment-clause-reads : goal.returns-in-Err-assignment-clause-reads
returns-in-Err-assignment-clause-reads c = λ next.
    fails_as _ _ _ (line_assign c.args.room next c.args.tokens.now c.requires (sym c.begins_call.ensures ∙ c.if-begins_call.false) ∙ c.in-Ok-identifier.ensures.reads (assignment c.args.room next)) (c.in-Err-assignment.ensures.reads (made next c.in-Ok-identifier.value.0))

pub returns-then-begins_call-clause-reads : goal.returns-then-begins_call-clause-reads
returns-then-begins_call-clause-reads c = λ next.
    line_call c.args.room next c.args.tokens.now (sym c.begins_call.ensures ∙ c.if-begins_call.true) ∙ c.in-Ok.ensures.reads (call_line c.args.room next) ∙ c.in-Ok-expect.ensures.reads (λ s. next (call_stmt (call_view c.in-Ok.value.0)))
    ∙ ap (λ s. run (next s) c.in-Ok-expect.value.1.now) (sym c.call_statement.ensures)

pub returns-clause-reads : goal.returns-clause-reads
returns-clause-reads c = λ next.
    line_assign c.args.room next c.args.tokens.now c.requires (sym c.begins_call.ensures ∙ c.if-begins_call.false) ∙ c.in-Ok-identifier.ensures.reads (assignment c.args.room next) ∙ c.in-Ok-assignment.ensures.reads (made next c.in-Ok-identifier.value.0)
    ∙ ap (λ s. run (next s) c.in-Ok-assignment.value.2.now) (sym c.assign.ensures)
