-- What is answered by hand of the proof of `right`.
use Rattle.std.proofs.Common.{◌∙◌, sym}
use Rattle.built_text.specs.Tree.{call}
use Rattle.built_text.proofs.Failing.{fails_as}
use Rattle.built_text.proofs.Enters.{right_any, valued}
use Rattle.built_text.proofs.Loops.{right_call}
use Rattle.built_text.proofs.expressions.right.Goals as goal

pub returns-in-Err-clause-reads : goal.returns-in-Err-clause-reads
returns-in-Err-clause-reads c = λ next.
    fails_as _ _ _ (right_call c.args.room next c.args.tokens.now (sym c.begins_call.ensures ∙ c.if-begins_call.true)) (c.in-Err.ensures.reads (λ k. next (call k)))

pub returns-in-Err-expression-clause-reads : goal.returns-in-Err-expression-clause-reads
returns-in-Err-expression-clause-reads c = λ next.
    fails_as _ _ _ (right_any c.args.room next c.args.tokens.now (sym c.begins_call.ensures ∙ c.if-begins_call.false)) (c.in-Err-expression.ensures.reads (valued next))

pub returns-then-begins_call-clause-reads : goal.returns-then-begins_call-clause-reads
returns-then-begins_call-clause-reads c = λ next.
    right_call c.args.room next c.args.tokens.now (sym c.begins_call.ensures ∙ c.if-begins_call.true) ∙ c.in-Ok.ensures.reads (λ k. next (call k))

pub returns-clause-reads : goal.returns-clause-reads
returns-clause-reads c = λ next.
    right_any c.args.room next c.args.tokens.now (sym c.begins_call.ensures ∙ c.if-begins_call.false) ∙ c.in-Ok-expression.ensures.reads (valued next)
