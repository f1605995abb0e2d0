-- The answer for each stage at which a program that was resolved can end.
use Rattle.std.proofs.Common.{refl, inl, inr, sym, subst}
use Rattle.gc0_tree.specs.Views.{program_view}
use Rattle.stack_code.specs.Built.{IsBuilt}
use Rattle.gradual_top.specs.Outcomes.{TextAnswered}
use Rattle.gradual_top.proofs.Said.{text_said, of_run}
use Rattle.gradual_top.proofs.Causes.{ends_small, frame_answer, limit_answer, unbuilt_answer, runnable}
use Rattle.gradual_top.proofs.Built.{program_built}
use Rattle.gradual_top.proofs.top.serve_program.Goals as goal

pub returns-in-Err-clause-answer : goal.returns-in-Err-clause-answer
returns-in-Err-clause-answer g c =
    let s = c.say_text.ensures in
    text_said (λ v. v.items) (TextAnswered c.args.text.now c.args.steps _) _ _ _ _ _ _ _ _ c.frame_text.ensures s.said s.memory
    (λ e. frame_answer c.args.text.now c.args.tokens.now _ c.args.steps _ c.in-Err.fault c.requires.resolved c.in-Err.ensures.fault (record { out = refl; err = e }))
    (λ r. (inl refl, inr r)) (inl refl)

pub returns-in-Some-clause-answer : goal.returns-in-Some-clause-answer
returns-in-Some-clause-answer g c =
    let s = c.say_text-in-Some.ensures in
    text_said (λ v. v.items) (TextAnswered c.args.text.now c.args.steps _) _ _ _ _ _ _ _ _ c.limit_text.ensures s.said s.memory
    (λ e. limit_answer c.args.text.now c.args.tokens.now _ c.args.steps _ c.in-Some.limit c.requires.resolved c.in-Ok.ensures.kept (sym c.in-Some.ensures) (record { out = refl; err = e }))
    (λ r. (inl refl, inr r)) (inl refl)

pub returns-in-Err-NotBuilt-clause-answer : goal.returns-in-Err-NotBuilt-clause-answer
returns-in-Err-NotBuilt-clause-answer g c =
    let s = c.say_text-in-Err-NotBuilt.ensures in
    let k = c.requires.resolved in
    let fault = rw c.in-Err-NotBuilt.field-0-is at c.in-Err-NotBuilt.ensures.fault in
    text_said (λ v. v.items) (TextAnswered c.args.text.now c.args.steps _) _ _ _ _ _ _ _ _ c.not_built_text.ensures s.said s.memory
    (λ e. unbuilt_answer c.args.text.now c.args.tokens.now _ c.args.steps _ c.in-Err-NotBuilt.place k c.in-Ok.ensures.kept (sym c.in-None.ensures) (fault (ends_small c.cut_ends_last.ensures _ _ k.lexed)) (record { out = refl; err = e }))
    (λ r. (inl refl, inr r)) (inl refl)

pub run_program-requires-clause-built : goal.run_program-requires-clause-built
run_program-requires-clause-built g c =
    let k = c.requires.resolved in
    subst IsBuilt (sym k.resolves) (program_built k.tree (c.built_forms.ensures c.args.tokens.now _ k.tree _ c.in-Ok-read.ensures.tree k.reads.program) k.typed)

pub returns-clause-answer : goal.returns-clause-answer
returns-clause-answer g c =
    let k = c.requires.resolved in
    of_run c.args.text.now k.tree c.args.steps _ _ (runnable c.args.text.now c.args.tokens.now (program_view c.args.program.now) _ k c.in-Ok.ensures.kept (sym c.in-None.ensures) c.in-Ok-read.ensures.tree)
    (rw k.resolves at c.run_program.ensures.ends)
