-- The answer for each stage at which a text can end.
use Rattle.std.proofs.Common.{refl, inl, inr}
use Rattle.std.specs.Prelude.{◌≢◌}
use Rattle.c0_lex.specs.declared.fault.LexFault.TheVariants as lex
use Rattle.parse_faults.specs.declared.fault.ParseFault.TheVariants as parse
use Rattle.c0_value_rules.specs.declared.violation.TypeFault.TheVariants as typed
use Rattle.parsed_tree.specs.Views.{program_view}
use Rattle.gradual_top.specs.Outcomes.{TextAnswered}
use Rattle.gradual_top.proofs.Said.{known_said}
use Rattle.gradual_top.proofs.Causes.{ends, lexical_answer, parse_answer, type_answer, has_tree}
use Rattle.gradual_top.proofs.top.serve_text.Goals as goal

pub returns-in-Err-clause-answer : goal.returns-in-Err-clause-answer
returns-in-Err-clause-answer g c =
    let s = c.say_text.ensures in
    let t = c.lexical_text.ensures in
    known_said (c.in-Err.fault ≢ lex.Memory) (λ v. v.items) (TextAnswered c.args.text.now c.args.steps _) _ _ _ _ _ _ _ _ t.line t.fault s.said s.memory
    (λ x e. lexical_answer c.args.text.now c.args.steps _ c.in-Err.fault x c.in-Err.ensures.fault (record { out = refl; err = e }))
    (λ r. (inl refl, inr r)) (inl refl)

pub returns-in-Err-parse-clause-answer : goal.returns-in-Err-parse-clause-answer
returns-in-Err-parse-clause-answer g c =
    let s = c.say_text-in-Err-parse.ensures in
    let t = c.parse_text.ensures in
    let has = c.in-Ok.ensures.tokens in
    let cause = rw c.deref.ensures.value at c.in-Err-parse.ensures.cause in
    let said = rw c.parse_status.ensures at s.said in
    known_said (c.in-Err-parse.fault ≢ parse.Memory) (λ v. v.items) (TextAnswered c.args.text.now c.args.steps _) _ _ _ _ _ _ _ _ t.line t.fault said s.memory
    (λ x e. parse_answer c.args.text.now c.in-Ok.tokens.items c.args.steps _ c.in-Err-parse.fault x has (cause (ends c.args.text.now c.in-Ok.tokens.items has)) (record { out = refl; err = e }))
    (λ r. (inl refl, inr r)) (inl refl)

pub returns-in-Err-resolve-clause-answer : goal.returns-in-Err-resolve-clause-answer
returns-in-Err-resolve-clause-answer g c =
    let s = c.say_text-in-Err-resolve.ensures in
    let t = c.type_text.ensures in
    let has = c.in-Ok.ensures.tokens in
    let tree = rw c.deref.ensures.value at c.in-Ok-parse.ensures.tree in
    known_said (c.in-Err-resolve.fault ≢ typed.Memory) (λ v. v.items) (TextAnswered c.args.text.now c.args.steps _) _ _ _ _ _ _ _ _ t.line t.fault s.said s.memory
    (λ x e. type_answer c.args.text.now c.args.steps _ c.in-Err-resolve.fault (program_view c.in-Ok-parse.parsed)
    (has_tree c.args.text.now c.in-Ok.tokens.items _ has (tree (ends c.args.text.now c.in-Ok.tokens.items has)))
    c.in-Ok-parse.ensures.faultless
    x c.in-Err-resolve.ensures.fault (record { out = refl; err = e }))
    (λ r. (inl refl, inr r)) (inl refl)

pub serve_program-requires-clause-resolved : goal.serve_program-requires-clause-resolved
serve_program-requires-clause-resolved g c =
    let has = c.in-Ok.ensures.tokens in
    let tree = rw c.deref.ensures.value at c.in-Ok-parse.ensures.tree in
    rw c.deref-2.ensures.value (record {
      tree = program_view c.in-Ok-parse.parsed;
      lexed = has;
      reads = tree (ends c.args.text.now c.in-Ok.tokens.items has);
      faultless = c.in-Ok-parse.ensures.faultless;
      typed = c.in-Ok-resolve.ensures.kept;
      resolves = c.in-Ok-resolve.ensures.program;
    })
