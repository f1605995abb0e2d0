-- The code is one that can be run, and what its end says.
use Rattle.std.proofs.Common.{[], sym, subst}
use Rattle.stack_runner.specs.Built.{IsBuiltCode}
use Rattle.gradual_top.proofs.Said.{ok_ends}
use Rattle.gradual_top.proofs.top.run_program.Goals as goal

pub run_code-requires-clause-built : goal.run_code-requires-clause-built
run_code-requires-clause-built g c =
    let built = c.requires.built in
    subst IsBuiltCode (sym c.in-Ok.ensures.code) (c.built_programs_have_built_code.ensures _ built)

pub returns-in-Ok-run_code-clause-ends : goal.returns-in-Ok-run_code-clause-ends
returns-in-Ok-run_code-clause-ends g c =
    let y = c.in-Ok-run_code.ensures.ok in
    let s = c.say_text.ensures in
    ok_ends (λ v. v.items) _ _ _ _ _ c.in-Ok-run_code.ending _ _ _ (c.in-Ok.ensures.meaning [] c.args.steps) y.0 y.1 c.status_of.ensures c.ending_text.ensures s.said s.memory
