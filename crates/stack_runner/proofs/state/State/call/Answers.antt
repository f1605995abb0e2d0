use Rattle.std.proofs.Common.{sym, ap, ◌∙◌}
use Rattle.stack_code.specs.Views.{body_view}
use Rattle.stack_code.specs.Machine.{entered}
use Rattle.stack_runner.specs.States.{machine_of}
use Rattle.stack_runner.proofs.Checks.{built_function, viewed_at}
use Rattle.stack_runner.proofs.state.State.call.Goals as goal

pub enter-requires-clause-built : goal.enter-requires-clause-built
enter-requires-clause-built c = built_function c.args.code.now.functions c.args.number c.in-Some.function.now (sym c.in-Some.ensures.value) c.requires.code.functions

pub returns-clause-step : goal.returns-clause-step
returns-clause-step c = λ input output.
    ap (entered (machine_of input output c.args.self.now)) (viewed_at body_view c.args.code.now.functions c.args.number c.in-Some.function.now (sym c.in-Some.ensures.value))
    ∙ c.in_ok-enter.ensures.step input output
