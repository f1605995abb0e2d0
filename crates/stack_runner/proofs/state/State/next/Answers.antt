use Rattle.std.proofs.Common.{sym}
use Rattle.stack_runner.proofs.Checks.{built_instr}
use Rattle.stack_runner.proofs.state.State.next.Goals as goal

pub returns-in-Some-clause-built : goal.returns-in-Some-clause-built
returns-in-Some-clause-built c = built_instr c.args.self.now.frame.instrs.now c.args.self.now.frame.next c.in-Some.instr.now (sym c.in-Some.ensures) c.requires.0.built
