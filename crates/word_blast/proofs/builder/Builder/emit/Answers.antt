use Rattle.word_blast.proofs.Steps.{emit-from, emit-lit}
use Rattle.word_blast.proofs.builder.Builder.emit.Goals as goal

pub returns-clause-lit : goal.returns-clause-lit
returns-clause-lit c = emit-lit c.args.gate c.args.x c.args.y c.args.z c.args.self.now c.in_ok-variable.variable c.in_ok-variable.ensures.first

pub returns-clause-circuit : goal.returns-clause-circuit
returns-clause-circuit c =
    emit-from c.args.gate c.args.x c.args.y c.args.z c.args.self.now c.take_variables.new.self c.define.new.self c.in_ok-variable.variable c.in_ok-variable.ensures.first c.in_ok-variable.ensures.circuit c.in_ok-define.ensures
