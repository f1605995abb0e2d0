use Rattle.stack_runner.proofs.Generated.{code_built}
use Rattle.stack_runner.proofs.built.built_programs_have_built_code.Goals as goal

pub returns : goal.returns
returns c = code_built
