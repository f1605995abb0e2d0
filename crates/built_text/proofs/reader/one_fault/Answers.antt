-- What is answered by hand of the proof of `one_fault`.
use Rattle.built_text.proofs.Runs.{one_of_faults}
use Rattle.built_text.proofs.reader.one_fault.Goals as goal

pub returns : goal.returns
returns c = one_of_faults
