-- What is answered by hand of the proof of `one_fault`.
use Rattle.c0_lex.proofs.Cuts.{one_fault}
use Rattle.c0_lex.proofs.laws.one_fault.Goals as goal

pub returns : goal.returns
returns c = one_fault
