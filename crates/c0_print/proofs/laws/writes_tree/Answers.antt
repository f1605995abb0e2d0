-- What is answered by hand of the proof of `writes_tree`.
use Rattle.c0_print.proofs.StatementTrees.{program_again}
use Rattle.c0_print.proofs.laws.writes_tree.Goals as goal

pub returns : goal.returns
returns c = program_again
