-- What is answered by hand of the proof of `writes_again`.
use Rattle.c0_print.proofs.Again.{again}
use Rattle.c0_print.proofs.laws.writes_again.Goals as goal

pub returns : goal.returns
returns c = again
