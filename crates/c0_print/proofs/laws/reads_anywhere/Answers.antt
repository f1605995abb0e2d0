-- What is answered by hand of the proof of `reads_anywhere`.
use Rattle.c0_print.proofs.Anywhere.{anywhere}
use Rattle.c0_print.proofs.laws.reads_anywhere.Goals as goal

pub returns : goal.returns
returns c = anywhere
