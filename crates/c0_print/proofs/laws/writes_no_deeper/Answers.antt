-- What is answered by hand of the proof of `writes_no_deeper`.
use Rattle.c0_print.proofs.DepthTexts.{program_thin}
use Rattle.c0_print.proofs.laws.writes_no_deeper.Goals as goal

pub returns : goal.returns
returns c = program_thin
