-- What is answered by hand of the proof of `writes_good`.
use Rattle.c0_print.proofs.AllowedTexts.{program_good}
use Rattle.c0_print.proofs.laws.writes_good.Goals as goal

pub returns : goal.returns
returns c = program_good
