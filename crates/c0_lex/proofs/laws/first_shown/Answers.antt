-- What is answered by hand of the proof of `first_shown`.
use Rattle.c0_lex.proofs.Shown.{first_shown}
use Rattle.c0_lex.proofs.laws.first_shown.Goals as goal

pub returns : goal.returns
returns c = first_shown
