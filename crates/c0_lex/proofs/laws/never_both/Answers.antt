-- What is answered by hand of the proof of `never_both`.
use Rattle.c0_lex.proofs.Cuts.{never_both}
use Rattle.c0_lex.proofs.laws.never_both.Goals as goal

pub returns : goal.returns
returns c = never_both
