-- What is answered by hand of the proof of `each_text`.
use Rattle.c0_lex.proofs.Cuts.{each_text}
use Rattle.c0_lex.proofs.laws.each_text.Goals as goal

pub returns : goal.returns
returns c = each_text
