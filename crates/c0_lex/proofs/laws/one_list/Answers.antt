-- What is answered by hand of the proof of `one_list`.
use Rattle.c0_lex.proofs.Cuts.{one_list}
use Rattle.c0_lex.proofs.laws.one_list.Goals as goal

pub returns : goal.returns
returns c = one_list
