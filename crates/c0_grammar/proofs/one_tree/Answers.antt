-- What is answered by hand of the proof of `one_tree`.
use Rattle.c0_grammar.proofs.Enters.{one}
use Rattle.c0_grammar.proofs.one_tree.Goals as goal

pub returns : goal.returns
returns c = one
