-- What is answered by hand of the proof of `run_is_complete`.
use Rattle.c0_grammar.proofs.Enters.{complete}
use Rattle.c0_grammar.proofs.run_is_complete.Goals as goal

pub returns : goal.returns
returns c = complete
