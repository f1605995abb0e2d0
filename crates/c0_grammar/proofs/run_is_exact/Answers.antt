-- What is answered by hand of the proof of `run_is_exact`.
use Rattle.c0_grammar.proofs.Enters.{complete}
use Rattle.c0_grammar.proofs.Runs.{exact_if}
use Rattle.c0_grammar.proofs.run_is_exact.Goals as goal

pub returns : goal.returns
returns c = exact_if complete
