use Rattle.word_blast.proofs.Bounded.{circuit-below}
use Rattle.word_blast.proofs.laws.circuits_are_below.Goals as goal

pub returns : goal.returns
returns c = circuit-below
