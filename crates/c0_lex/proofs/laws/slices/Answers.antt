-- What is answered by hand of the proof of `slices`.
use Rattle.c0_lex.proofs.Slicing.{all_slices}
use Rattle.c0_lex.proofs.laws.slices.Goals as goal

pub returns : goal.returns
returns c = all_slices
