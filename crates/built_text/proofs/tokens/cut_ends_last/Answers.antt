-- What is answered by hand of the proof of `cut_ends_last`.
use Rattle.built_text.proofs.Cut.{cut_ends}
use Rattle.built_text.proofs.tokens.cut_ends_last.Goals as goal

pub returns : goal.returns
returns c = cut_ends
