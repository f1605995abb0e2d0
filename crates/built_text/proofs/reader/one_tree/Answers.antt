-- What is answered by hand of the proof of `one_tree`.
use Rattle.built_text.proofs.Runs.{one}
use Rattle.built_text.proofs.reader.one_tree.Goals as goal

pub returns : goal.returns
returns c = one
