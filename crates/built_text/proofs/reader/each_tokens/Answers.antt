-- What is answered by hand of the proof of `each_tokens`.
use Rattle.built_text.proofs.Runs.{each}
use Rattle.built_text.proofs.reader.each_tokens.Goals as goal

pub returns : goal.returns
returns c = each
