use Rattle.frame_laws.proofs.Sizes.{code_size, call_words}
use Rattle.frame_laws.proofs.words_are_kept.Goals as goal

pub returns-clause-code : goal.returns-clause-code
returns-clause-code c = code_size c.footprints_are_owned.ensures

pub returns-clause-call : goal.returns-clause-call
returns-clause-call c = call_words
