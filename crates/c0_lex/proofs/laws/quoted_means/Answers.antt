-- What is answered by hand of the proof of `quoted_means`.
use Rattle.c0_lex.proofs.Quotes.{quoted_means}
use Rattle.c0_lex.proofs.laws.quoted_means.Goals as goal

pub returns : goal.returns
returns c = quoted_means
