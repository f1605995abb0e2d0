-- What is answered by hand of the proof of `prints_tokens`.
use Rattle.c0_print.proofs.Printed.{prints_tokens}
use Rattle.c0_print.proofs.lexing.prints_tokens.Goals as goal

pub returns : goal.returns
returns c = prints_tokens c.quoted_means.ensures
