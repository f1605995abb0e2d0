-- What is answered by hand of the proof of `reads_back`.
use Rattle.c0_print.proofs.ReadBack.{read_back}
use Rattle.c0_print.proofs.lexing.reads_back.Goals as goal

pub returns : goal.returns
returns c = read_back c.prints_tokens.ensures
