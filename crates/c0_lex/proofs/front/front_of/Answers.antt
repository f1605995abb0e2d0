-- What is answered by hand of the proof of `front_of`.
use Rattle.std.proofs.Common.{rules}
use Rattle.c0_lex.proofs.Steps.{within_of}
use Rattle.c0_lex.proofs.front.front_of.Goals as goal

pub returns-then-is_word_byte-clause-within : goal.returns-then-is_word_byte-clause-within
returns-then-is_word_byte-clause-within c = within_of c.args.mode c.args.place c.args.text.now c.word_front.result (search rules)

pub returns-else-is_space-clause-within : goal.returns-else-is_space-clause-within
returns-else-is_space-clause-within c = within_of c.args.mode c.args.place c.args.text.now c.mark_front.result (search rules)
