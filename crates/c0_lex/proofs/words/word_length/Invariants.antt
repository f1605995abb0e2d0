-- What holds at the loop of `word_length`.
use Rattle.std.proofs.Common.{◌≡◌, ◌+◌, drop}
use Rattle.c0_lex.specs.Scan.{word_length}
use Rattle.c0_lex.proofs.words.word_length.Given as goal

abbrev pub invariant-loop-i : goal.invariant-loop-i
invariant-loop-i l = word_length l.text ≡ l.i + word_length (drop l.i l.text)
