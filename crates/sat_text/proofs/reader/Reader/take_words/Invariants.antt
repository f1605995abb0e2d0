use Rattle.std.proofs.Common.{◌≡◌, length}
use Rattle.sat_text.specs.Texts.{words_of}
use Rattle.sat_text.specs.Reading.{words_step}
use Rattle.sat_text.proofs.reader.Reader.take_words.Given as goal

abbrev pub invariant-loop-word : goal.invariant-loop-word
invariant-loop-word l = words_step l.header l.self (words_of l.rest) ≡ words_step l.header l.fn.self (words_of l.line)

abbrev pub decreases-loop-word : goal.decreases-loop-word
decreases-loop-word l = length l.rest
