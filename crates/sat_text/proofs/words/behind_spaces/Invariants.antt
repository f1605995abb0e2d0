use Rattle.std.proofs.Common.{◌≡◌, ◌≤◌, length}
use Rattle.sat_text.specs.Texts.{words_of}
use Rattle.sat_text.proofs.words.behind_spaces.Given as goal

abbrev pub invariant-loop-byte : goal.invariant-loop-byte
invariant-loop-byte l = record {
  words : words_of l.rest ≡ words_of l.line;
  shorter : length l.rest ≤ length l.line;
}

abbrev pub decreases-loop-byte : goal.decreases-loop-byte
decreases-loop-byte l = length l.rest
