use Rattle.std.proofs.Common.{◌≡◌, ◌-◌, ◌≤◌, length, take, drop}
use Rattle.sat_text.specs.Texts.{words_of, words_in}
use Rattle.sat_text.proofs.words.word_len.Given as goal

abbrev pub invariant-loop-at : goal.invariant-loop-at
invariant-loop-at l = record {
  within : l.at ≤ length l.rest;
  word : words_of l.rest ≡ words_in (take l.at l.rest) (drop l.at l.rest);
}

abbrev pub decreases-loop-at : goal.decreases-loop-at
decreases-loop-at l = length l.rest - l.at
