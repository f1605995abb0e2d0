-- What the loop over the bytes of a word keeps.
use Rattle.std.proofs.Common.{◌≡◌, ◌++◌, ◌-◌, ◌≤◌, take, drop, length}
use Rattle.gradual_top.specs.Words.{front_word}
use Rattle.gradual_top.proofs.word.front_word.Given as goal

abbrev pub invariant-loop-at : goal.invariant-loop-at
invariant-loop-at l = record {
  within : l.at ≤ length l.text;
  front : take l.at l.text ++ front_word (drop l.at l.text) ≡ front_word l.text;
}

abbrev pub decreases-loop-at : goal.decreases-loop-at
decreases-loop-at l = length l.text - l.at
