-- What holds at the loop of `unescape`.
use Rattle.std.proofs.Common.{◌≡◌, ◌++◌, ◌-◌, length, drop}
use Rattle.c0_lex.specs.Words.{contents}
use Rattle.c0_lex.proofs.strings.unescape.Given as goal

abbrev pub invariant-loop-at : goal.invariant-loop-at
invariant-loop-at l = contents (drop 1 l.text) ≡ l.bytes ++ contents (drop l.at l.text)

abbrev pub decreases-loop-at : goal.decreases-loop-at
decreases-loop-at l = length l.text - l.at
