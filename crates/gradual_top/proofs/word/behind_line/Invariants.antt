-- What the loop over the bytes of a line keeps.
use Rattle.std.proofs.Common.{◌≡◌, length}
use Rattle.gradual_top.specs.Words.{behind_line}
use Rattle.gradual_top.proofs.word.behind_line.Given as goal

abbrev pub invariant-loop-byte : goal.invariant-loop-byte
invariant-loop-byte l = behind_line l.rest ≡ behind_line l.text

abbrev pub decreases-loop-byte : goal.decreases-loop-byte
decreases-loop-byte l = length l.rest
