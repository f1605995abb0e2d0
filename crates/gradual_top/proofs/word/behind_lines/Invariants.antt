-- What the loop over the lines keeps.
use Rattle.std.proofs.Common.{◌≡◌, ◌-◌}
use Rattle.gradual_top.specs.Words.{behind_ends}
use Rattle.gradual_top.proofs.word.behind_lines.Given as goal

abbrev pub invariant-loop-ended : goal.invariant-loop-ended
invariant-loop-ended l = behind_ends (l.line - l.ended) l.rest ≡ behind_ends (l.line - 1) l.text
