-- What holds at the loop of `tokens`.
use Rattle.std.proofs.Common.{◌≤◌, ◌+◌, ◌-◌, ◌*◌, length, map}
use Rattle.c0_lex.specs.Texts.{lexeme_of}
use Rattle.c0_lex.proofs.Cuts.{line_weight}
use Rattle.c0_lex.proofs.Steps.{SoFar}
use Rattle.c0_lex.proofs.lexer.tokens.Given as goal

abbrev pub invariant-loop-size : goal.invariant-loop-size
invariant-loop-size l = record {
  within : l.at ≤ length l.source;
  lines : l.place.line ≤ l.at + 1;
  columns : l.place.column ≤ l.at + 1;
  so_far : SoFar l.source l.at l.mode l.place (map lexeme_of l.tokens.items);
}

abbrev pub decreases-loop-size : goal.decreases-loop-size
decreases-loop-size l = 2 * (length l.source - l.at) + line_weight l.mode
