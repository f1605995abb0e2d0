-- What holds at the loop of `comment_length`.
use Rattle.std.proofs.Common.{◌≡◌, ◌≤◌, ◌-◌, length, drop}
use Rattle.c0_lex.specs.Scan.{comment_length, longer}
use Rattle.c0_lex.proofs.comments.comment_length.Given as goal

abbrev pub invariant-loop-at : goal.invariant-loop-at
invariant-loop-at l = record {
  within : l.at ≤ length l.text;
  depth : l.depth ≤ l.at;
  so_far : comment_length l.text 0 ≡ longer l.at (comment_length (drop l.at l.text) l.depth);
}

abbrev pub decreases-loop-at : goal.decreases-loop-at
decreases-loop-at l = length l.text - l.at
