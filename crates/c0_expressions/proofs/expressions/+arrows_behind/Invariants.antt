-- What gets less in the cycle of `arrows_behind`, and what holds at each turn of its loops.
use Rattle.std.proofs.Common.{length}
use Rattle.c0_expressions.proofs.expressions.+arrows_behind.Given as goal

abbrev pub decreases-arrows_behind : goal.decreases-arrows_behind
decreases-arrows_behind l = length l.tokens.now
