-- What gets less in the cycle of `acc_end`, and what holds at each turn of its loops.
use Rattle.std.proofs.Common.{length}
use Rattle.c0_expressions.proofs.expressions.+acc_end.Given as goal

abbrev pub decreases-acc_end : goal.decreases-acc_end
decreases-acc_end l = length l.tokens.now
