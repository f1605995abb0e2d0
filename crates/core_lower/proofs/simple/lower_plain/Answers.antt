use Rattle.std.proofs.Common.{length}
use Rattle.lowering_laws.specs.Counts.{fresh}
use Rattle.core_lower.proofs.Joining.{ended, joined}
use Rattle.core_lower.proofs.simple.lower_plain.Goals as goal

pub returns : goal.returns
returns c =
    let w0 = c.in_ok-begin.ensures in
    let w1 = c.in_ok-lower_expr.ensures.written (fresh (length c.args.out.now.decisions)) w0.counts in
    joined (ended w0) (ended w1)
