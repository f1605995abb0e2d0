use Rattle.std.proofs.Common.{length}
use Rattle.gc0_tree.specs.Views.{expr_view}
use Rattle.lowering_laws.specs.Counts.{fresh, counted}
use Rattle.core_expressions.specs.Writing.{program_of, room_in}
use Rattle.core_lower.proofs.Joining.{ended, joined, decided_so}
use Rattle.core_lower.proofs.loops.lower_condition.Goals as goal

pub returns-clause-test : goal.returns-clause-test
returns-clause-test c =
    let w = c.args.within.now in
    let k = fresh (length c.args.out.now.decisions) in
    let w0 = c.in_ok-begin.ensures in
    let w1 = c.in_ok-x.ensures.written k w0.counts in
    record { value = c.in_ok-x.ensures.value k w0.counts; decision = c.in_ok-decision.ensures.decision (counted (program_of w) (room_in w) k (expr_view c.args.e.now)) w1.counts }

pub returns-clause-written : goal.returns-clause-written
returns-clause-written c =
    let w = c.args.within.now in
    let k = fresh (length c.args.out.now.decisions) in
    let w0 = c.in_ok-begin.ensures in
    let w1 = c.in_ok-x.ensures.written k w0.counts in
    let w2 = c.in_ok-decision.ensures.written (counted (program_of w) (room_in w) k (expr_view c.args.e.now)) w1.counts in
    decided_so (joined (ended w0) (ended w1)) (ended w2)
