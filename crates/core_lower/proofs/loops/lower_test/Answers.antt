use Rattle.std.proofs.Common.{List, ap, ◌∙◌}
use Rattle.gc0_tree.specs.Views.{expr_view}
use Rattle.core_tree.specs.declared.CoreStmt.{CoreStmt as Made}
use Rattle.core_tree.specs.CoreTree.{CoreStmt, Code}
use Rattle.core_tree.specs.CoreViews.{code_view}
use Rattle.lowering_laws.specs.Counts.{counted}
use Rattle.lowering_laws.specs.Trees.{one}
use Rattle.core_expressions.specs.Writing.{program_of, room_in}
use Rattle.core_lower.proofs.Joining.{ended, joined, decided_so, nested, recoded, started, inner}
use Rattle.core_lower.proofs.Views.{step_view}
use Rattle.core_lower.proofs.loops.lower_test.Goals as goal

pub returns-clause-test : goal.returns-clause-test
returns-clause-test c k h =
    let w = c.args.within.now in
    let one_of : CoreStmt → Code = λ x. one x in
    let w0 = started c.args.out.now c.open-outer.new.out c.open-outer.ensures.inner (c.in_ok-push.ensures k (inner c.args.out.now c.open-outer.new.out k c.open-outer.ensures.inner h)) in
    let w1 = c.in_ok-x.ensures.written k w0.counts in
    let w2 = c.in_ok-decision.ensures.written (counted (program_of w) (room_in w) k (expr_view c.args.e.now)) w1.counts in
    let all = decided_so (joined (ended (recoded (ap one_of step_view) w0)) (ended w1)) (ended w2) in
    record {
      code = ap (λ (x : List Made). code_view x) c.close-code.ensures.inner ∙ all.code;
      truth = record { value = c.in_ok-x.ensures.value k w0.counts; decision = c.in_ok-decision.ensures.decision (counted (program_of w) (room_in w) k (expr_view c.args.e.now)) w1.counts };
    }

pub returns-clause-written : goal.returns-clause-written
returns-clause-written c k h =
    let w = c.args.within.now in
    let one_of : CoreStmt → Code = λ x. one x in
    let w0 = started c.args.out.now c.open-outer.new.out c.open-outer.ensures.inner (c.in_ok-push.ensures k (inner c.args.out.now c.open-outer.new.out k c.open-outer.ensures.inner h)) in
    let w1 = c.in_ok-x.ensures.written k w0.counts in
    let w2 = c.in_ok-decision.ensures.written (counted (program_of w) (room_in w) k (expr_view c.args.e.now)) w1.counts in
    nested c.args.out.now c.branch-out.new.self c.close-code.new.out c.open-outer.result _ _ _ _
    (decided_so (joined (ended (recoded (ap one_of step_view) w0)) (ended w1)) (ended w2))
    c.open-outer.ensures.outer c.close-code.ensures.outer
