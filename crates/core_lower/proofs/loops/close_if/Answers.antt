use Rattle.std.proofs.Common.{ap}
use Rattle.core_tree.specs.CoreTree.{CoreStmt, Code}
use Rattle.lowering_laws.specs.Trees.{one}
use Rattle.core_lower.proofs.Joining.{then_so, coded, counts_in, stands}
use Rattle.core_lower.proofs.Views.{if_view}
use Rattle.core_lower.proofs.loops.close_if.Goals as goal

pub returns : goal.returns
returns c =
    let o = c.args.out.now in
    let one_of : CoreStmt → Code = λ x. one x in
    then_so c.push.result (c.push.ensures (counts_in o) (stands o))
    (λ w. coded (ap one_of (if_view c.args.test.decision c.args.test.value c.args.yes c.args.no)) w)
