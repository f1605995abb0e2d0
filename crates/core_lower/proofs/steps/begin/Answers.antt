use Rattle.std.proofs.Common.{[], refl, subst, length}
use Rattle.core_tree.specs.CoreTree.{CoreStmt}
use Rattle.core_tree.specs.declared.CoreStmt.TheVariants as stmt
use Rattle.core_tree.specs.CoreViews.{core_stmt_view}
use Rattle.lowering_laws.specs.Counts.{fresh}
use Rattle.lowering_laws.specs.Trees.{one}
use Rattle.core_expressions.specs.Writing.{IsWritten}
use Rattle.core_lower.proofs.Joining.{then_so, begun}
use Rattle.core_lower.proofs.Views.{step_view}
use Rattle.core_lower.proofs.steps.begin.Goals as goal

pub returns : goal.returns
returns c =
    let o = c.args.out.now in
    let n = length o.decisions in
    then_so c.push.result (c.push.ensures (fresh n) (record { used = c.clear.ensures; next = refl }))
    (λ w. subst (λ (x : CoreStmt). IsWritten o c.push.new.self (fresh n) (one x) [] []) step_view
    (begun o (record o { temps = c.clear.new.self }) c.push.new.self (fresh n) (one (core_stmt_view stmt.Step)) [] [] refl refl refl w))
