use Rattle.std.proofs.Common.{ℕ, ap, ◌∙◌}
use Rattle.gc0_tree.specs.declared.Shape.TheVariants as shape
use Rattle.core_tree.specs.CoreTree.{Code, do_load}
use Rattle.core_tree.specs.CoreTree.{CoreStmt}
use Rattle.lowering_laws.specs.Counts.{with_temp}
use Rattle.lowering_laws.specs.Trees.{one}
use Rattle.core_lower.proofs.Joining.{joined_counts, recoded}
use Rattle.core_lower.proofs.Views.{load_view}
use Rattle.core_lower.proofs.writes.load.Goals as goal

pub returns-clause-written : goal.returns-clause-written
returns-clause-written c k h =
    let k1 = with_temp shape.Int k in
    let w0 = c.in_ok-to.ensures.written k h in
    let w1 = c.in_ok-place.ensures k1 w0.counts in
    let w2 = c.in_ok-push.ensures k1 w1.counts in
    let one_of : CoreStmt → Code = λ x. one x in
    let loaded : ℕ → Code = λ n. one (do_load n c.args.base c.args.field.of_struct c.args.field.field c.args.site) in
    recoded (ap one_of (load_view c.in_ok-to.to c.args.base c.args.field.of_struct c.args.field.field c.args.site) ∙ ap loaded (c.in_ok-to.ensures.number k h))
    (joined_counts w0 (joined_counts w1 w2))
