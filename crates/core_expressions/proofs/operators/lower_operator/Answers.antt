use Rattle.std.proofs.Common.{refl, ap}
use Rattle.gc0_base.specs.declared.site.Site.{Site}
use Rattle.gc0_tree.specs.Sites.{may_fault}
use Rattle.lowering_laws.specs.Trees.{operator_code}
use Rattle.lowering_laws.specs.Tables.{placed_if}
use Rattle.core_expressions.proofs.Joins.{alike, after_site, on_ok}
use Rattle.core_expressions.proofs.operators.lower_operator.Goals as goal

pub returns : goal.returns
returns c = λ k s.
    let w = c.in_ok-place_operator.ensures k s in
    on_ok c.push_operator.result (λ v. alike (after_site w v)
    (ap (λ (x : Site). operator_code c.args.to c.args.op x c.args.a c.args.b) c.site-site.ensures)
    refl
    (ap (λ (x : Site). placed_if (may_fault c.args.op) x c.args.place) c.site-site.ensures)) (c.push_operator.ensures k w.counts)
