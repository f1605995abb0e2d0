use Rattle.std.proofs.Common.{refl, ap, ◌∙◌}
use Rattle.gc0_base.specs.declared.site.Site.{Site}
use Rattle.core_tree.specs.CoreTree.{do_load}
use Rattle.lowering_laws.specs.Trees.{one}
use Rattle.lowering_laws.specs.Tables.{placed}
use Rattle.core_expressions.proofs.Joins.{alike, after_site, on_ok}
use Rattle.core_expressions.proofs.Views.{load_view}
use Rattle.core_expressions.proofs.parts.push_load.Goals as goal

pub returns : goal.returns
returns c = λ k s.
    let w = c.in_ok-place.ensures k s in
    on_ok c.push.result (λ v. alike (after_site w v)
    (ap one (load_view c.args.to c.args.base c.args.of_struct c.args.field c.site-site.result
    ∙ ap (λ (x : Site). do_load c.args.to c.args.base c.args.of_struct c.args.field x) c.site-site.ensures))
    refl
    (ap (λ (x : Site). placed x c.args.place) c.site-site.ensures)) (c.push.ensures k w.counts)
