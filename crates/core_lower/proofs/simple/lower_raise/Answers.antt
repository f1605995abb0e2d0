use Rattle.std.proofs.Common.{Some, ap, ◌∙◌, length}
use Rattle.gc0_base.specs.declared.site.Site.{Site}
use Rattle.core_tree.specs.CoreTree.{CoreStmt, do_raise}
use Rattle.core_tables.specs.declared.PlacedSite.{PlacedSite}
use Rattle.lowering_laws.specs.Counts.{fresh}
use Rattle.core_lower.proofs.Joining.{then_so, ended, put, noted}
use Rattle.core_lower.proofs.Views.{raise_view}
use Rattle.core_lower.proofs.simple.lower_raise.Goals as goal

pub returns : goal.returns
returns c =
    let o = c.args.out.now in
    let k = fresh (length o.decisions) in
    let w0 = c.in_ok-begin.ensures in
    let w1 = c.in_ok-place.ensures k w0.counts in
    let site_at : Site → PlacedSite = λ x. record { site = x; about = Some c.args.text; place = c.args.place } in
    let done : Site → CoreStmt = λ x. do_raise c.args.text x in
    then_so c.push.result (c.push.ensures k w1.counts)
    (λ w2. put (noted (ended w0) (ap site_at c.site-site.ensures) w1) (raise_view c.args.text c.site-site.result ∙ ap done c.site-site.ensures) w2)
