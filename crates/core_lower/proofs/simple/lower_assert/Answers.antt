use Rattle.std.proofs.Common.{None, ap, ◌∙◌, length}
use Rattle.gc0_base.specs.declared.site.Site.{Site}
use Rattle.gc0_tree.specs.Views.{expr_view}
use Rattle.core_tree.specs.declared.Simple.{Simple}
use Rattle.core_tree.specs.CoreTree.{CoreStmt, do_assert}
use Rattle.core_tables.specs.declared.PlacedSite.{PlacedSite}
use Rattle.lowering_laws.specs.Counts.{fresh, counted}
use Rattle.lowering_laws.specs.Trees.{value_of}
use Rattle.core_expressions.specs.Writing.{program_of, room_in, target_of}
use Rattle.core_lower.proofs.Joining.{then_so, ended, joined, put, noted}
use Rattle.core_lower.proofs.Views.{assert_view}
use Rattle.core_lower.proofs.simple.lower_assert.Goals as goal

pub returns : goal.returns
returns c =
    let o = c.args.out.now in
    let w = c.args.within.now in
    let e = expr_view c.args.e.now in
    let k = fresh (length o.decisions) in
    let k1 = counted (program_of w) (room_in w) k e in
    let w0 = c.in_ok-begin.ensures in
    let w1 = c.in_ok-x.ensures.written k w0.counts in
    let w2 = c.in_ok-place.ensures k1 w1.counts in
    let site_at : Site → PlacedSite = λ x. record { site = x; about = None; place = c.args.place } in
    let said : Simple → Site → CoreStmt = λ v x. do_assert v x in
    then_so c.push.result (c.push.ensures k1 w2.counts)
    (λ w3. put (noted (joined (ended w0) (ended w1)) (ap site_at c.site-site.ensures) w2)
    (assert_view c.in_ok-x.x.value c.site-site.result ∙ ap (λ v. said v c.site-site.result) (c.in_ok-x.ensures.value k w0.counts) ∙ ap (λ x. said (value_of (program_of w) (room_in w) (target_of w) k e) x) c.site-site.ensures)
    w3)
