use Rattle.std.proofs.Common.{None, ap, ◌∙◌, length}
use Rattle.gc0_base.specs.declared.site.Site.{Site}
use Rattle.gc0_tree.specs.Views.{expr_view}
use Rattle.core_tree.specs.declared.Simple.{Simple}
use Rattle.core_tree.specs.CoreTree.{CoreStmt, do_store}
use Rattle.core_tables.specs.declared.PlacedSite.{PlacedSite}
use Rattle.lowering_laws.specs.Counts.{fresh, counted}
use Rattle.lowering_laws.specs.Trees.{value_of}
use Rattle.core_expressions.specs.Writing.{program_of, room_in, target_of}
use Rattle.core_lower.proofs.Joining.{then_so, ended, joined, put, noted}
use Rattle.core_lower.proofs.Views.{store_view}
use Rattle.core_lower.proofs.writes.lower_write.Goals as goal

pub returns : goal.returns
returns c =
    let o = c.args.out.now in
    let w = c.args.within.now in
    let b = expr_view c.args.base.now in
    let e = expr_view c.args.e.now in
    let k = fresh (length o.decisions) in
    let k1 = counted (program_of w) (room_in w) k b in
    let k2 = counted (program_of w) (room_in w) k1 e in
    let w0 = c.in_ok-begin.ensures in
    let w1 = c.in_ok-base.ensures.written k w0.counts in
    let w2 = c.in_ok-x.ensures.written k1 w1.counts in
    let w3 = c.in_ok-place.ensures k2 w2.counts in
    let vb = value_of (program_of w) (room_in w) (target_of w) k b in
    let ve = value_of (program_of w) (room_in w) (target_of w) k1 e in
    let site_at : Site → PlacedSite = λ x. record { site = x; about = None; place = c.args.field.arrow } in
    let said : Simple → Simple → Site → CoreStmt = λ v u x. do_store v c.args.field.of_struct c.args.field.field u x in
    then_so c.push.result (c.push.ensures k2 w3.counts)
    (λ w4. joined (ended w0) (joined (ended w1) (put (noted (ended w2) (ap site_at c.site-site.ensures) w3)
    (store_view c.in_ok-base.base.value c.args.field.of_struct c.args.field.field c.in_ok-x.x.value c.site-site.result
    ∙ ap (λ v. said v c.in_ok-x.x.value c.site-site.result) (c.in_ok-base.ensures.value k w0.counts)
    ∙ ap (λ u. said vb u c.site-site.result) (c.in_ok-x.ensures.value k1 w1.counts)
    ∙ ap (λ x. said vb ve x) c.site-site.ensures)
    w4)))
