use Rattle.std.proofs.Common.{List, None, Option, ap, ◌∙◌, length}
use Rattle.gc0_base.specs.declared.site.Site.{Site}
use Rattle.gc0_tree.specs.Views.{expr_in}
use Rattle.core_tree.specs.declared.DecisionAt.{DecisionAt}
use Rattle.core_tree.specs.declared.Phase.TheVariants.{Consume}
use Rattle.core_tree.specs.declared.Simple.{Simple}
use Rattle.core_tree.specs.CoreTree.{CoreStmt, do_return}
use Rattle.core_tables.specs.declared.PlacedSite.{PlacedSite}
use Rattle.lowering_laws.specs.Counts.{fresh, first_counted, decided, choices_in}
use Rattle.lowering_laws.specs.Trees.{first_value}
use Rattle.lowering_laws.specs.Tables.{formula_decisions}
use Rattle.core_expressions.specs.Writing.{program_of, function_of, room_in, target_of}
use Rattle.core_lower.proofs.Joining.{then_so, ended, joined, put, noted, chose}
use Rattle.core_lower.proofs.Views.{return_view}
use Rattle.core_lower.proofs.simple.lower_return.Goals as goal

pub returns : goal.returns
returns c =
    let o = c.args.out.now in
    let w = c.args.within.now in
    let es = expr_in c.args.value.now in
    let k = fresh (length o.decisions) in
    let k1 = first_counted (program_of w) (room_in w) k es in
    let k2 = decided (choices_in (function_of w).after) k1 in
    let w0 = c.in_ok-begin.ensures in
    let w1 = c.in_ok-value.ensures.written k w0.counts in
    let w2 = c.in_ok-decide_after.ensures k1 w1.counts in
    let w3 = c.in_ok-place.ensures k2 w2.counts in
    let site_at : Site → PlacedSite = λ x. record { site = x; about = None; place = c.args.place } in
    let said : Option Simple → Site → CoreStmt = λ v x. do_return v x in
    let shown : Site → List DecisionAt = λ x. formula_decisions x Consume (function_of w).after in
    then_so c.push.result (c.push.ensures k2 w3.counts)
    (λ w4. put (noted (chose (joined (ended w0) (ended w1)) (ap shown c.site-site.ensures) w2) (ap site_at c.site-site.ensures) w3)
    (return_view c.in_ok-value.value c.site-site.result ∙ ap (λ v. said v c.site-site.result) (c.in_ok-value.ensures.value k w0.counts) ∙ ap (λ x. said (first_value (program_of w) (room_in w) (target_of w) k es) x) c.site-site.ensures)
    w4)
