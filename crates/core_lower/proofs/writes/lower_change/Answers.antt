use Rattle.std.proofs.Common.{◌≡◌, ℕ, List, ◌++◌, None, refl, ap, ◌∙◌, length, append-nil}
use Rattle.gc0_base.specs.declared.site.Site.{Site}
use Rattle.gc0_base.specs.declared.site.Kind.TheVariants as kind
use Rattle.gc0_tree.specs.declared.Shape.TheVariants as shape
use Rattle.gc0_tree.specs.Sites.{second}
use Rattle.gc0_tree.specs.Views.{expr_view}
use Rattle.core_tree.specs.declared.Simple.{Simple}
use Rattle.core_tree.specs.declared.Simple.TheVariants as simple
use Rattle.core_tree.specs.declared.DecisionAt.{DecisionAt}
use Rattle.core_tree.specs.CoreTree.{CoreStmt, Code, do_store, do_load}
use Rattle.core_tables.specs.declared.PlacedSite.{PlacedSite}
use Rattle.lowering_laws.specs.Counts.{fresh, counted, with_temp}
use Rattle.lowering_laws.specs.Trees.{value_of, operator_code, temp, one}
use Rattle.lowering_laws.specs.Tables.{tree_decisions, placed}
use Rattle.core_expressions.specs.Writing.{program_of, places_of, room_in, target_of}
use Rattle.core_lower.proofs.Joining.{then_so, ended, joined, put, noted, same, coded}
use Rattle.core_lower.proofs.Views.{store_view}
use Rattle.core_lower.proofs.writes.lower_change.Goals as goal

pub returns : goal.returns
returns c =
    let o = c.args.out.now in
    let w = c.args.within.now in
    let b = expr_view c.args.base.now in
    let e = expr_view c.args.e.now in
    let k = fresh (length o.decisions) in
    let k1 = counted (program_of w) (room_in w) k b in
    let k2 = with_temp shape.Int k1 in
    let k3 = counted (program_of w) (room_in w) k2 e in
    let w0 = c.in_ok-begin.ensures in
    let w1 = c.in_ok-base.ensures.written k w0.counts in
    let w2 = c.in_ok-to.ensures.written k1 w1.counts in
    let w3 = c.in_ok-x.ensures.written k2 w2.counts in
    let w4 = c.in_ok-lower_operator.ensures k3 w3.counts in
    let w5 = c.in_ok-place.ensures k3 w4.counts in
    let to = temp (target_of w) shape.Int k1 in
    let access = places_of w kind.Access c.args.field.arrow in
    let vb = value_of (program_of w) (room_in w) (target_of w) k b in
    let ve = value_of (program_of w) (room_in w) (target_of w) k2 e in
    let eb : c.in_ok-base.base.value ≡ vb = c.in_ok-base.ensures.value k w0.counts in
    let ex : c.in_ok-x.x.value ≡ ve = c.in_ok-x.ensures.value k2 w2.counts in
    let et : c.in_ok-to.to ≡ to = c.in_ok-to.ensures.number k1 w1.counts in
    let es : c.in_ok-written.written ≡ second access = c.in_ok-written.ensures ∙ ap (λ (x : Site). second x) c.site-site.ensures in
    let site_at : Site → PlacedSite = λ x. record { site = x; about = None; place = c.args.field.arrow } in
    let stored : Simple → ℕ → Site → CoreStmt = λ v n x. do_store v c.args.field.of_struct c.args.field.field (simple.Local n) x in
    let loaded : Simple → Site → Code = λ v x. one (do_load to v c.args.field.of_struct c.args.field.field x) in
    let worked : ℕ → Simple → Code = λ n v. operator_code n c.args.op (places_of w kind.Trap c.args.op_place) (simple.Local n) v in
    let db = tree_decisions (program_of w) (places_of w) b in
    let de = tree_decisions (program_of w) (places_of w) e in
    then_so c.push.result (c.push.ensures k3 w5.counts)
    (λ w6. same refl refl (ap (λ (l : List DecisionAt). db ++ l) (append-nil de)) refl
    (joined (ended w0) (joined (ended w1)
    (joined (same refl (ap (λ v. loaded v c.site-site.result) eb ∙ ap (λ x. loaded vb x) c.site-site.ensures) refl (ap (λ (x : Site). placed x c.args.field.arrow) c.site-site.ensures) (ended w2))
    (joined (ended w3)
    (put (noted (coded (ap (λ n. worked n c.in_ok-x.x.value) et ∙ ap (λ v. worked to v) ex) w4) (ap site_at es) w5)
    (store_view c.in_ok-base.base.value c.args.field.of_struct c.args.field.field (simple.Local c.in_ok-to.to) c.in_ok-written.written
    ∙ ap (λ v. stored v c.in_ok-to.to c.in_ok-written.written) eb
    ∙ ap (λ n. stored vb n c.in_ok-written.written) et
    ∙ ap (λ x. stored vb to x) es)
    w6))))))
