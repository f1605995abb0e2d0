use Rattle.std.proofs.Common.{◌≡◌, ◌+◌, List, rules, refl, ap, ◌∙◌, length, append-nil}
use Rattle.gc0_base.specs.declared.place.Place.{Place}
use Rattle.gc0_base.specs.declared.site.Site.{Site}
use Rattle.gc0_base.specs.declared.site.Kind.TheVariants as kind
use Rattle.gc0_tree.specs.Tree.{Formula}
use Rattle.gc0_tree.specs.Views.{formula_view}
use Rattle.core_tree.specs.declared.DecisionAt.{DecisionAt}
use Rattle.core_tree.specs.declared.Phase.TheVariants.{Consume}
use Rattle.core_tree.specs.CoreTree.{CoreStmt, Code, do_loop}
use Rattle.core_tree.specs.CoreViews.{code_view}
use Rattle.core_tables.specs.SiteTables.{choices_at}
use Rattle.lowering_laws.specs.Counts.{decided}
use Rattle.lowering_laws.specs.Trees.{one}
use Rattle.core_expressions.specs.Writing.{places_of}
use Rattle.core_lower.proofs.Joining.{then_so, ended, joined, same, counts_in, stands}
use Rattle.core_lower.proofs.Views.{loop_view}
use Rattle.core_lower.proofs.loops.close_loop.Goals as goal

pub returns : goal.returns
returns c =
    let o = c.args.out.now in
    let w = c.args.within.now in
    let t = c.args.head.test in
    let k = counts_in o in
    let e0 = c.site-entry.result in
    let a0 = c.site-again.result in
    let e1 : Site = places_of w kind.Entry c.args.place in
    let a1 : Site = places_of w kind.Again c.args.place in
    let i0 : Formula = formula_view c.in_ok-invariant.invariant in
    let l0 : List Place = c.as_slice.result.now in
    let el : l0 ≡ c.args.head.places = search rules in
    let w0 = c.in_ok-decide.ensures k (stands o) in
    let loop : Site → Site → Formula → Code = λ x y i. one (do_loop x y i t.truth.decision (code_view t.code) t.truth.value (code_view c.args.body)) in
    let one_of : CoreStmt → Code = λ x. one x in
    let shown : Site → List Place → List DecisionAt = λ x l. choices_at x Consume 0 l in
    then_so c.push.result (c.push.ensures (decided (length l0) k) w0.counts)
    (λ w1. same (ap (λ (l : List Place). length o.decisions + length l) el)
    (ap one_of (loop_view e0 a0 c.in_ok-invariant.invariant t.truth.decision t.code t.truth.value c.args.body) ∙ ap (λ x. loop x a0 i0) c.site-entry.ensures ∙ ap (λ y. loop e1 y i0) c.site-again.ensures ∙ ap (λ i. loop e1 a1 i) c.in_ok-invariant.ensures)
    (append-nil (shown a0 l0) ∙ ap (λ l. shown a0 l) el ∙ ap (λ x. shown x c.args.head.places) c.site-again.ensures)
    refl
    (joined (ended w0) (ended w1)))
