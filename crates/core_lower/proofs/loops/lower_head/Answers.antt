use Rattle.std.proofs.Common.{◌≡◌, ℕ, ◌+◌, List, ◌++◌, rules, refl, subst, ap, ◌∙◌, length}
use Rattle.gc0_base.specs.declared.place.Place.{Place}
use Rattle.gc0_base.specs.declared.site.Kind.TheVariants as kind
use Rattle.gc0_tree.specs.Tree.{Formula}
use Rattle.gc0_tree.specs.Views.{formula_view}
use Rattle.core_tree.specs.declared.DecisionAt.{DecisionAt}
use Rattle.core_tree.specs.declared.Phase.TheVariants.{Produce, Consume}
use Rattle.core_tables.specs.SiteTables.{choices_at}
use Rattle.core_meaning.specs.Choices.{choices}
use Rattle.formula_choices.specs.ChoicePlaces.{choice_places}
use Rattle.lowering_laws.specs.Counts.{fresh, choices_in}
use Rattle.lowering_laws.specs.Statements.{headed}
use Rattle.core_expressions.specs.Writing.{places_of, StandsFor}
use Rattle.core_lower.proofs.Choosing.{length_map}
use Rattle.core_lower.proofs.Joining.{ended, joined, same}
use Rattle.core_lower.proofs.loops.lower_head.Goals as goal

pub returns-clause-head : goal.returns-clause-head
returns-clause-head c =
    let o = c.args.out.now in
    let n = length o.decisions in
    let inv : Formula = formula_view c.args.invariant.now in
    let l0 : List Place = c.as_slice-2.result.now in
    let el : l0 ≡ choice_places inv.parts = search rules in
    let en : length l0 ≡ choices_in inv = ap (λ (l : List Place). length l) el ∙ length_map (λ x. x.place) (choices inv.parts) in
    let w0 = c.in_ok-begin.ensures in
    let w1 = c.in_ok-enter_loop.ensures (fresh n) w0.counts in
    let h1 : StandsFor c.enter_loop.new.out (fresh (headed n inv)) = subst (λ (m : ℕ). StandsFor c.enter_loop.new.out (fresh (n + m + m))) en w1.counts in
    record { places = search rules; test = c.in_ok-test.ensures.test (fresh (headed n inv)) h1 }

pub returns-clause-written : goal.returns-clause-written
returns-clause-written c =
    let o = c.args.out.now in
    let w = c.args.within.now in
    let n = length o.decisions in
    let inv : Formula = formula_view c.args.invariant.now in
    let l0 : List Place = c.as_slice-2.result.now in
    let el : l0 ≡ choice_places inv.parts = search rules in
    let en : length l0 ≡ choices_in inv = ap (λ (l : List Place). length l) el ∙ length_map (λ x. x.place) (choices inv.parts) in
    let w0 = c.in_ok-begin.ensures in
    let w1 = c.in_ok-enter_loop.ensures (fresh n) w0.counts in
    let h1 : StandsFor c.enter_loop.new.out (fresh (headed n inv)) = subst (λ (m : ℕ). StandsFor c.enter_loop.new.out (fresh (n + m + m))) en w1.counts in
    let w2 = c.in_ok-test.ensures.written (fresh (headed n inv)) h1 in
    let shown : List Place → List DecisionAt = λ l. choices_at (places_of w kind.Entry c.args.place) Consume 0 l ++ choices_at (places_of w kind.Entry c.args.place) Produce 0 l in
    joined (ended w0) (joined (same refl refl (ap shown el) refl (ended w1)) w2)
