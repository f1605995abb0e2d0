use Rattle.std.proofs.Common.{List, [], ◌∷◌, ◌++◌, None, refl, ap, ◌∙◌, length, append-nil}
use Rattle.gc0_base.specs.declared.site.Site.{Site}
use Rattle.gc0_base.specs.declared.site.Kind.TheVariants as kind
use Rattle.core_tree.specs.declared.DecisionAt.{DecisionAt}
use Rattle.core_tree.specs.declared.Phase.TheVariants.{Produce, Consume}
use Rattle.core_tables.specs.declared.PlacedSite.{PlacedSite}
use Rattle.core_tables.specs.SiteTables.{choices_at}
use Rattle.lowering_laws.specs.Counts.{decided}
use Rattle.core_expressions.specs.Writing.{places_of}
use Rattle.core_lower.proofs.Joining.{then_so, joined_counts, retold}
use Rattle.core_lower.proofs.loops.enter_loop.Goals as goal

pub returns : goal.returns
returns c k h =
    let w = c.args.within.now in
    let l = c.args.places.now in
    let k1 = decided (length l) k in
    let k2 = decided (length l) k1 in
    let e0 = c.site-entry.result in
    let a0 = c.site-again.result in
    let w0 = c.in_ok-decide.ensures k h in
    let w1 = c.in_ok-decide-2.ensures k1 w0.counts in
    let w2 = c.in_ok-place.ensures k2 w1.counts in
    let shown : Site → List DecisionAt = λ x. choices_at x Consume 0 l ++ choices_at x Produce 0 l in
    let sites : Site → Site → List PlacedSite = λ x y. record { site = x; about = None; place = c.args.place } ∷ record { site = y; about = None; place = c.args.place } ∷ [] in
    then_so c.place-2.result (c.place-2.ensures k2 w2.counts)
    (λ w3. retold refl (ap (λ (x : List DecisionAt). choices_at e0 Consume 0 l ++ x) (append-nil (choices_at e0 Produce 0 l)) ∙ ap shown c.site-entry.ensures)
    (ap (λ x. sites x a0) c.site-entry.ensures ∙ ap (λ y. sites (places_of w kind.Entry c.args.place) y) c.site-again.ensures)
    (joined_counts w0 (joined_counts w1 (joined_counts w2 w3))))
