use Rattle.std.proofs.Common.{◌≡◌, ℕ, ◌+◌, List, [], ◌∷◌, Option, None, OnOk, rules, refl, sym, subst, ap, ◌∙◌, length, append-nil}
use Rattle.gc0_base.specs.declared.place.Place.{Place}
use Rattle.gc0_base.specs.declared.site.Site.{Site}
use Rattle.gc0_base.specs.declared.site.Kind.TheVariants as kind
use Rattle.gc0_tree.specs.declared.Note.{Note}
use Rattle.gc0_tree.specs.declared.Note.TheVariants as note
use Rattle.gc0_tree.specs.Tree.{Formula}
use Rattle.gc0_tree.specs.Views.{formula_view, note_form}
use Rattle.core_tree.specs.declared.DecisionAt.{DecisionAt}
use Rattle.core_tree.specs.declared.Phase.TheVariants.{Consume, Produce}
use Rattle.core_tree.specs.CoreTree.{Code}
use Rattle.core_tree.specs.CoreViews.{note_at}
use Rattle.core_tables.specs.declared.PlacedSite.{PlacedSite}
use Rattle.core_tables.specs.SiteTables.{choices_at}
use Rattle.core_meaning.specs.Choices.{choices, instance_body}
use Rattle.core_meaning.specs.CoreSited.{instance_number}
use Rattle.formula_choices.specs.ChoicePlaces.{choice_places}
use Rattle.lowering_laws.specs.Counts.{decided}
use Rattle.lowering_laws.specs.Trees.{one}
use Rattle.lowering_laws.specs.Tables.{body_decisions}
use Rattle.core_expressions.specs.Writing.{program_of, places_of}
use Rattle.core_lower.specs.Parts.{IsStmt}
use Rattle.core_lower.proofs.Choosing.{length_map}
use Rattle.core_lower.proofs.Joining.{then_so, ended, joined, same, counts_in, stands}
use Rattle.core_lower.proofs.notes.lower_note.Goals as goal

pub returns-in_ok-decide-in-Assert : goal.returns-in_ok-decide-in-Assert
returns-in_ok-decide-in-Assert c =
    let o = c.args.out.now in
    let w = c.args.within.now in
    let n : Note = note.Assert c.in-Assert.formula in
    let f : Formula = formula_view c.in-Assert.formula in
    let r = c.write_note.result in
    let s0 = c.site-site.result in
    let s : Site = places_of w kind.Assert c.args.place in
    let es : s0 ≡ s = c.site-site.ensures in
    let l0 : List Place = c.as_slice-in-Assert.result.now in
    let el : l0 ≡ choice_places f.parts = search rules in
    let k = counts_in o in
    let w0 = c.in_ok-decide-in-Assert.ensures k (stands o) in
    let written : Note → Site → Code = λ m x. one (note_at m x) in
    let site_at : Site → List PlacedSite = λ x. record { site = x; about = None; place = c.args.place } ∷ [] in
    let shown : Site → List Place → List DecisionAt = λ x l. choices_at x Consume 0 l in
    let more : ℕ → ℕ = λ m. length o.decisions + m in
    subst (λ (m : Note). OnOk r (IsStmt w o c.write_note.new.out (note_form m c.args.place))) (sym c.in-Assert.is)
    (then_so r (c.write_note.ensures (decided (length l0) k) w0.counts)
    (λ w1. same (ap more (ap (λ (l : List Place). length l) el ∙ length_map (λ x. x.place) (choices f.parts)))
    (ap (λ m. written m s0) c.in-Assert.is ∙ ap (λ x. written n x) es)
    (append-nil (shown s0 l0) ∙ ap (λ l. shown s0 l) el ∙ ap (λ x. shown x (choice_places f.parts)) es)
    (ap site_at es)
    (joined (ended w0) (ended w1))))

pub returns-in_ok-decide_body-in-Fold : goal.returns-in_ok-decide_body-in-Fold
returns-in_ok-decide_body-in-Fold c =
    let o = c.args.out.now in
    let w = c.args.within.now in
    let n : Note = note.Fold c.in-Fold.formula in
    let f : Formula = formula_view c.in-Fold.formula in
    let r = c.write_note-in-Fold.result in
    let s0 = c.site-site-in-Fold.result in
    let s : Site = places_of w kind.Fold c.args.place in
    let es : s0 ≡ s = c.site-site-in-Fold.ensures in
    let k = counts_in o in
    let w0 = c.in_ok-decide_body-in-Fold.ensures k (stands o) in
    let written : Note → Site → Code = λ m x. one (note_at m x) in
    let site_at : Site → Option ℕ → List PlacedSite = λ x about. record { site = x; about = about; place = c.args.place } ∷ [] in
    let shown : Site → List DecisionAt = λ x. body_decisions (program_of w) x Consume f in
    subst (λ (m : Note). OnOk r (IsStmt w o c.write_note-in-Fold.new.out (note_form m c.args.place))) (sym c.in-Fold.is)
    (then_so r (c.write_note-in-Fold.ensures (decided (length (choices (instance_body (program_of w).predicates f.parts))) k) w0.counts)
    (λ w1. same refl
    (ap (λ m. written m s0) c.in-Fold.is ∙ ap (λ x. written n x) es)
    (append-nil (shown s0) ∙ ap shown es)
    (ap (λ a. site_at s0 a) c.instance_number.ensures ∙ ap (λ x. site_at x (instance_number f.parts)) es)
    (joined (ended w0) (ended w1))))

pub returns-in_ok-decide_body-in-Unfold : goal.returns-in_ok-decide_body-in-Unfold
returns-in_ok-decide_body-in-Unfold c =
    let o = c.args.out.now in
    let w = c.args.within.now in
    let n : Note = note.Unfold c.in-Unfold.formula in
    let f : Formula = formula_view c.in-Unfold.formula in
    let r = c.write_note-in-Unfold.result in
    let s0 = c.site-site-in-Unfold.result in
    let s : Site = places_of w kind.Unfold c.args.place in
    let es : s0 ≡ s = c.site-site-in-Unfold.ensures in
    let k = counts_in o in
    let w0 = c.in_ok-decide_body-in-Unfold.ensures k (stands o) in
    let written : Note → Site → Code = λ m x. one (note_at m x) in
    let site_at : Site → Option ℕ → List PlacedSite = λ x about. record { site = x; about = about; place = c.args.place } ∷ [] in
    let shown : Site → List DecisionAt = λ x. body_decisions (program_of w) x Produce f in
    subst (λ (m : Note). OnOk r (IsStmt w o c.write_note-in-Unfold.new.out (note_form m c.args.place))) (sym c.in-Unfold.is)
    (then_so r (c.write_note-in-Unfold.ensures (decided (length (choices (instance_body (program_of w).predicates f.parts))) k) w0.counts)
    (λ w1. same refl
    (ap (λ m. written m s0) c.in-Unfold.is ∙ ap (λ x. written n x) es)
    (append-nil (shown s0) ∙ ap shown es)
    (ap (λ a. site_at s0 a) c.instance_number-in-Unfold.ensures ∙ ap (λ x. site_at x (instance_number f.parts)) es)
    (joined (ended w0) (ended w1))))
