use Rattle.std.proofs.Common.{◌≡◌, ℕ, List, [], length, slice_get, Some, None, OnOk, refl, sym, subst, ap, ◌∙◌, append-nil}
use Rattle.std.specs.Option.{option_map, option_copied}
use Rattle.std.proofs.lemmas.Option.{slice_get-map}
use Rattle.gc0_base.specs.declared.place.Place.{Place}
use Rattle.gc0_tree.specs.Tree.{Conjuncts, no_parts, Predicate}
use Rattle.gc0_tree.specs.Views.{formula_view}
use Rattle.core_tree.specs.CoreTree.{no_code}
use Rattle.core_tables.specs.SiteTables.{choices_at}
use Rattle.core_meaning.specs.Choices.{choices, body_of, instance_body}
use Rattle.formula_choices.specs.ChoicePlaces.{choice_places}
use Rattle.lowering_laws.specs.Counts.{decided}
use Rattle.core_expressions.specs.Writing.{IsWritten, program_of}
use Rattle.core_lower.proofs.Choosing.{chosen, length_map}
use Rattle.core_lower.proofs.Bodies.{no_body, body_at, body_none, body_places}
use Rattle.core_lower.proofs.notes.decide_body.Goals as goal

pub returns-in-None : goal.returns-in-None
returns-in-None c k h =
    let o = c.args.out.now in
    let q : Conjuncts = (formula_view c.args.formula.now).parts in
    let ps : List Predicate = (program_of c.args.within.now).predicates in
    let e : instance_body ps q ≡ no_parts = no_body ps q (sym c.in-None.is ∙ c.instance_number.ensures) in
    subst (λ (b : Conjuncts). IsWritten o o (decided (length (choices b)) k) no_code (choices_at c.args.site c.args.phase 0 (choice_places b)) []) (sym e)
    (chosen o o k c.args.site c.args.phase [] h refl refl refl (sym (append-nil o.decisions)))

pub returns-in-None-get : goal.returns-in-None-get
returns-in-None-get c k h =
    let o = c.args.out.now in
    let w = c.args.within.now in
    let n = c.in-Some.number in
    let q : Conjuncts = (formula_view c.args.formula.now).parts in
    let ps : List Predicate = (program_of w).predicates in
    let places_in : Predicate → List Place = λ x. choice_places x.body in
    let at : option_map places_in (slice_get ps n) ≡ None = sym (slice_get-map places_in ps n) ∙ ap (λ l. slice_get l n) (sym c.requires.choices.bodies) ∙ sym c.get.ensures.value ∙ ap option_copied c.in-None-get.is in
    let e : instance_body ps q ≡ no_parts = body_at ps q n (sym c.in-Some.is ∙ c.instance_number.ensures) ∙ body_none (slice_get ps n) at in
    subst (λ (b : Conjuncts). IsWritten o o (decided (length (choices b)) k) no_code (choices_at c.args.site c.args.phase 0 (choice_places b)) []) (sym e)
    (chosen o o k c.args.site c.args.phase [] h refl refl refl (sym (append-nil o.decisions)))

pub returns-in-Some-get : goal.returns-in-Some-get
returns-in-Some-get c k h =
    let o = c.args.out.now in
    let w = c.args.within.now in
    let n = c.in-Some.number in
    let q : Conjuncts = (formula_view c.args.formula.now).parts in
    let ps : List Predicate = (program_of w).predicates in
    let b : Conjuncts = body_of (slice_get ps n) in
    let places_in : Predicate → List Place = λ x. choice_places x.body in
    let at : option_map places_in (slice_get ps n) ≡ Some c.in-Some-get.places.now = sym (slice_get-map places_in ps n) ∙ ap (λ l. slice_get l n) (sym c.requires.choices.bodies) ∙ sym c.get.ensures.value ∙ ap option_copied c.in-Some-get.is in
    let e : instance_body ps q ≡ b = body_at ps q n (sym c.in-Some.is ∙ c.instance_number.ensures) in
    let r = c.decide.result in
    let said : List Place → Type 0 = λ l. OnOk r (IsWritten o c.decide.new.self (decided (length l) k) no_code (choices_at c.args.site c.args.phase 0 l) []) in
    subst (λ (x : Conjuncts). OnOk r (IsWritten o c.decide.new.self (decided (length (choices x)) k) no_code (choices_at c.args.site c.args.phase 0 (choice_places x)) [])) (sym e)
    (subst (λ (m : ℕ). OnOk r (IsWritten o c.decide.new.self (decided m k) no_code (choices_at c.args.site c.args.phase 0 (choice_places b)) [])) (length_map (λ x. x.place) (choices b))
    (subst said (body_places (slice_get ps n) c.in-Some-get.places.now at) (subst said c.as_slice.ensures (c.decide.ensures k h))))
