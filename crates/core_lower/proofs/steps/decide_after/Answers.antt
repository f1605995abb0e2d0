use Rattle.std.proofs.Common.{◌≡◌, ℕ, List, [], length, slice_get, Some, OnOk, ap, sym, ◌∙◌, subst}
use Rattle.std.specs.Option.{option_map, option_copied}
use Rattle.std.proofs.lemmas.Option.{slice_get-map}
use Rattle.gc0_base.specs.declared.place.Place.{Place}
use Rattle.gc0_tree.specs.Tree.{Function}
use Rattle.core_tree.specs.declared.Phase.TheVariants.{Consume}
use Rattle.core_tree.specs.CoreTree.{no_code}
use Rattle.formula_choices.specs.ChoicePlaces.{choice_places}
use Rattle.core_tables.specs.SiteTables.{choices_at}
use Rattle.core_meaning.specs.Choices.{choices}
use Rattle.lowering_laws.specs.Counts.{decided}
use Rattle.core_expressions.specs.Writing.{IsWritten, program_of, function_of}
use Rattle.core_lower.proofs.Choosing.{length_map, given}
use Rattle.core_lower.proofs.steps.decide_after.Goals as goal

pub returns-in-Some : goal.returns-in-Some
returns-in-Some c k h =
    let w = c.args.within.now in
    let o = c.args.out.now in
    let f = function_of w in
    let places_in : Function → List Place = λ g. choice_places g.after.parts in
    let at : slice_get w.choices.now.after w.number ≡ Some (choice_places f.after.parts) = ap (λ l. slice_get l w.number) c.requires.within.choices.after ∙ slice_get-map places_in (program_of w).functions w.number ∙ ap (option_map places_in) c.requires.number in
    let are : c.in-Some.places.now ≡ choice_places f.after.parts = given _ _ (sym (sym c.get.ensures.value ∙ ap option_copied c.in-Some.is) ∙ at) in
    let said : List Place → Type 0 = λ l. OnOk c.decide.result (IsWritten o c.decide.new.self (decided (length l) k) no_code (choices_at c.args.site Consume 0 l) []) in
    subst (λ (n : ℕ). OnOk c.decide.result (IsWritten o c.decide.new.self (decided n k) no_code (choices_at c.args.site Consume 0 (choice_places f.after.parts)) [])) (length_map (λ x. x.place) (choices f.after.parts))
    (subst said are (subst said c.as_slice.ensures (c.decide.ensures k h)))
