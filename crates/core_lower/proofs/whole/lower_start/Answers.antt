use Rattle.std.proofs.Common.{◌≡◌, ℕ, ◌+◌, List, [], ◌++◌, length, slice_get, Some, refl, sym, ap, ◌∙◌, arith, if◌then◌else◌}
use Rattle.std.specs.Prelude.{eqb}
use Rattle.std.specs.Option.{option_map, option_copied}
use Rattle.std.proofs.lemmas.Option.{slice_get-map}
use Rattle.gc0_base.specs.declared.place.Place.{Place}
use Rattle.gc0_tree.specs.Tree.{Function}
use Rattle.core_tree.specs.declared.DecisionAt.{DecisionAt}
use Rattle.core_tree.specs.declared.Phase.TheVariants.{Produce, Consume}
use Rattle.core_meaning.specs.Choices.{choices}
use Rattle.core_meaning.specs.CoreRunning.{start_at}
use Rattle.core_tables.specs.SiteTables.{choices_at}
use Rattle.formula_choices.specs.ChoicePlaces.{choice_places}
use Rattle.lowering_laws.specs.Counts.{decided}
use Rattle.core_expressions.specs.Writing.{program_of, function_of}
use Rattle.core_lower.proofs.Choosing.{given, length_map}
use Rattle.core_lower.proofs.Joining.{then_so, ended, joined, same, counts_in, stands}
use Rattle.core_lower.proofs.whole.lower_start.Goals as goal

plus_assoc : (a b d : ℕ) → a + b + d ≡ a + (b + d)
plus_assoc a b d = omega arith

pub returns-in_ok-decide_in_main-in-Some : goal.returns-in_ok-decide_in_main-in-Some
returns-in_ok-decide_in_main-in-Some c =
    let w = c.args.within.now in
    let o = c.args.out.now in
    let f = function_of w in
    let main : ℕ = (program_of w).main in
    let places_in : Function → List Place = λ g. choice_places g.before.parts in
    let all : List Place = choice_places f.before.parts in
    let at : slice_get w.choices.now.before w.number ≡ Some all = ap (λ l. slice_get l w.number) c.requires.within.choices.before ∙ slice_get-map places_in (program_of w).functions w.number ∙ ap (option_map places_in) c.requires.number in
    let are : c.in-Some.places.now ≡ all = given _ _ (sym (sym c.get.ensures.value ∙ ap option_copied c.in-Some.is) ∙ at) in
    let l0 : List Place = c.as_slice.result.now in
    let l1 : List Place = c.as_slice-in-Some.result.now in
    let e0 : l0 ≡ all = c.as_slice.ensures ∙ are in
    let e1 : l1 ≡ all = c.as_slice-in-Some.ensures ∙ are in
    let k = counts_in o in
    let w0 = c.in_ok-decide_in_main-in-Some.ensures k (stands o) in
    let number : List Place → List Place → ℕ = λ x y. (if eqb w.number main then length x else 0) + length y in
    let told : ℕ → ℕ = λ m. (if eqb w.number main then m else 0) + m in
    let shown : List Place → List Place → List DecisionAt = λ x y. (if eqb w.number main then choices_at (start_at w.number) Consume 0 x else []) ++ choices_at (start_at w.number) Produce 0 y in
    then_so c.decide.result (c.decide.ensures (decided (if eqb w.number main then length l0 else 0) k) w0.counts)
    (λ w1. same
    (plus_assoc (length o.decisions) (if eqb w.number main then length l0 else 0) (length l1)
    ∙ ap (λ (m : ℕ). length o.decisions + m) (ap (λ (x : List Place). number x l1) e0 ∙ ap (λ (y : List Place). number all y) e1 ∙ ap told (length_map (λ x. x.place) (choices f.before.parts))))
    refl
    (ap (λ (x : List Place). shown x l1) e0 ∙ ap (λ (y : List Place). shown all y) e1)
    refl
    (joined (ended w0) (ended w1)))
