-- The places of the choices of the formulas of a program, kept by number.
use Rattle.std.specs.Prelude.{◌≡◌, List, map}
use Rattle.gc0_base.specs.declared.place.Place.{Place}
use Rattle.gc0_tree.specs.Tree.{Conjuncts, Program}
use Rattle.core_meaning.specs.Choices.{choices}
use Rattle.formula_choices.specs.declared.ProgramChoices.{ProgramChoices}

-- in reading order
abbrev pub choice_places : Conjuncts → List Place
choice_places parts = map (λ x. x.place) (choices parts)

-- those of each `requires`, each `ensures` and each predicate's body
pub record AreChoices (c : ProgramChoices) (p : Program) : Type 0 where
  pub before : c.before ≡ map (λ f. choice_places f.before.parts) p.functions
  pub after : c.after ≡ map (λ f. choice_places f.after.parts) p.functions
  pub bodies : c.bodies ≡ map (λ q. choice_places q.body) p.predicates
