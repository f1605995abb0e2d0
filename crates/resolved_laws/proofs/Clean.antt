-- Lists of violations that are empty.
use Rattle.std.proofs.Common.{◌≡◌, Bool, true, false, List, [], ◌∷◌, ◌++◌, refl}
use Rattle.gc0_base.specs.declared.place.Place.{Place}
use Rattle.c0_value_rules.specs.declared.violation.Rule.{Rule}
use Rattle.c0_value_rules.specs.declared.violation.Violation.{Violation}
use Rattle.c0_value_rules.specs.Violations.{unless}
use Rattle.c0_rules.specs.Rules.{or_others}

pub left_none : (a b : List Violation) → a ++ b ≡ [] → a ≡ []
left_none [] b e = refl
left_none (v ∷ a) b e = let n : ⊥ = cc in absurd n

pub right_none : (a b : List Violation) → a ++ b ≡ [] → b ≡ []
right_none [] b e = e
right_none (v ∷ a) b e = let n : ⊥ = cc in absurd n

pub kept : (b : Bool) (r : Rule) (p : Place) → unless b r p ≡ [] → b ≡ true
kept true r p e = refl
kept false r p e = let n : ⊥ = cc in absurd n

pub first_none : (a b : List Violation) → or_others a b ≡ [] → a ≡ []
first_none [] b e = refl
first_none (v ∷ a) b e = let n : ⊥ = cc in absurd n
