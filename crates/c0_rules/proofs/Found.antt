-- The least violation of some, or of others where there is none.
use Rattle.std.proofs.Common.{◌≡◌, List, [], ◌∷◌, Option, Some, None, refl}
use Rattle.c0_value_rules.specs.declared.violation.Violation.{Violation}
use Rattle.c0_value_rules.specs.Violations.{least_of}
use Rattle.c0_rules.specs.Rules.{or_others}
use Rattle.c0_rules.proofs.Least.{stays}

pub found_among : (vs ws : List Violation) (v : Violation) → Some v ≡ least_of vs → Some v ≡ least_of (or_others vs ws)
found_among [] ws v e = let n : ⊥ = cc in absurd n
found_among (w ∷ vs) ws v e = e

pub found_others : (vs ws : List Violation) → None ≡ least_of vs → least_of ws ≡ least_of (or_others vs ws)
found_others [] ws e = refl
found_others (w ∷ vs) ws e = absurd (stays w vs e)
