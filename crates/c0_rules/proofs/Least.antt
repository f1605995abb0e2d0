-- One that was found stays, and where none is found there is none.
use Rattle.std.proofs.Common.{◌≡◌, Bool, true, false, cond, List, [], ◌∷◌, ◌++◌, fold, Option, Some, None, refl}
use Rattle.c0_value_rules.specs.declared.violation.Violation.{Violation}
use Rattle.c0_value_rules.specs.Violations.{comes_before, earlier, least_of}

-- one that was found stays
pub stays : (w : Violation) (vs : List Violation) → None ≡ fold earlier (Some w) vs → ⊥
stays w [] e = cc
stays w (v ∷ vs) e =
    (elim (comes_before v w) as (λ t. None ≡ fold earlier (cond t (Some v) (Some w)) vs → ⊥) [
      | true ↦ stays v vs
      | false ↦ stays w vs
    ]) e

pub none_found : (vs : List Violation) → None ≡ least_of vs → vs ≡ []
none_found [] e = refl
none_found (w ∷ vs) e = absurd (stays w vs e)
