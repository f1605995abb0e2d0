-- The least violation of two parts is that of the second behind the least of the first.
use Rattle.std.specs.Prelude.{◌≡◌, refl, List, [], ◌∷◌, ◌++◌, fold, Option}
use Rattle.c0_value_rules.specs.declared.violation.Violation.{Violation}
use Rattle.c0_value_rules.specs.Violations.{earlier}

pub least_both : (least : Option Violation) (a b : List Violation) → fold earlier least (a ++ b) ≡ fold earlier (fold earlier least a) b
least_both least [] b = refl
least_both least (v ∷ a) b = least_both (earlier least v) a b
