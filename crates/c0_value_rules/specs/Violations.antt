-- Violations of the typing rules, and the one that is reported (this project's own order).
use Rattle.std.specs.Prelude.{◌≡◌, ℕ, Bool, ◌||◌, ◌&&◌, ◌⊎◌, eqb, nat_lt, List, [], ◌∷◌, fold, Option, Some, None, if◌then◌else◌}
use Rattle.std.specs.Option.{option_map}
use Rattle.gc0_base.specs.declared.place.Place.{Place}
use Rattle.c0_value_rules.specs.declared.violation.Rule.{Rule}
use Rattle.c0_value_rules.specs.declared.violation.Rule.TheVariants as rule
use Rattle.c0_value_rules.specs.declared.violation.Violation.{Violation}
use Rattle.c0_value_rules.specs.declared.violation.TypeFault.{TypeFault}
use Rattle.c0_value_rules.specs.declared.violation.TypeFault.TheVariants as fault

abbrev pub violation : Rule → Place → Violation
violation r p = record { rule = r; place = p }

-- the order of the rules where two are violated at one place
abbrev pub rank : Rule → ℕ
rank rule.Unknown = 0
rank rule.Twice = 1
rank rule.WrongType = 2
rank rule.WrongCount = 3
rank rule.Unassigned = 4
rank rule.NoReturn = 5
rank rule.AssignedInEnsures = 6
rank rule.NoMain = 7

-- the lesser line comes first, then the lesser column, then the lesser rank
abbrev pub comes_before : Violation → Violation → Bool
comes_before v w = nat_lt v.place.line w.place.line || (eqb v.place.line w.place.line && (nat_lt v.place.column w.place.column || (eqb v.place.column w.place.column && nat_lt (rank v.rule) (rank w.rule))))

abbrev pub earlier : Option Violation → Violation → Option Violation
earlier None w = Some w
earlier (Some v) w = if comes_before w v then Some w else Some v

-- the violation that comes before the others
abbrev pub least_of : List Violation → Option Violation
least_of vs = fold earlier None vs

-- a violation of a rule at a place, unless the rule is kept there
abbrev pub unless : Bool → Rule → Place → List Violation
unless kept r p = if kept then [] else (violation r p ∷ [])

-- the fault that reports a violation
abbrev pub fault_at : Rule → Place → TypeFault
fault_at rule.Unknown p = fault.Unknown p
fault_at rule.Twice p = fault.Twice p
fault_at rule.WrongType p = fault.WrongType p
fault_at rule.WrongCount p = fault.WrongCount p
fault_at rule.Unassigned p = fault.Unassigned p
fault_at rule.NoReturn p = fault.NoReturn p
fault_at rule.AssignedInEnsures p = fault.AssignedInEnsures p
fault_at rule.NoMain p = fault.NoMain p

abbrev pub fault_of : Violation → TypeFault
fault_of v = fault_at v.rule v.place

-- the least violation, or want of memory
abbrev pub Reports : List Violation → TypeFault → Type 0
Reports vs f = (f ≡ fault.Memory) ⊎ (option_map fault_of (least_of vs) ≡ Some f)
