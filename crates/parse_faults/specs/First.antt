-- Which fault of a tree is the first, and how it is answered.
use Rattle.std.specs.Prelude.{List, [], ◌∷◌, Option, Some, None}
use Rattle.std.specs.Option.{option_or}
use Rattle.parse_faults.specs.declared.fault.ParseFault.{ParseFault}
use Rattle.parse_faults.specs.declared.fault.ParseFault.TheVariants as fault
use Rattle.parse_faults.specs.TreeFaults.{TreeFault, contract_on_prototype, deep_read}

-- a fault of a tree, as the parser answers it
abbrev pub fault_of : TreeFault → ParseFault
fault_of (contract_on_prototype at) = fault.ContractOnPrototype at
fault_of (deep_read at) = fault.DeepRead at

-- the first fault of a tree
abbrev pub first_of : List TreeFault → Option ParseFault
first_of [] = None
first_of (f ∷ fs) = Some (fault_of f)

-- the one that was found, or else this one
abbrev pub earlier : Option ParseFault → TreeFault → Option ParseFault
earlier found f = option_or found (Some (fault_of f))
