-- The first of the faults of parts, one after the other.
use Rattle.std.proofs.Common.{◌≡◌, List, [], ◌∷◌, ◌++◌, Option, Some, None, fold, refl}
use Rattle.parse_faults.specs.declared.fault.ParseFault.{ParseFault}
use Rattle.parse_faults.specs.TreeFaults.{TreeFault}
use Rattle.parse_faults.specs.First.{first_of, fault_of, earlier}

pub both_parts : (found : Option ParseFault) (a b : List TreeFault) → fold earlier found (a ++ b) ≡ fold earlier (fold earlier found a) b
both_parts found [] b = refl
both_parts found (f ∷ a) b = both_parts (earlier found f) a b

found_stays : (e : ParseFault) (fs : List TreeFault) → fold earlier (Some e) fs ≡ Some e
found_stays e [] = refl
found_stays e (f ∷ fs) = found_stays e fs

pub first_found : (fs : List TreeFault) → fold earlier None fs ≡ first_of fs
first_found [] = refl
first_found (f ∷ fs) = found_stays (fault_of f) fs
