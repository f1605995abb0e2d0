-- Where a program breaks the rules on framing and guards, and the fault that is reported: the one with the least place.
use Rattle.std.specs.Prelude.{Bool, List, [], ◌++◌, map, fold, Option, Some, None, if◌then◌else◌}
use Rattle.gc0_base.specs.declared.place.Place.{Place}
use Rattle.gc0_tree.specs.Sites.{is_before}
use Rattle.gc0_tree.specs.Tree.{Program}
use Rattle.c0_meaning.specs.Framing.{program_unframed, program_unguarded}
use Rattle.self_framing.specs.declared.fault.FrameFault.{FrameFault}
use Rattle.self_framing.specs.declared.fault.FrameFault.TheVariants as fault

-- where a fault stands
abbrev pub fault_place : FrameFault → Place
fault_place (fault.NotFramed at) = at
fault_place (fault.Unguarded at) = at

-- all faults of a program
abbrev pub frame_faults : Program → List FrameFault
frame_faults p = map fault.NotFramed (program_unframed p) ++ map fault.Unguarded (program_unguarded p)

abbrev pub earlier : Option FrameFault → FrameFault → Option FrameFault
earlier None g = Some g
earlier (Some f) g = if is_before (fault_place g) (fault_place f) then Some g else Some f

-- the fault that stands before the others in the text
abbrev pub first_fault : List FrameFault → Option FrameFault
first_fault fs = fold earlier None fs
