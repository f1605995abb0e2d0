-- The first fault of two parts is that of the second behind the first of the first.
use Rattle.std.specs.Prelude.{◌≡◌, refl, List, [], ◌∷◌, ◌++◌, map, fold, Option}
use Rattle.gc0_base.specs.declared.place.Place.{Place}
use Rattle.self_framing.specs.declared.fault.FrameFault.{FrameFault}
use Rattle.self_framing.specs.FrameFaults.{earlier}

pub least_both : (least : Option FrameFault) (f : Place → FrameFault) (a b : List Place) → fold earlier least (map f (a ++ b)) ≡ fold earlier (fold earlier least (map f a)) (map f b)
least_both least f [] b = refl
least_both least f (p ∷ a) b = least_both (earlier least (f p)) f a b
