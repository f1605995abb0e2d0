-- Where no fault is the first, there is none.
use Rattle.std.proofs.Common.{◌≡◌, Bool, true, false, cond, List, [], ◌∷◌, Option, Some, None, fold, refl, sym, ap, ◌∙◌}
use Rattle.std.specs.Prelude.{is_some}
use Rattle.gc0_tree.specs.Sites.{is_before}
use Rattle.self_framing.specs.declared.fault.FrameFault.{FrameFault}
use Rattle.self_framing.specs.FrameFaults.{fault_place, earlier}

one_of : (b : Bool) (f g : FrameFault) → is_some (cond b (Some g) (Some f)) ≡ true
one_of true f g = refl
one_of false f g = refl

still : (least : Option FrameFault) (fs : List FrameFault) → is_some least ≡ true → is_some (fold earlier least fs) ≡ true
still least [] there = there
still None (g ∷ fs) there = still (Some g) fs refl
still (Some f) (g ∷ fs) there = still (earlier (Some f) g) fs (one_of (is_before (fault_place g) (fault_place f)) f g)

pub none_at_all : (fs : List FrameFault) → fold earlier None fs ≡ None → fs ≡ []
none_at_all [] e = refl
none_at_all (f ∷ fs) e =
    let there : true ≡ false = sym (still (Some f) fs refl) ∙ ap is_some e in
    cc
