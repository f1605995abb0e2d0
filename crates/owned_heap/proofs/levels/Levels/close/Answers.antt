use Rattle.owned_heap.specs.Stands.{stamp_of}
use Rattle.owned_heap.proofs.Opening.{closed_stamped}
use Rattle.owned_heap.proofs.levels.Levels.close.Goals as goal

pub returns-in-Some : goal.returns-in-Some
returns-in-Some c heap sets h =
    let old = c.args.self.now in
    record { within = h.within; stamped = closed_stamped (stamp_of old heap) old.top c.in-Some.start old.outer.items c.pop.new.self.items sets c.in-Some.ensures.items h.stamped }
