use Rattle.owned_heap.specs.Stands.{stamp_of}
use Rattle.owned_heap.proofs.Opening.{all_stamped}
use Rattle.owned_heap.proofs.levels.Levels.open_all.Goals as goal

pub returns-clause-opened : goal.returns-clause-opened
returns-clause-opened c heap sets h =
    let old = c.args.self.now in
    record { within = h.within; stamped = all_stamped (stamp_of old heap) old.top old.outer.items c.push.new.self.items sets c.in_ok-push.ensures.items h.stamped }
