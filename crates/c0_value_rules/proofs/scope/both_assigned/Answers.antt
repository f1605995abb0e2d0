-- What the search leaves of the proof of `both_assigned`.
use Rattle.std.proofs.lemmas.Option.{slice_get_past}
use Rattle.c0_value_rules.proofs.Counts.{none_left}
use Rattle.c0_value_rules.proofs.scope.both_assigned.Goals as goal

pub returns-in-None : goal.returns-in-None
returns-in-None c = none_left c.loop-place.both _ c.args.f.now c.args.g.now c.loop-place.place (slice_get_past _ _ (c.in-None.ensures.lookup.3)) c.loop-place.invariant
