use Rattle.std.proofs.Common.{◌-◌, ◌≤◌, length, take}
use Rattle.sat_check.specs.Logs.{known_before}
use Rattle.search_base.specs.Trails.{falses_of}
use Rattle.search_state.specs.Watches.{Advances, AllGuarded}
use Rattle.search_state.proofs.watches.Watches.propagate.Given as goal

abbrev pub invariant-loop-head : goal.invariant-loop-head
invariant-loop-head l = record {
  advances : Advances (known_before l.clauses l.entries) l.initial.placed l.placed l.initial.self l.self;
  within : l.head ≤ length l.placed.trail.steps.items;
  guarded : AllGuarded (known_before l.clauses l.entries) l.self.pairs.items (falses_of l.placed.trail.steps.items) (falses_of (take l.head l.placed.trail.steps.items));
}

abbrev pub decreases-loop-head : goal.decreases-loop-head
decreases-loop-head l = length l.initial.placed.trail.slots.items - l.head
