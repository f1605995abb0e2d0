use Rattle.std.proofs.Common.{◌≡◌, ℕ, [], Some, None, length, take}
use Rattle.sat_check.specs.Logs.{known_before}
use Rattle.search_base.specs.Trails.{falses_of}
use Rattle.search_base.specs.Propagation.{Extends, IsConflict}
use Rattle.search_state.specs.Watches.{IsTrail, AreWatched, AllGuarded}
use Rattle.search_state.specs.Beginning.{NoneIsAside}
use Rattle.search_state.proofs.watches.Watches.add_all.Given as goal

abbrev pub invariant-loop-index : goal.invariant-loop-index
invariant-loop-index l = record {
  len : length l.placed.trail.slots.items ≡ length l.initial.placed.trail.slots.items;
  trail : IsTrail (known_before l.clauses []) l.placed;
  extends : Extends l.initial.placed.trail.steps.items l.placed.trail.steps.items;
  watched : AreWatched (length l.placed.trail.slots.items) (take l.index l.clauses) l.self;
  none_aside : NoneIsAside l.self.pairs.items;
  found : (index : ℕ) → l.conflict ≡ Some index → IsConflict (known_before l.clauses []) (falses_of l.placed.trail.steps.items) index;
  guarded : l.conflict ≡ None → AllGuarded (take l.index l.clauses) l.self.pairs.items (falses_of l.placed.trail.steps.items) [];
}
