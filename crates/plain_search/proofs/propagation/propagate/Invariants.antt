use Rattle.std.proofs.Common.{◌≡◌, ◌-◌, ◌≤◌, length}
use Rattle.sat_check.specs.Logs.{known_before}
use Rattle.search_base.specs.Trails.{Keeps}
use Rattle.plain_search.specs.Looks.{AllSettled}
use Rattle.search_base.specs.Propagation.{Extends}
use Rattle.plain_search.proofs.propagation.propagate.Given as goal

abbrev pub invariant-loop-head : goal.invariant-loop-head
invariant-loop-head l = record {
  len : length l.trail.slots.items ≡ length l.initial.trail.slots.items;
  keeps : Keeps (known_before l.clauses l.entries) l.trail.slots.items l.trail.steps.items;
  extends : Extends l.initial.trail.steps.items l.trail.steps.items;
  within : l.head ≤ length l.trail.steps.items;
  settled : AllSettled (known_before l.clauses l.entries) l.trail.steps.items l.head;
}

abbrev pub decreases-loop-head : goal.decreases-loop-head
decreases-loop-head l = length l.initial.trail.slots.items - l.head
