use Rattle.std.proofs.Common.{◌≡◌, ◌≤◌, List, take, length}
use Rattle.sat_check.specs.declared.clause.Clause.{Clause}
use Rattle.search_base.specs.Trails.{Keeps}
use Rattle.search_base.proofs.trail.Trail.cut.Given as goal

abbrev pub invariant-loop-self : goal.invariant-loop-self
invariant-loop-self l = record {
  within : l.count ≤ length l.self.steps.items;
  len : length l.self.slots.items ≡ length l.initial.self.slots.items;
  steps : l.self.steps.items ≡ take (length l.self.steps.items) l.initial.self.steps.items;
  keeps : (known : List Clause) → Keeps known l.initial.self.slots.items l.initial.self.steps.items → Keeps known l.self.slots.items l.self.steps.items;
}

abbrev pub decreases-loop-self : goal.decreases-loop-self
decreases-loop-self l = length l.self.steps.items
