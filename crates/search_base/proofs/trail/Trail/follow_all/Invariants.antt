use Rattle.std.proofs.Common.{◌≡◌, length}
use Rattle.sat_check.specs.Logs.{known_before}
use Rattle.search_base.specs.Trails.{Keeps, falses_of}
use Rattle.search_base.specs.Walks.{LeadsFrom}
use Rattle.search_base.proofs.trail.Trail.follow_all.Given as goal

abbrev pub invariant-loop-hint : goal.invariant-loop-hint
invariant-loop-hint l = record {
  len : length l.self.slots.items ≡ length l.fn.self.slots.items;
  keeps : Keeps (known_before l.clauses l.entries) l.self.slots.items l.self.steps.items;
  leads : LeadsFrom (known_before l.clauses l.entries) (falses_of l.fn.self.steps.items) (falses_of l.self.steps.items) l.taken.items;
}
