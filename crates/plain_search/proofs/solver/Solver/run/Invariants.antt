use Rattle.std.proofs.Common.{◌≡◌, ◌≤◌, length}
use Rattle.sat_check.specs.Logs.{known_before}
use Rattle.plain_search.specs.States.{Answers}
use Rattle.plain_search.specs.Turns.{Holds, left_of}
use Rattle.plain_search.proofs.solver.Solver.run.Given as goal

abbrev pub invariant-loop-ending : goal.invariant-loop-ending
invariant-loop-ending l = record {
  len : length l.self.trail.slots.items ≡ length l.initial.self.trail.slots.items;
  state : Holds l.clauses l.self;
  answers : Answers (known_before l.clauses l.self.entries) l.self.trail.steps.items l.conflict;
  within : length l.self.entries ≤ l.conflicts;
}

abbrev pub decreases-loop-ending : goal.decreases-loop-ending
decreases-loop-ending l = left_of l.conflicts l.self
