use Rattle.std.proofs.Common.{◌≡◌, ◌≤◌, length}
use Rattle.sat_check.specs.Logs.{known_before}
use Rattle.search_state.specs.States.{Answers}
use Rattle.sat_search.specs.Turns.{Holds, left_of}
use Rattle.sat_search.proofs.solver.Solver.run.Given as goal

abbrev pub invariant-loop-ending : goal.invariant-loop-ending
invariant-loop-ending l = record {
  len : length l.self.placed.trail.slots.items ≡ length l.initial.self.placed.trail.slots.items;
  state : Holds l.clauses l.self;
  answers : Answers (known_before l.clauses l.self.entries) l.self.placed.trail.steps.items l.self.watches l.conflict;
  within : length l.self.entries ≤ l.conflicts;
}

abbrev pub decreases-loop-ending : goal.decreases-loop-ending
decreases-loop-ending l = left_of l.clauses l.conflicts l.self
