use Rattle.std.proofs.Common.{◌≡◌, ◌≤◌, length}
use Rattle.sat_check.specs.Logs.{known_before}
use Rattle.search_base.specs.Replacing.{Walked}
use Rattle.search_base.proofs.analysis.analyze.Given as goal

abbrev pub invariant-loop-at : goal.invariant-loop-at
invariant-loop-at l = record {
  within : l.at ≤ length l.trail.steps.items;
  len : length l.analysis.marks.items ≡ length l.trail.slots.items;
  walked : Walked (known_before l.clauses l.entries) l.trail.steps.items l.start l.at l.analysis.marks.items l.analysis.lits l.analysis.hints.items l.analysis.keep;
}

abbrev pub decreases-loop-at : goal.decreases-loop-at
decreases-loop-at l = l.at
