use Rattle.std.proofs.Common.{◌-◌, List, length}
use Rattle.sat_check.specs.declared.clause.Lit.{Lit}
use Rattle.sat_check.specs.Logs.{known_before}
use Rattle.search_base.specs.Trails.{falses_of}
use Rattle.search_state.specs.Watches.{Advances, AllDue, AllGuarded, Within, watchers_of}
use Rattle.search_state.proofs.watches.Watches.pass.Given as goal

abbrev pub invariant-loop-place : goal.invariant-loop-place
invariant-loop-place l = record {
  advances : Advances (known_before l.clauses l.entries) l.initial.placed l.placed l.initial.self l.self;
  due :
      (before : List Lit) → Within before (falses_of l.initial.placed.trail.steps.items) → AllGuarded (known_before l.clauses l.entries) l.initial.self.pairs.items (falses_of l.initial.placed.trail.steps.items) before
      → AllDue (known_before l.clauses l.entries) l.self (falses_of l.placed.trail.steps.items) before l.falsified l.place;
}

abbrev pub decreases-loop-place : goal.decreases-loop-place
decreases-loop-place l = length (watchers_of l.self l.falsified) - l.place
