use Rattle.std.proofs.Common.{◌≡◌, length}
use Rattle.sat_search.proofs.solver.Solver.next_variable.Given as goal

abbrev pub invariant-loop-variable : goal.invariant-loop-variable
invariant-loop-variable l = record {
  placed : l.self.placed ≡ l.initial.self.placed;
  levels : l.self.levels ≡ l.initial.self.levels;
  watches : l.self.watches ≡ l.initial.self.watches;
  entries : l.self.entries ≡ l.initial.self.entries;
  shelf : l.self.shelf ≡ l.initial.self.shelf;
  analysis : l.self.analysis ≡ l.initial.self.analysis;
}

abbrev pub decreases-loop-variable : goal.decreases-loop-variable
decreases-loop-variable l = length l.self.order.heap.items
