use Rattle.std.proofs.Common.{◌≡◌, List, take, length}
use Rattle.sat_check.specs.declared.clause.Clause.{Clause}
use Rattle.search_base.specs.Trails.{Keeps, falses_of}
use Rattle.search_base.proofs.trail.Trail.take_all.Given as goal

abbrev pub invariant-loop-lit : goal.invariant-loop-lit
invariant-loop-lit l = record {
  len : length l.self.slots.items ≡ length l.fn.self.slots.items;
  keeps : (known : List Clause) → Keeps known l.self.slots.items l.self.steps.items;
  falses : falses_of l.self.steps.items ≡ take l.lit-index l.lits;
}
