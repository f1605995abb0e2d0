use Rattle.std.proofs.Common.{◌<◌, List, take, length}
use Rattle.std.specs.Option.{ForSome}
use Rattle.sat_check.specs.declared.clause.Lit.{Lit}
use Rattle.sat_check.specs.Laws.{SoFar}
use Rattle.search_base.specs.Trails.{Shows}
use Rattle.search_state.proofs.beginning.standing_of.Given as goal

abbrev pub invariant-loop-lit : goal.invariant-loop-lit
invariant-loop-lit l = record {
  so_far : (falses : List Lit) → Shows l.slots falses → SoFar falses (take l.lit-index l.lits) l.single;
  below : ForSome l.single (λ (lit : Lit). lit.variable < length l.slots);
}
