use Rattle.std.proofs.Common.{◌≡◌, ◌⊎◌, List, take}
use Rattle.std.specs.List.{Contains}
use Rattle.sat_check.specs.declared.clause.Lit.{Lit}
use Rattle.search_base.specs.Trails.{Shows}
use Rattle.search_state.proofs.propagation.replacement.Given as goal

abbrev pub invariant-loop-lit : goal.invariant-loop-lit
invariant-loop-lit l = (falses : List Lit) → Shows l.slots falses → (lit : Lit) → Contains (take l.lit-index l.lits) lit → (lit ≡ l.other) ⊎ Contains falses lit
