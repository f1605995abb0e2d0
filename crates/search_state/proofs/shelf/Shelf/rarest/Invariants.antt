use Rattle.std.proofs.Common.{take}
use Rattle.std.specs.List.{Contains}
use Rattle.search_state.specs.Shelves.{HasFewest}
use Rattle.search_state.proofs.shelf.Shelf.rarest.Given as goal

abbrev pub invariant-loop-lit : goal.invariant-loop-lit
invariant-loop-lit l = record {
  stands : Contains l.lits l.rarest;
  fewest : HasFewest l.self (take l.lit-index l.lits) l.rarest;
}
