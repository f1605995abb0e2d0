use Rattle.std.proofs.Common.{take}
use Rattle.search_state.specs.Shelves.{HasBits, IsSignature}
use Rattle.search_state.proofs.shelf.signature_of.Given as goal

abbrev pub invariant-loop-lit : goal.invariant-loop-lit
invariant-loop-lit l = record {
  within : IsSignature l.signature (take l.lit-index l.lits);
  has : HasBits l.signature (take l.lit-index l.lits);
}
