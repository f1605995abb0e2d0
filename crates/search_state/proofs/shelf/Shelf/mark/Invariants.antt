use Rattle.std.proofs.Common.{◌≡◌, take}
use Rattle.search_state.specs.Shelves.{AreMarked}
use Rattle.search_state.proofs.shelf.Shelf.mark.Given as goal

abbrev pub invariant-loop-lit : goal.invariant-loop-lit
invariant-loop-lit l = record {
  positive : l.self.positive ≡ l.initial.self.positive;
  negative : l.self.negative ≡ l.initial.self.negative;
  marked : AreMarked l.initial.self.marks.items l.self.marks.items (take l.lit-index l.lits) l.mark;
}
