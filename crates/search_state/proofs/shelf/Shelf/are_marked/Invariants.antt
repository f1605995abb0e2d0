use Rattle.std.proofs.Common.{take}
use Rattle.std.specs.List.{All}
use Rattle.search_state.specs.Shelves.{IsMarked}
use Rattle.search_state.proofs.shelf.Shelf.are_marked.Given as goal

abbrev pub invariant-loop-lit : goal.invariant-loop-lit
invariant-loop-lit l = All (IsMarked l.self.marks.items) (take l.lit-index l.lits)
