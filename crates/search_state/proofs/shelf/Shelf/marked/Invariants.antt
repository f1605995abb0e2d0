use Rattle.std.proofs.Common.{◌≡◌, take}
use Rattle.std.specs.Int.Bits.{bit_or}
use Rattle.std.specs.List.{Contains}
use Rattle.sat_check.specs.Logs.{known_before}
use Rattle.sat_check.specs.declared.clause.Lit.{Lit}
use Rattle.search_state.specs.declared.shelf.Card.{Card}
use Rattle.search_state.specs.Shelves.{IsAside, HasMarked, cards_of}
use Rattle.search_state.proofs.shelf.Shelf.marked.Given as goal

abbrev pub invariant-loop-lit : goal.invariant-loop-lit
invariant-loop-lit l =
    (lit : Lit) → Contains (take l.lit-index l.lits) lit → (card : Card) → Contains (cards_of l.self lit) card → bit_or card.signature l.whole ≡ l.whole
    → IsAside l.pairs card.index → ¬ HasMarked l.self.marks.items (known_before l.clauses l.entries) card.index
