use Rattle.std.proofs.Common.{◌≡◌, take}
use Rattle.std.specs.Int.Bits.{bit_or}
use Rattle.std.specs.List.{Contains}
use Rattle.sat_check.specs.Logs.{known_before}
use Rattle.search_state.specs.declared.shelf.Card.{Card}
use Rattle.search_state.specs.Shelves.{IsAside, HasMarked}
use Rattle.search_state.proofs.shelf.Shelf.marked_under.Given as goal

abbrev pub invariant-loop-card : goal.invariant-loop-card
invariant-loop-card l =
    (card : Card) → Contains (take l.card-index l.card-items) card → bit_or card.signature l.whole ≡ l.whole → IsAside l.pairs card.index
    → ¬ HasMarked l.self.marks.items (known_before l.clauses l.entries) card.index
