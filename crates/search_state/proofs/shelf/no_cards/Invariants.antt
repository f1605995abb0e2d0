use Rattle.std.proofs.Common.{◌≡◌, length}
use Rattle.search_state.proofs.shelf.no_cards.Given as goal

abbrev pub invariant-loop-made : goal.invariant-loop-made
invariant-loop-made l = length l.lists.items ≡ l._made
