use Rattle.std.proofs.Common.{◌≡◌, ℕ, [], length}
use Rattle.search_state.specs.Watches.{list_at}
use Rattle.search_state.proofs.watches.no_lists.Given as goal

abbrev pub invariant-loop-made : goal.invariant-loop-made
invariant-loop-made l = record {
  len : length l.lists.items ≡ l._made;
  none : (place : ℕ) → list_at l.lists.items place ≡ [];
}
