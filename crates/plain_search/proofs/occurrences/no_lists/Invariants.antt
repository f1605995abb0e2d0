use Rattle.std.proofs.Common.{◌≡◌, length}
use Rattle.plain_search.proofs.occurrences.no_lists.Given as goal

abbrev pub invariant-loop-made : goal.invariant-loop-made
invariant-loop-made l = length l.lists.items ≡ l._made
