use Rattle.std.proofs.Common.{◌≡◌, ℕ, [], get_or, length, map}
use Rattle.gc0_tree.specs.Views.{function_view}
use Rattle.plain_functions.proofs.Backward.{Written}
use Rattle.plain_functions.proofs.callers.callers_of.Given as goal

abbrev pub invariant-loop-function : goal.invariant-loop-function
invariant-loop-function l = record {
  count : length l.callers.items ≡ l._function-index;
  empty : (g : ℕ) → get_or l.callers.items g [] ≡ [];
}

abbrev pub invariant-loop-number : goal.invariant-loop-number
invariant-loop-number l = Written (map function_view l.functions) l.number l.callers.items
