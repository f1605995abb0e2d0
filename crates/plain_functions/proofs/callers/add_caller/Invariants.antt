use Rattle.std.proofs.Common.{◌≡◌, ◌<◌, ℕ, ◌||◌, ◌&&◌, eqb, [], drop, get_or, length}
use Rattle.plain_functions.specs.Callers.{among}
use Rattle.plain_functions.proofs.callers.add_caller.Given as goal

abbrev pub invariant-loop-callee : goal.invariant-loop-callee
invariant-loop-callee l = record {
  count : length l.callers.items ≡ length l.initial.callers.items;
  right : (g f : ℕ) → g < length l.initial.callers.items → (among f (get_or l.callers.items g []) || (eqb l.caller f && among g (drop l.callee-index l.callees))) ≡ (among f (get_or l.initial.callers.items g []) || (eqb l.caller f && among g l.callees));
}
