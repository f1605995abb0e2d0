use Rattle.std.proofs.Common.{◌≡◌, ℕ, false, not, ◌||◌, ◌&&◌, drop, get_or, length}
use Rattle.plain_functions.specs.Callers.{among, weight}
use Rattle.plain_functions.proofs.marks.Marks.mark_all.Given as goal

abbrev pub invariant-loop-function : goal.invariant-loop-function
invariant-loop-function l = record {
  count : length l.self.plain ≡ length l.initial.self.plain;
  same_weight : weight l.self ≡ weight l.initial.self;
  marked : (f : ℕ) → (get_or l.self.plain f false && not (among f (drop l.function-index l.those))) ≡ (get_or l.initial.self.plain f false && not (among f l.those));
  waits : (f : ℕ) → (among f l.self.waiting || (get_or l.self.plain f false && among f (drop l.function-index l.those))) ≡ (among f l.initial.self.waiting || (get_or l.initial.self.plain f false && among f l.those));
}
