use Rattle.std.proofs.Common.{◌≡◌, ℕ, ◌<◌, ◌≤◌, ◌⊎◌, length, get_or}
use Rattle.owned_heap.proofs.stamps.stamp_words.Given as goal

abbrev pub invariant-loop-at : goal.invariant-loop-at
invariant-loop-at l = record {
  len : length l.stamps.items ≡ length l.initial.stamps.items;
  inside : (k : ℕ) → l.from ≤ k → k < l.at → get_or l.stamps.items k 0 ≡ l.clock;
  outside : (k : ℕ) → (k < l.from) ⊎ (l.at ≤ k) → get_or l.stamps.items k 0 ≡ get_or l.initial.stamps.items k 0;
}
