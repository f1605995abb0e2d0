-- What a walk over calls leaves of the functions that were reached before it.
use Rattle.std.specs.Prelude.{◌≡◌, ◌<◌, ◌≤◌, ℕ, Bool, true, IsTrue, length, get_or, count_by}
use Rattle.c0_meaning.specs.declared.plain.Reached.{Reached}

-- whether a function was reached; one past the last number is passed over, as if it had been
abbrev pub has : Reached → ℕ → Bool
has r g = get_or r.marked g true

-- each function that was reached stands in the queue, once
pub record Queued (r : Reached) : Type 0 where
  pub counted : r.count ≡ count_by (λ b. b) r.marked
  pub places : length r.marked ≡ 512
  pub room : length r.queue ≡ 512
  pub found : (g : ℕ) → g < 512 → IsTrue (has r g) → (k : ℕ) × (k < r.count) × (get_or r.queue k 0 ≡ g)
  pub only : (k : ℕ) → k < r.count → IsTrue (has r (get_or r.queue k 0))

-- more may have been reached, behind what stood in the queue
pub record Follows (old new : Reached) : Type 0 where
  pub queued : Queued old → Queued new
  pub grown : old.count ≤ new.count
  pub kept : (k : ℕ) → k < old.count → get_or new.queue k 0 ≡ get_or old.queue k 0
