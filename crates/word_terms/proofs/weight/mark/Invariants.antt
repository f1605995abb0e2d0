use Rattle.std.proofs.Common.{◌≡◌, ℕ, ◌<◌, ◌||◌, length, map, take}
use Rattle.word_terms.specs.Weights.{has, mark_at}
use Rattle.word_terms.proofs.weight.mark.Given as goal

abbrev pub invariant-loop-term : goal.invariant-loop-term
invariant-loop-term l = (t : ℕ) → t < length l.initial.marks → mark_at l.marks t ≡ (has (map (λ t. t.0) (take l.term-index l.terms)) t || mark_at l.initial.marks t)
