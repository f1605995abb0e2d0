use Rattle.std.proofs.Common.{◌≡◌, ℕ, ◌<◌, get_or, length}
use Rattle.sat_check.specs.declared.valuation.Mark.{Mark}
use Rattle.sat_check.proofs.valuation.forget.Given as goal

abbrev pub invariant-loop-i : goal.invariant-loop-i
invariant-loop-i l = ((k : ℕ) (d : Mark) → k < l.i → (get_or l.marks.items k d).round ≡ 0) × (length l.marks.items ≡ length l.initial.marks.items)
