-- A table grows by zeros, one after another.
use Rattle.std.proofs.Common.{◌≡◌, ℕ, length}
use Rattle.std.specs.Prelude.{slice_get}
use Rattle.temp_counts.specs.Used.{or_zero}
use Rattle.temp_counts.proofs.most.grow.Given as goal

abbrev pub invariant-loop-i : goal.invariant-loop-i
invariant-loop-i l = record {
  long : length l.table ≡ l._i;
  same : (k : ℕ) → or_zero (slice_get l.table k) ≡ or_zero (slice_get l.initial.table k);
}
