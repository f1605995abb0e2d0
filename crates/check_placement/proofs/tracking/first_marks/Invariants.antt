-- What holds in the loops of `first_marks`.
use Rattle.std.proofs.Common.{◌≡◌, ℕ, not, ◌||◌, ◌&&◌, ◌++◌, drop, map, length}
use Rattle.std.specs.Prelude.{is_some, slice_get}
use Rattle.core_tree.specs.CoreViews.{core_view}
use Rattle.assumption_log.specs.Records.{kept_view}
use Rattle.check_placement.specs.Tracked.{marked, has_entry, starts}
use Rattle.check_placement.proofs.tracking.first_marks.Given as goal

abbrev pub invariant-loop-function : goal.invariant-loop-function
invariant-loop-function l = l.marks ++ map (λ f. not f.plain) (drop l.function-index l.function-items) ≡ map (λ f. not f.plain) l.function-items

abbrev pub invariant-loop-entry : goal.invariant-loop-entry
invariant-loop-entry l = record {
  count : length l.marks ≡ length l.core.functions;
  right : (g : ℕ) → (marked l.marks g || (is_some (slice_get l.core.functions g) && has_entry g (map kept_view (drop l.entry-index l.entries))))
      ≡ starts (core_view l.core) (map kept_view l.entries) g;
}
