use Rattle.std.proofs.Common.{◌≡◌, ◌<◌, ℕ, Some, []}
use Rattle.std.specs.Prelude.{slice_get, ◌≢◌}
use Rattle.sat_check.specs.declared.log.Entry.{Entry}
use Rattle.sat_text.proofs.log_text.up_to_empty.Given as goal

abbrev pub invariant-loop-index : goal.invariant-loop-index
invariant-loop-index l = (k : ℕ) (entry : Entry) → k < l.index → slice_get l.entries k ≡ Some entry → entry.clause.lits ≢ []
