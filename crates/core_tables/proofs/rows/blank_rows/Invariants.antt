-- What holds in the loop of `blank_rows`.
use Rattle.std.proofs.Common.{◌≡◌, replicate, take}
use Rattle.core_tables.specs.RowSteps.{count_of}
use Rattle.core_tables.proofs.rows.blank_rows.Given as goal

abbrev pub invariant-loop-x : goal.invariant-loop-x
invariant-loop-x l = l.rows ≡ replicate (count_of l.kind (take l.x-index l.placed)) l.blank
