-- What the loop over arguments keeps.
use Rattle.std.proofs.Common.{drop}
use Rattle.gc0_tree.specs.Views.{exprs_view, function_view, program_view}
use Rattle.lowering_laws.specs.Counts.{args_counted}
use Rattle.lowering_laws.specs.Statements.{room_of}
use Rattle.temp_counts.specs.declared.tally.Tally.{Tally}
use Rattle.temp_counts.specs.Counting.{Counting}
use Rattle.temp_counts.proofs.counting.+count_exprs.Given as goal

-- a count of the arguments that are left, behind the count so far, is one of all
abbrev pub invariant-count_arguments-loop-e : goal.invariant-count_arguments-loop-e
invariant-count_arguments-loop-e l =
    (new : Tally) → Counting l.tally new (λ c. args_counted (program_view l.program) (room_of (function_view l.function)) c (exprs_view (drop l.e-index l.es)))
    → Counting l.initial.tally new (λ c. args_counted (program_view l.program) (room_of (function_view l.function)) c (exprs_view l.es))
