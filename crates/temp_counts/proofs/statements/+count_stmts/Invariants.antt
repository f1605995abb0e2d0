-- What the loop over statements keeps.
use Rattle.std.proofs.Common.{drop}
use Rattle.gc0_tree.specs.Views.{stmts_view, function_view, program_view}
use Rattle.lowering_laws.specs.Statements.{room_of, stmts_use}
use Rattle.temp_counts.specs.declared.tally.Tally.{Tally}
use Rattle.temp_counts.specs.Counting.{Using}
use Rattle.temp_counts.proofs.statements.+count_stmts.Given as goal

-- what the statements that are left use, behind those so far, is what all use
abbrev pub invariant-count_stmts-loop-s : goal.invariant-count_stmts-loop-s
invariant-count_stmts-loop-s l =
    (new : Tally) → Using l.tally new (stmts_use (program_view l.program) (room_of (function_view l.function)) (stmts_view (drop l.s-index l.ss)))
    → Using l.initial.tally new (stmts_use (program_view l.program) (room_of (function_view l.function)) (stmts_view l.ss))
