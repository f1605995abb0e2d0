use Rattle.std.proofs.Common.{◌≡◌, ◌++◌, drop, length}
use Rattle.gc0_tree.specs.Views.{stmts_view}
use Rattle.stack_code.specs.Coding.{stmts_code}
use Rattle.stack_code.specs.Within.{program_of, function_of, places_of, shown}
use Rattle.stack_code.proofs.emit.+emit_stmt.Given as goal

abbrev pub invariant-emit_stmts-loop-s : goal.invariant-emit_stmts-loop-s
invariant-emit_stmts-loop-s l = shown l.code ++ stmts_code (program_of l.within) (function_of l.within) (places_of l.within) (length (shown l.code)) (stmts_view (drop l.s-index l.ss)) ≡ shown l.initial.code ++ stmts_code (program_of l.within) (function_of l.within) (places_of l.within) (length (shown l.initial.code)) (stmts_view l.ss)
