use Rattle.std.proofs.Common.{◌≡◌, ◌++◌, drop, map}
use Rattle.gc0_tree.specs.Views.{function_view, program_view}
use Rattle.stack_code.specs.Coding.{bodies_from}
use Rattle.stack_code.specs.Views.{body_view}
use Rattle.stack_code.proofs.emit.function_codes.Given as goal

abbrev pub invariant-loop-function : goal.invariant-loop-function
invariant-loop-function l = map body_view l.codes ++ bodies_from (program_view l.program) l.number (map function_view (drop l.function-index l.function-items)) ≡ bodies_from (program_view l.program) 0 (map function_view l.program.functions)
