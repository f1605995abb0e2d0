use Rattle.std.proofs.Common.{◌≡◌, ◌+◌, map, drop}
use Rattle.stack_code.specs.Instrs.{size, instrs_in}
use Rattle.stack_code.specs.Views.{code_view, body_view}
use Rattle.stack_runner.proofs.machine.size_of.Given as goal

abbrev pub invariant-loop-function : goal.invariant-loop-function
invariant-loop-function l = l.total + instrs_in (map body_view (drop l.function-index l.function-items)) ≡ size (code_view l.fn.code)
