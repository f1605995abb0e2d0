use Rattle.std.proofs.Common.{take}
use Rattle.std.specs.Prelude.{All}
use Rattle.gc0_tree.specs.Views.{function_view}
use Rattle.resolved_laws.specs.Numbers.{NumbersFit}
use Rattle.resolved_laws.proofs.numbers.see_functions.Given as goal

abbrev pub invariant-loop-function : goal.invariant-loop-function
invariant-loop-function l = All (λ f. NumbersFit (function_view f)) (take l.function-index l.functions)
