-- What holds in the loop of `read_functions`.
use Rattle.std.proofs.Common.{◌≡◌, drop, fold, map}
use Rattle.std.specs.Prelude.{flat_map}
use Rattle.gc0_tree.specs.Views.{function_view}
use Rattle.c0_meaning.specs.Framing.{function_unframed}
use Rattle.self_framing.specs.declared.fault.FrameFault.TheVariants as fault
use Rattle.self_framing.specs.FrameFaults.{earlier}
use Rattle.self_framing.proofs.framing.read_functions.Given as goal

abbrev pub invariant-loop-function : goal.invariant-loop-function
invariant-loop-function l = fold earlier l.least (map fault.NotFramed (flat_map function_unframed (map function_view (drop l.function-index l.functions)))) ≡ fold earlier l.fn.least (map fault.NotFramed (flat_map function_unframed (map function_view l.functions)))
