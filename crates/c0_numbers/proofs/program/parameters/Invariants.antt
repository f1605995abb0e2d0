-- What holds in the loop of `parameters`.
use Rattle.std.proofs.Common.{◌≡◌, drop}
use Rattle.c0_numbers.specs.Resolved.{params_behind, params_of}
use Rattle.c0_numbers.proofs.program.parameters.Given as goal

abbrev pub invariant-loop-param : goal.invariant-loop-param
invariant-loop-param l = params_behind l.tables l.made (drop l.param-index l.params) ≡ params_of l.tables l.params
