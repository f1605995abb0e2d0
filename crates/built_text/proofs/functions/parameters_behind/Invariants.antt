-- What holds at the loop of `parameters_behind`.
use Rattle.std.proofs.Common.{◌≡◌, ◌≤◌, List, length}
use Rattle.built_text.specs.declared.tree.Parameter.{Parameter}
use Rattle.built_text.specs.Plan.{Plan, more_parameters, run}
use Rattle.built_text.proofs.Loops.{onto}
use Rattle.built_text.proofs.functions.parameters_behind.Given as goal

abbrev pub invariant-loop-token : goal.invariant-loop-token
invariant-loop-token l = record {
  reads : (next : List Parameter → Plan) → run (more_parameters (onto l.fn.so_far next)) l.tokens ≡ run (more_parameters (onto l.found next)) l.rest;
  shorter : length l.rest ≤ length l.tokens;
}

abbrev pub decreases-loop-token : goal.decreases-loop-token
decreases-loop-token l = length l.rest
