-- What holds at the loop of `program_of`.
use Rattle.std.proofs.Common.{◌≡◌, ◌≤◌, length, map}
use Rattle.built_text.specs.Views.{function_view}
use Rattle.built_text.specs.Plan.{functions, program, start, run}
use Rattle.built_text.proofs.Loops.{onto}
use Rattle.built_text.proofs.functions.program_of.Given as goal

abbrev pub invariant-loop-token : goal.invariant-loop-token
invariant-loop-token l = record {
  reads : run start l.tokens ≡ run (functions (onto (map function_view l.functions) program)) l.rest;
  shorter : length l.rest ≤ length l.tokens;
}

abbrev pub decreases-loop-token : goal.decreases-loop-token
decreases-loop-token l = length l.rest
