-- What holds at the loop of `contract_of`.
use Rattle.std.proofs.Common.{◌≡◌, ◌≤◌, List, length}
use Rattle.built_text.specs.Tree.{ClauseTree}
use Rattle.built_text.specs.Views.{clauses_view}
use Rattle.built_text.specs.Plan.{Plan, contract, run}
use Rattle.built_text.proofs.Loops.{onto}
use Rattle.built_text.proofs.functions.contract_of.Given as goal

abbrev pub invariant-loop-token : goal.invariant-loop-token
invariant-loop-token l = record {
  reads : (next : List ClauseTree → Plan) → run (contract next) l.tokens ≡ run (contract (onto (clauses_view l.found) next)) l.rest;
  shorter : length l.rest ≤ length l.tokens;
}

abbrev pub decreases-loop-token : goal.decreases-loop-token
decreases-loop-token l = length l.rest
