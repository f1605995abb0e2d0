-- What holds at the loop of `more`.
use Rattle.std.proofs.Common.{◌≡◌, ◌≤◌, ◌++◌, List, length}
use Rattle.built_text.specs.Tree.{ExprTree}
use Rattle.built_text.specs.Views.{exprs_view}
use Rattle.built_text.specs.Plan.{Plan, chain, run}
use Rattle.built_text.proofs.expressions.more.Given as goal

abbrev pub invariant-loop-token : goal.invariant-loop-token
invariant-loop-token l = record {
  reads : (next : List ExprTree → Plan) → run (chain l.separator l.outcome l.room (λ es. next (exprs_view l.fn.so_far ++ es))) l.tokens ≡ run (chain l.separator l.outcome l.room (λ es. next (exprs_view l.found ++ es))) l.rest;
  shorter : length l.rest ≤ length l.tokens;
}

abbrev pub decreases-loop-token : goal.decreases-loop-token
decreases-loop-token l = length l.rest
