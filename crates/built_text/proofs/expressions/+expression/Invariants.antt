-- What holds at the loops of the cycle `expression`.
use Rattle.std.proofs.Common.{◌≡◌, ◌<◌, ◌+◌, ◌-◌, ◌*◌, ℕ, length}
use Rattle.built_text.specs.Tree.{ExprTree}
use Rattle.built_text.specs.Views.{expr_view}
use Rattle.built_text.specs.Plan.{Plan, ops, climb, run}
use Rattle.built_text.proofs.expressions.+expression.Given as goal

abbrev pub decreases-level : goal.decreases-level
decreases-level l = 9 * length l.tokens.now + 2 + l.rank

abbrev pub decreases-primary : goal.decreases-primary
decreases-primary l = 9 * length l.tokens.now + 1

abbrev pub invariant-level-loop-token : goal.invariant-level-loop-token
invariant-level-loop-token l = record {
  reads : (next : ExprTree → ℕ → Plan) → run (climb l.rank l.outcome l.room l.fn.left next) l.tokens ≡ run (ops (l.rank - 1) l.outcome l.room l.left (expr_view l.e) next) l.rest;
  shorter : length l.rest < length l.tokens;
}

abbrev pub decreases-level-loop-token : goal.decreases-level-loop-token
decreases-level-loop-token l = length l.rest
