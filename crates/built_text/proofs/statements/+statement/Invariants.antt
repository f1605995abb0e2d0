-- What holds at the loops of the cycle `statement`.
use Rattle.std.proofs.Common.{◌≡◌, ◌≤◌, ◌+◌, ◌*◌, length}
use Rattle.gc0_base.specs.declared.place.Place.{Place}
use Rattle.built_text.specs.Tree.{StmtTrees}
use Rattle.built_text.specs.Views.{stmts_view}
use Rattle.built_text.specs.Plan.{Plan, lines, run}
use Rattle.built_text.proofs.Loops.{behind_stmts}
use Rattle.built_text.proofs.statements.+statement.Given as goal

abbrev pub decreases-statements : goal.decreases-statements
decreases-statements l = 9 * length l.tokens.now + 2

abbrev pub decreases-statement : goal.decreases-statement
decreases-statement l = 9 * length l.tokens.now + 1

abbrev pub decreases-if_behind : goal.decreases-if_behind
decreases-if_behind l = 9 * length l.tokens.now

abbrev pub decreases-while_behind : goal.decreases-while_behind
decreases-while_behind l = 9 * length l.tokens.now

abbrev pub decreases-block_of : goal.decreases-block_of
decreases-block_of l = 9 * length l.tokens.now

abbrev pub decreases-otherwise_of : goal.decreases-otherwise_of
decreases-otherwise_of l = 9 * length l.tokens.now

abbrev pub invariant-statements-loop-token : goal.invariant-statements-loop-token
invariant-statements-loop-token l = record {
  reads : (next : StmtTrees → Place → Plan) → run (lines l.room l.any l.any next) l.tokens ≡ run (lines l.room l.any l.closes (behind_stmts (stmts_view l.found) next)) l.rest;
  shorter : length l.rest ≤ length l.tokens;
}

abbrev pub decreases-statements-loop-token : goal.decreases-statements-loop-token
decreases-statements-loop-token l = length l.rest
