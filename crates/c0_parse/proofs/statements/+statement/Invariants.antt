-- What gets less in the cycle of `statement`, and what holds at each turn of its loops.
use Rattle.std.proofs.Common.{length, ℕ, ◌*◌, ◌+◌, ◌≡◌, ◌≤◌}
use Rattle.gc0_base.specs.declared.place.Place.{Place}
use Rattle.parsed_tree.specs.Tree.{StmtTrees}
use Rattle.parsed_tree.specs.Views.{stmts_view}
use Rattle.c0_grammar.specs.Plan.{Plan, lines}
use Rattle.c0_cursor.specs.Seen.{reading}
use Rattle.c0_parse.proofs.Lines.{onto_lines}
use Rattle.c0_parse.proofs.statements.+statement.Given as goal
use Rattle.gc0_base.specs.declared.limits.TheConstants.Limits as limits

abbrev pub decreases-lines_of : goal.decreases-lines_of
decreases-lines_of l = 9 * length l.tokens.now + 2

abbrev pub decreases-statement : goal.decreases-statement
decreases-statement l = 9 * length l.tokens.now + 1

abbrev pub decreases-body_of : goal.decreases-body_of
decreases-body_of l = 9 * length l.tokens.now + 2

abbrev pub decreases-loop_of : goal.decreases-loop_of
decreases-loop_of l = 9 * length l.tokens.now + 3

abbrev pub decreases-block_behind : goal.decreases-block_behind
decreases-block_behind l = 9 * length l.tokens.now + 3

abbrev pub decreases-if_behind : goal.decreases-if_behind
decreases-if_behind l = 9 * length l.tokens.now + 3

abbrev pub decreases-while_behind : goal.decreases-while_behind
decreases-while_behind l = 9 * length l.tokens.now + 3

abbrev pub decreases-for_behind : goal.decreases-for_behind
decreases-for_behind l = 9 * length l.tokens.now + 3

abbrev pub invariant-lines_of-lines : goal.invariant-lines_of-lines
invariant-lines_of-lines l = record {
  reads : (next : StmtTrees → ℕ → Place → Plan) → reading (lines l.names l.up next) l.tokens ≡ reading (lines l.names l.up (onto_lines (stmts_view l.found) l.deepest next)) l.rest;
  room : l.up + l.deepest ≤ limits.NESTING;
  shorter : length l.rest ≤ length l.tokens;
}

abbrev pub decreases-lines_of-lines : goal.decreases-lines_of-lines
decreases-lines_of-lines l = length l.rest
