-- What holds at each turn of `more_invariants`, and what gets less.
use Rattle.std.proofs.Common.{List, length, map, ℕ, ◌+◌, ◌≡◌, ◌≤◌}
use Rattle.parsed_tree.specs.Tree.{InvariantTree}
use Rattle.parsed_tree.specs.Views.{invariant_view}
use Rattle.c0_grammar.specs.Plan.{Plan, invariant_loop, many}
use Rattle.c0_cursor.specs.Seen.{reading}
use Rattle.c0_expressions.specs.Read.{onto}
use Rattle.c0_expressions.specs.Laws.{closing}
use Rattle.c0_parse.proofs.loops.more_invariants.Given as goal
use Rattle.gc0_base.specs.declared.limits.TheConstants.Limits as limits

abbrev pub invariant-clauses : goal.invariant-clauses
invariant-clauses l = record {
  reads : (next : List InvariantTree → ℕ → Plan) → reading (many (invariant_loop l.names l.up) (onto (map invariant_view l.fn.so_far) l.fn.depth (closing next))) l.tokens ≡ reading (many (invariant_loop l.names l.up) (onto (map invariant_view l.found) l.deepest (closing next))) l.rest;
  room : l.up + l.deepest ≤ limits.NESTING;
  shorter : length l.rest ≤ length l.tokens;
}

abbrev pub decreases-clauses : goal.decreases-clauses
decreases-clauses l = length l.rest
