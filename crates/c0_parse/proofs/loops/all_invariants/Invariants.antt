-- What holds at each turn of `all_invariants`, and what gets less.
use Rattle.std.proofs.Common.{List, length, map, ℕ, ◌+◌, ◌≡◌, ◌≤◌}
use Rattle.parsed_tree.specs.Tree.{InvariantsTree, StmtTree}
use Rattle.parsed_tree.specs.Views.{invariants_view}
use Rattle.c0_grammar.specs.Plan.{Plan, loop_body}
use Rattle.c0_cursor.specs.Seen.{reading}
use Rattle.c0_parse.specs.Read.{onto_loop}
use Rattle.c0_parse.proofs.loops.all_invariants.Given as goal
use Rattle.gc0_base.specs.declared.limits.TheConstants.Limits as limits

abbrev pub invariant-annotations : goal.invariant-annotations
invariant-annotations l = record {
  reads : (next : List InvariantsTree → ℕ → StmtTree → ℕ → Plan) → reading (loop_body l.names l.up next) l.tokens ≡ reading (loop_body l.names l.up (onto_loop (map invariants_view l.found) l.deepest next)) l.rest;
  room : l.up + l.deepest ≤ limits.NESTING;
  shorter : length l.rest ≤ length l.tokens;
}

abbrev pub decreases-annotations : goal.decreases-annotations
decreases-annotations l = length l.rest
