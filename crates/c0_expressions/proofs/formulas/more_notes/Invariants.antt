-- What holds at each turn of `more_notes`, and what gets less.
use Rattle.std.proofs.Common.{List, length, map, ℕ, ◌+◌, ◌≡◌, ◌≤◌}
use Rattle.parsed_tree.specs.Tree.{NoteTree}
use Rattle.parsed_tree.specs.Views.{note_view}
use Rattle.c0_grammar.specs.Plan.{Plan, many, note_loop}
use Rattle.c0_cursor.specs.Seen.{reading}
use Rattle.c0_expressions.specs.Read.{onto}
use Rattle.c0_expressions.specs.Laws.{closing}
use Rattle.c0_expressions.proofs.formulas.more_notes.Given as goal
use Rattle.gc0_base.specs.declared.limits.TheConstants.Limits as limits

abbrev pub invariant-notes : goal.invariant-notes
invariant-notes l = record {
  reads : (next : List NoteTree → ℕ → Plan) → reading (many (note_loop l.names l.up) (onto (map note_view l.fn.so_far) l.fn.depth (closing next))) l.tokens ≡ reading (many (note_loop l.names l.up) (onto (map note_view l.found) l.deepest (closing next))) l.rest;
  room : l.up + l.deepest ≤ limits.NESTING;
  shorter : length l.rest ≤ length l.tokens;
}

abbrev pub decreases-notes : goal.decreases-notes
decreases-notes l = length l.rest
