-- What holds in the loop of `push_notes`.
use Rattle.std.proofs.Common.{◌≡◌, drop, map}
use Rattle.gc0_tree.specs.Tree.{Stmts}
use Rattle.parsed_tree.specs.Views.{note_view}
use Rattle.c0_numbers.specs.Statements.{notes_tree}
use Rattle.c0_numbers.specs.Rows.{stmts_before}
use Rattle.c0_numbers.proofs.statements.push_notes.Given as goal

abbrev pub invariant-loop-part : goal.invariant-loop-part
invariant-loop-part l = (rest : Stmts) → stmts_before l.made (notes_tree l.tables l.frame (map note_view (drop l.part-index l.notes)) rest) ≡ stmts_before l.fn.made (notes_tree l.tables l.frame (map note_view l.notes) rest)
