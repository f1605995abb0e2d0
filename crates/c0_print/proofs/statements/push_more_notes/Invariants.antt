-- What holds at the loop of `push_more_notes`.
use Rattle.std.proofs.Common.{◌≡◌, ◌++◌, map, drop}
use Rattle.c0_layout.specs.Lists.{spaced_text}
use Rattle.parsed_tree.specs.Views.{note_view}
use Rattle.c0_layout.specs.Layout.{note_text}
use Rattle.c0_print.specs.Printing.{note_of}
use Rattle.c0_print.proofs.statements.push_more_notes.Given as goal

abbrev pub invariant-loop-note : goal.invariant-loop-note
invariant-loop-note l = l.text.items ++ spaced_text note_text (map note_of (map note_view (drop l.note-index l.notes))) ≡ l.initial.text.items ++ spaced_text note_text (map note_of (map note_view l.notes))
