-- What holds in the loop of `notes`.
use Rattle.std.proofs.Common.{◌≡◌, drop, fold, map}
use Rattle.parsed_tree.specs.Views.{note_view}
use Rattle.c0_value_rules.specs.Violations.{earlier}
use Rattle.c0_value_rules.specs.Formulas.{notes_violations}
use Rattle.c0_value_rules.proofs.formulas.notes.Given as goal

abbrev pub invariant-loop-note : goal.invariant-loop-note
invariant-loop-note l = fold earlier l.least (notes_violations l.tables l.scope (map note_view (drop l.note-index l.notes))) ≡ fold earlier l.fn.least (notes_violations l.tables l.scope (map note_view l.notes))
