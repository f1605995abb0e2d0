-- What holds at each turn of `in_notes`, and what gets less.
use Rattle.std.proofs.Common.{◌≡◌, drop, fold, map}
use Rattle.parsed_tree.specs.Views.{note_view}
use Rattle.parse_faults.specs.TreeFaults.{all_of, note_faults}
use Rattle.parse_faults.specs.First.{earlier}
use Rattle.parse_faults.proofs.faults.in_notes.Given as goal

abbrev pub invariant-loop-part : goal.invariant-loop-part
invariant-loop-part l = fold earlier l.found (all_of note_faults (map note_view (drop l.part-index l.notes))) ≡ fold earlier l.fn.found (all_of note_faults (map note_view l.notes))
