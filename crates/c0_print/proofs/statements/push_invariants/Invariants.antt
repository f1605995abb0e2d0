-- What holds at the loop of `push_invariants`.
use Rattle.std.proofs.Common.{◌≡◌, ◌++◌, map, drop}
use Rattle.c0_layout.specs.Lists.{all_text}
use Rattle.parsed_tree.specs.Views.{invariants_view}
use Rattle.c0_layout.specs.Layout.{invariants_text}
use Rattle.c0_print.specs.Printing.{invariants_of}
use Rattle.c0_print.proofs.statements.push_invariants.Given as goal

abbrev pub invariant-loop-annotation : goal.invariant-loop-annotation
invariant-loop-annotation l = l.text.items ++ all_text invariants_text (map invariants_of (map invariants_view (drop l.annotation-index l.annotations))) ≡ l.initial.text.items ++ all_text invariants_text (map invariants_of (map invariants_view l.annotations))
