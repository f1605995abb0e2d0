-- What holds at the loop of `push_more_invariants`.
use Rattle.std.proofs.Common.{◌≡◌, ◌++◌, map, drop}
use Rattle.c0_layout.specs.Lists.{spaced_text}
use Rattle.parsed_tree.specs.Views.{invariant_view}
use Rattle.c0_layout.specs.Layout.{invariant_text}
use Rattle.c0_print.specs.Printing.{invariant_of}
use Rattle.c0_print.proofs.statements.push_more_invariants.Given as goal

abbrev pub invariant-loop-clause : goal.invariant-loop-clause
invariant-loop-clause l = l.text.items ++ spaced_text invariant_text (map invariant_of (map invariant_view (drop l.clause-index l.clauses))) ≡ l.initial.text.items ++ spaced_text invariant_text (map invariant_of (map invariant_view l.clauses))
