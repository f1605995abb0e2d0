-- What holds at the loop of `push_more_predicates`.
use Rattle.std.proofs.Common.{◌≡◌, ◌++◌, map, drop}
use Rattle.c0_layout.specs.Lists.{spaced_text}
use Rattle.parsed_tree.specs.Views.{predicate_view}
use Rattle.c0_layout.specs.Layout.{predicate_text}
use Rattle.c0_print.specs.Printing.{predicate_of}
use Rattle.c0_print.proofs.items.push_more_predicates.Given as goal

abbrev pub invariant-loop-predicate : goal.invariant-loop-predicate
invariant-loop-predicate l = l.text.items ++ spaced_text predicate_text (map predicate_of (map predicate_view (drop l.predicate-index l.predicates))) ≡ l.initial.text.items ++ spaced_text predicate_text (map predicate_of (map predicate_view l.predicates))
