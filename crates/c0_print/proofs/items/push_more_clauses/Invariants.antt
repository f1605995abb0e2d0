-- What holds at the loop of `push_more_clauses`.
use Rattle.std.proofs.Common.{◌≡◌, ◌++◌, map, drop}
use Rattle.c0_layout.specs.Lists.{spaced_text}
use Rattle.parsed_tree.specs.Views.{clause_view}
use Rattle.c0_layout.specs.Layout.{clause_text}
use Rattle.c0_print.specs.Printing.{clause_of}
use Rattle.c0_print.proofs.items.push_more_clauses.Given as goal

abbrev pub invariant-loop-clause : goal.invariant-loop-clause
invariant-loop-clause l = l.text.items ++ spaced_text clause_text (map clause_of (map clause_view (drop l.clause-index l.clauses))) ≡ l.initial.text.items ++ spaced_text clause_text (map clause_of (map clause_view l.clauses))
