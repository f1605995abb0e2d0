-- What holds at the loops of the cycle `statement`.
use Rattle.std.proofs.Common.{◌≡◌, ◌++◌, drop}
use Rattle.parsed_tree.specs.Views.{stmts_view}
use Rattle.c0_layout.specs.Layout.{lines_text}
use Rattle.c0_print.specs.Printing.{lines_of}
use Rattle.c0_print.proofs.statements.+statement.Given as goal

abbrev pub invariant-push_stmts-loop-statement : goal.invariant-push_stmts-loop-statement
invariant-push_stmts-loop-statement l = l.text.items ++ lines_text (lines_of (stmts_view (drop l.statement-index l.statements))) ≡ l.initial.text.items ++ lines_text (lines_of (stmts_view l.statements))
