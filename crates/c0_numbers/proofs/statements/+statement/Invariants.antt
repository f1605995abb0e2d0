-- What holds in the loop of the calls around `statement`.
use Rattle.std.proofs.Common.{◌≡◌, drop}
use Rattle.parsed_tree.specs.Views.{stmts_view}
use Rattle.c0_numbers.specs.StatementTexts.{stmts_texts}
use Rattle.c0_numbers.specs.Statements.{stmts_frame, stmts_tree}
use Rattle.c0_numbers.specs.Rows.{stmts_before}
use Rattle.c0_numbers.proofs.statements.+statement.Given as goal

abbrev pub invariant-statements-loop-s : goal.invariant-statements-loop-s
invariant-statements-loop-s l = record {
  tree : stmts_before l.made (stmts_tree l.tables l.frame l.texts (stmts_view (drop l.s-index l.ss))) ≡ stmts_tree l.tables l.fn.frame l.fn.texts (stmts_view l.ss);
  frame : stmts_frame l.tables l.frame (stmts_view (drop l.s-index l.ss)) ≡ stmts_frame l.tables l.fn.frame (stmts_view l.ss);
  texts : stmts_texts l.texts (stmts_view (drop l.s-index l.ss)) ≡ stmts_texts l.fn.texts (stmts_view l.ss);
}
