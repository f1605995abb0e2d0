-- What holds in the loop of the calls around `statement`.
use Rattle.std.proofs.Common.{◌≡◌, drop, fold}
use Rattle.parsed_tree.specs.Views.{stmts_view}
use Rattle.c0_value_rules.specs.Violations.{earlier}
use Rattle.c0_rules.specs.Behind.{stmts_behind}
use Rattle.c0_rules.specs.Statements.{stmts_violations}
use Rattle.c0_rules.proofs.statements.+statement.Given as goal

abbrev pub invariant-statements-loop-part : goal.invariant-statements-loop-part
invariant-statements-loop-part l = record {
  scope : stmts_behind l.tables l.scope (stmts_view (drop l.part-index l.parts)) ≡ stmts_behind l.tables l.fn.scope (stmts_view l.parts);
  least : fold earlier l.least (stmts_violations l.tables l.due l.scope (stmts_view (drop l.part-index l.parts))) ≡ fold earlier l.fn.least (stmts_violations l.tables l.due l.fn.scope (stmts_view l.parts));
}
