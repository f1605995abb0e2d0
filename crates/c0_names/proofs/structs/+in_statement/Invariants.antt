-- What holds in the loop of the calls around `in_statement`.
use Rattle.std.proofs.Common.{◌≡◌, drop, fold}
use Rattle.c0_names.specs.Names.{names_with}
use Rattle.parsed_tree.specs.Views.{stmts_view}
use Rattle.c0_names.specs.Tables.{stmts_structs}
use Rattle.c0_names.proofs.structs.+in_statement.Given as goal

abbrev pub invariant-in_statements-loop-statement : goal.invariant-in_statements-loop-statement
invariant-in_statements-loop-statement l = fold names_with l.names (stmts_structs (stmts_view (drop l.statement-index l.statements))) ≡ fold names_with l.fn.names (stmts_structs (stmts_view l.statements))
