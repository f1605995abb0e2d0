-- What holds in the loop of the calls around `in_expression`.
use Rattle.std.proofs.Common.{◌≡◌, drop, fold}
use Rattle.c0_names.specs.Names.{names_with}
use Rattle.parsed_tree.specs.Views.{exprs_view}
use Rattle.c0_names.specs.Tables.{exprs_structs}
use Rattle.c0_names.proofs.structs.+in_expression.Given as goal

abbrev pub invariant-in_expressions-loop-e : goal.invariant-in_expressions-loop-e
invariant-in_expressions-loop-e l = fold names_with l.names (exprs_structs (exprs_view (drop l.e-index l.parts))) ≡ fold names_with l.fn.names (exprs_structs (exprs_view l.parts))
