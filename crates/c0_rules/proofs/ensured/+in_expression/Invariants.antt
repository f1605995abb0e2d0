-- What holds in the loop of the calls around `in_expression`.
use Rattle.std.proofs.Common.{◌≡◌, ◌&&◌, drop, fold, map, []}
use Rattle.c0_names.specs.Names.{names_with}
use Rattle.parsed_tree.specs.Views.{exprs_view}
use Rattle.c0_rules.specs.Rules.{exprs_locals}
use Rattle.c0_rules.proofs.ensured.+in_expression.Given as goal

abbrev pub invariant-in_expressions-loop-e : goal.invariant-in_expressions-loop-e
invariant-in_expressions-loop-e l = fold names_with l.names (exprs_locals (exprs_view (drop l.e-index l.parts))) ≡ fold names_with l.fn.names (exprs_locals (exprs_view l.parts))
