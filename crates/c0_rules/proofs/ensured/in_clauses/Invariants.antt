-- What holds in the loop of `in_clauses`.
use Rattle.std.proofs.Common.{◌≡◌, ◌&&◌, drop, fold, map, []}
use Rattle.c0_names.specs.Names.{names_with}
use Rattle.parsed_tree.specs.Views.{clause_view}
use Rattle.c0_rules.specs.Rules.{clauses_locals}
use Rattle.c0_rules.proofs.ensured.in_clauses.Given as goal

abbrev pub invariant-loop-clause : goal.invariant-loop-clause
invariant-loop-clause l = fold names_with l.names (clauses_locals (map clause_view (drop l.clause-index l.clauses))) ≡ fold names_with l.fn.names (clauses_locals (map clause_view l.clauses))
