-- What holds in the loop of `sides`.
use Rattle.std.proofs.Common.{◌≡◌, ◌&&◌, drop, fold, map, []}
use Rattle.c0_value_rules.specs.Violations.{earlier, least_of}
use Rattle.parsed_tree.specs.Views.{clause_view}
use Rattle.c0_rules.specs.Rules.{sides_violations}
use Rattle.c0_rules.proofs.items.sides.Given as goal

abbrev pub invariant-loop-clause : goal.invariant-loop-clause
invariant-loop-clause l = fold earlier l.least (sides_violations l.tables l.scope l.gives (map clause_view (drop l.clause-index l.clauses))) ≡ fold earlier l.fn.least (sides_violations l.tables l.scope l.gives (map clause_view l.clauses))
