-- What holds in the loop of `clauses`.
use Rattle.std.proofs.Common.{◌≡◌, drop, fold, map}
use Rattle.parsed_tree.specs.Views.{invariant_view}
use Rattle.c0_value_rules.specs.Violations.{earlier}
use Rattle.c0_value_rules.specs.Formulas.{clauses_violations}
use Rattle.c0_value_rules.proofs.formulas.clauses.Given as goal

abbrev pub invariant-loop-clause : goal.invariant-loop-clause
invariant-loop-clause l = fold earlier l.least (clauses_violations l.tables l.scope (map invariant_view (drop l.clause-index l.clauses))) ≡ fold earlier l.fn.least (clauses_violations l.tables l.scope (map invariant_view l.clauses))
