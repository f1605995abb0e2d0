-- What holds in the loop of `push_clauses`.
use Rattle.std.proofs.Common.{◌≡◌, ◌++◌, drop, map}
use Rattle.parsed_tree.specs.Views.{formula_view, clause_view}
use Rattle.c0_value_numbers.specs.Formulas.{side_clauses}
use Rattle.c0_value_numbers.proofs.formulas.push_clauses.Given as goal

abbrev pub invariant-loop-clause : goal.invariant-loop-clause
invariant-loop-clause l = map (λ g. formula_view g.now) l.formulas.items ++ side_clauses l.side (map clause_view (drop l.clause-index l.clauses)) ≡ map (λ g. formula_view g.now) l.fn.formulas.items ++ side_clauses l.side (map clause_view l.clauses)
