-- What holds in the loop of `push_invariants`.
use Rattle.std.proofs.Common.{◌≡◌, ◌++◌, drop, map}
use Rattle.parsed_tree.specs.Views.{formula_view, invariant_view}
use Rattle.c0_value_numbers.specs.Formulas.{invariant_clauses}
use Rattle.c0_value_numbers.proofs.formulas.push_invariants.Given as goal

abbrev pub invariant-loop-clause : goal.invariant-loop-clause
invariant-loop-clause l = map (λ g. formula_view g.now) l.formulas.items ++ invariant_clauses (map invariant_view (drop l.clause-index l.clauses)) ≡ map (λ g. formula_view g.now) l.fn.formulas.items ++ invariant_clauses (map invariant_view l.clauses)
