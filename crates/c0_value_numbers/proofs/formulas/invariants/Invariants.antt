-- What holds in the loop of `invariants`.
use Rattle.std.proofs.Common.{◌≡◌, ◌++◌, drop, map}
use Rattle.parsed_tree.specs.Views.{formula_view, invariants_view}
use Rattle.c0_value_numbers.specs.Formulas.{invariants}
use Rattle.c0_value_numbers.proofs.formulas.invariants.Given as goal

abbrev pub invariant-loop-annotation : goal.invariant-loop-annotation
invariant-loop-annotation l = map (λ g. formula_view g.now) l.formulas.items ++ invariants (map invariants_view (drop l.annotation-index l.annotations)) ≡ invariants (map invariants_view l.annotations)
