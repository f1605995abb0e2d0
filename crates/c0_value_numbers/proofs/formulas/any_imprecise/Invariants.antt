-- What holds in the loop of `any_imprecise`.
use Rattle.std.proofs.Common.{◌≡◌, drop, map}
use Rattle.parsed_tree.specs.Views.{formula_view}
use Rattle.c0_value_numbers.specs.Formulas.{any_imprecise}
use Rattle.c0_value_numbers.proofs.formulas.any_imprecise.Given as goal

abbrev pub invariant-loop-formula : goal.invariant-loop-formula
invariant-loop-formula l = any_imprecise (map (λ g. formula_view g.now) (drop l.formula-index l.formulas)) ≡ any_imprecise (map (λ g. formula_view g.now) l.formulas)
