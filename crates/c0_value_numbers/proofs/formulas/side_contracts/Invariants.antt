-- What holds in the loop of `side_contracts`.
use Rattle.std.proofs.Common.{◌≡◌, ◌++◌, drop, map}
use Rattle.parsed_tree.specs.Views.{formula_view, contract_view}
use Rattle.c0_value_numbers.specs.Formulas.{side_contracts}
use Rattle.c0_value_numbers.proofs.formulas.side_contracts.Given as goal

abbrev pub invariant-loop-contract : goal.invariant-loop-contract
invariant-loop-contract l = map (λ g. formula_view g.now) l.formulas.items ++ side_contracts l.side (map contract_view (drop l.contract-index l.contracts)) ≡ side_contracts l.side (map contract_view l.contracts)
