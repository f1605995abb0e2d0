-- What holds in the loop of `ensured`.
use Rattle.std.proofs.Common.{◌≡◌, ◌&&◌, drop, fold, map, []}
use Rattle.c0_names.specs.Names.{names_with}
use Rattle.parsed_tree.specs.Views.{contract_view}
use Rattle.c0_rules.specs.Rules.{contract_locals, ensured}
use Rattle.c0_rules.proofs.ensured.ensured.Given as goal

abbrev pub invariant-loop-contract : goal.invariant-loop-contract
invariant-loop-contract l = fold names_with l.names (contract_locals (map contract_view (drop l.contract-index l.contracts))) ≡ ensured (map contract_view l.contracts)
