-- What holds in the loop of `contracts`.
use Rattle.std.proofs.Common.{◌≡◌, ◌&&◌, drop, fold, map, []}
use Rattle.c0_value_rules.specs.Violations.{earlier, least_of}
use Rattle.parsed_tree.specs.Views.{contract_view}
use Rattle.c0_rules.specs.Rules.{contract_violations}
use Rattle.c0_rules.proofs.items.contracts.Given as goal

abbrev pub invariant-loop-contract : goal.invariant-loop-contract
invariant-loop-contract l = fold earlier l.least (contract_violations l.tables l.scope l.gives (map contract_view (drop l.contract-index l.contracts))) ≡ fold earlier l.fn.least (contract_violations l.tables l.scope l.gives (map contract_view l.contracts))
