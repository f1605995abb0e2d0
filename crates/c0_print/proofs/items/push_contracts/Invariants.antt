-- What holds at the loop of `push_contracts`.
use Rattle.std.proofs.Common.{◌≡◌, ◌++◌, map, drop}
use Rattle.c0_layout.specs.Lists.{all_text}
use Rattle.parsed_tree.specs.Views.{contract_view}
use Rattle.c0_layout.specs.Layout.{contract_text}
use Rattle.c0_print.specs.Printing.{contract_of}
use Rattle.c0_print.proofs.items.push_contracts.Given as goal

abbrev pub invariant-loop-contract : goal.invariant-loop-contract
invariant-loop-contract l = l.text.items ++ all_text contract_text (map contract_of (map contract_view (drop l.contract-index l.contracts))) ≡ l.initial.text.items ++ all_text contract_text (map contract_of (map contract_view l.contracts))
