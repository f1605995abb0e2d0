-- What holds in the loop of `invariants`.
use Rattle.std.proofs.Common.{◌≡◌, drop, fold, map}
use Rattle.parsed_tree.specs.Views.{invariants_view}
use Rattle.c0_value_rules.specs.Violations.{earlier}
use Rattle.c0_value_rules.specs.Formulas.{invariants_violations}
use Rattle.c0_value_rules.proofs.formulas.invariants.Given as goal

abbrev pub invariant-loop-part : goal.invariant-loop-part
invariant-loop-part l = fold earlier l.least (invariants_violations l.tables l.scope (map invariants_view (drop l.part-index l.invariants))) ≡ fold earlier l.fn.least (invariants_violations l.tables l.scope (map invariants_view l.invariants))
