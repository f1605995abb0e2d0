-- What holds in the loop of `test_all`.
use Rattle.std.proofs.Common.{◌≡◌, ◌||◌, drop}
use Rattle.gc0_base.specs.declared.site.Decision.{Decision}
use Rattle.core_checks.specs.Placements.{known_tests}
use Rattle.check_placement.specs.FoundBy.{has_decision}
use Rattle.check_placement.proofs.placing.test_all.Given as goal

abbrev pub invariant-loop-decision : goal.invariant-loop-decision
invariant-loop-decision l = (d : Decision) → (has_decision d l.tested.keys || known_tests d (drop l.decision-index l.decisions)) ≡ (has_decision d l.initial.tested.keys || known_tests d l.decisions)
