-- What holds in the loop of `first_choice`.
use Rattle.std.proofs.Common.{◌≡◌, ◌+◌, drop}
use Rattle.core_tables.specs.SiteTables.{first_choice}
use Rattle.core_tables.proofs.choices.first_choice.Given as goal

abbrev pub invariant-loop-decision : goal.invariant-loop-decision
invariant-loop-decision l = record {
  at : l.number ≡ l.decision-index;
  behind : l.number + first_choice l.site l.phase (drop l.decision-index l.decisions) ≡ first_choice l.site l.phase l.decisions;
}
