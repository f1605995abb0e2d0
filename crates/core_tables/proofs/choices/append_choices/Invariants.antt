-- What holds in the loop of `append_choices`.
use Rattle.std.proofs.Common.{◌≡◌, ◌++◌, drop}
use Rattle.core_tables.specs.SiteTables.{choices_at}
use Rattle.core_tables.proofs.choices.append_choices.Given as goal

abbrev pub invariant-loop-place : goal.invariant-loop-place
invariant-loop-place l = l.decisions ++ choices_at l.site l.phase l.choice (drop l.place-index l.places) ≡ l.fn.decisions ++ choices_at l.site l.phase 0 l.places
