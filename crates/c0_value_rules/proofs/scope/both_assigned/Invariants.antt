-- What holds in the loop of `both_assigned`.
use Rattle.std.proofs.Common.{◌≡◌, ◌++◌, drop}
use Rattle.c0_value_rules.specs.Scopes.{both_assigned}
use Rattle.c0_value_rules.proofs.scope.both_assigned.Given as goal

abbrev pub invariant-loop-place : goal.invariant-loop-place
invariant-loop-place l = l.both ++ both_assigned (drop l.place l.f) (drop l.place l.g) ≡ both_assigned l.f l.g
