-- What holds in the loop of `same_types`.
use Rattle.std.proofs.Common.{◌≡◌, ◌&&◌, drop, length}
use Rattle.c0_rules.specs.Rules.{same_types}
use Rattle.c0_rules.proofs.items.same_types.Given as goal

abbrev pub invariant-loop-place : goal.invariant-loop-place
invariant-loop-place l = record {
  lengths : length l.a ≡ length l.b;
  rest : same_types (drop l.place l.a) (drop l.place l.b) ≡ same_types l.a l.b;
}
