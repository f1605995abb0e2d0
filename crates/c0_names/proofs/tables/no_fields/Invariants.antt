-- What holds in the loop of `no_fields`.
use Rattle.std.proofs.Common.{◌≡◌, None}
use Rattle.std.proofs.Math.ListN.{replicate}
use Rattle.c0_names.proofs.tables.no_fields.Given as goal

abbrev pub invariant-loop : goal.invariant-loop
invariant-loop l = l.fields ≡ replicate l.counter None
