-- What holds in the loop of `param_types`.
use Rattle.std.proofs.Common.{◌≡◌, ◌++◌, drop}
use Rattle.c0_names.specs.Tables.{param_types}
use Rattle.c0_names.proofs.tables.Tables.param_types.Given as goal

abbrev pub invariant-loop-param : goal.invariant-loop-param
invariant-loop-param l = l.types ++ param_types l.self (drop l.param-index l.params) ≡ param_types l.self l.params
