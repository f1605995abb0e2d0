-- What holds in the loop of `in_params`.
use Rattle.std.proofs.Common.{◌≡◌, drop, fold}
use Rattle.c0_names.specs.Names.{names_with}
use Rattle.c0_names.specs.Tables.{params_structs}
use Rattle.c0_names.proofs.structs.in_params.Given as goal

abbrev pub invariant-loop-param : goal.invariant-loop-param
invariant-loop-param l = fold names_with l.names (params_structs (drop l.param-index l.params)) ≡ fold names_with l.fn.names (params_structs l.params)
