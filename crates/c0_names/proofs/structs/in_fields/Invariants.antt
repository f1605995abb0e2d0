-- What holds in the loop of `in_fields`.
use Rattle.std.proofs.Common.{◌≡◌, drop, fold}
use Rattle.c0_names.specs.Names.{names_with}
use Rattle.c0_names.specs.Tables.{fields_structs}
use Rattle.c0_names.proofs.structs.in_fields.Given as goal

abbrev pub invariant-loop-field : goal.invariant-loop-field
invariant-loop-field l = fold names_with l.names (fields_structs (drop l.field-index l.fields)) ≡ fold names_with l.fn.names (fields_structs l.fields)
