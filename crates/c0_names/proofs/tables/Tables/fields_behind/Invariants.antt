-- What holds in the loop of `fields_behind`.
use Rattle.std.proofs.Common.{◌≡◌, drop}
use Rattle.c0_names.specs.Tables.{fields_behind, no_types}
use Rattle.c0_names.proofs.tables.Tables.fields_behind.Given as goal

abbrev pub invariant-loop-field : goal.invariant-loop-field
invariant-loop-field l = fields_behind l.self l.made (drop l.field-index l.fields) ≡ fields_behind l.self no_types l.fields
