-- What holds in the loop of `fields`.
use Rattle.std.proofs.Common.{◌≡◌, ◌&&◌, drop, fold, map, []}
use Rattle.c0_value_rules.specs.Violations.{earlier, least_of}
use Rattle.c0_names.specs.Tables.{no_types}
use Rattle.c0_rules.specs.Rules.{fields_violations}
use Rattle.c0_rules.proofs.items.fields.Given as goal

abbrev pub invariant-loop-part : goal.invariant-loop-part
invariant-loop-part l = fold earlier l.least (fields_violations l.tables l.made (drop l.part-index l.fields)) ≡ fold earlier l.fn.least (fields_violations l.tables no_types l.fields)
