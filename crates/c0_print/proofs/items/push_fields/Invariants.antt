-- What holds at the loop of `push_fields`.
use Rattle.std.proofs.Common.{◌≡◌, ◌++◌, map, drop}
use Rattle.c0_layout.specs.Lists.{all_text}
use Rattle.c0_layout.specs.Layout.{field_text}
use Rattle.c0_print.specs.Printing.{field_of}
use Rattle.c0_print.proofs.items.push_fields.Given as goal

abbrev pub invariant-loop-field : goal.invariant-loop-field
invariant-loop-field l = l.text.items ++ all_text field_text (map field_of (drop l.field-index l.fields)) ≡ l.initial.text.items ++ all_text field_text (map field_of l.fields)
