-- What holds at the loop of `push_uses`.
use Rattle.std.proofs.Common.{◌≡◌, ◌++◌, map, drop}
use Rattle.c0_layout.specs.Lists.{all_text}
use Rattle.c0_layout.specs.Layout.{use_text}
use Rattle.c0_print.specs.Printing.{use_of}
use Rattle.c0_print.proofs.items.push_uses.Given as goal

abbrev pub invariant-loop-library : goal.invariant-loop-library
invariant-loop-library l = l.text.items ++ all_text use_text (map use_of (drop l.library-index l.uses)) ≡ l.initial.text.items ++ all_text use_text (map use_of l.uses)
