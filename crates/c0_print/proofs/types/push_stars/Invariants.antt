-- What holds at the loop of `push_stars`.
use Rattle.std.proofs.Common.{◌≡◌, ◌++◌}
use Rattle.c0_layout.specs.Lists.{all_text}
use Rattle.c0_layout.specs.Layout.{star_text}
use Rattle.c0_print.specs.Printing.{nowheres}
use Rattle.c0_print.proofs.types.push_stars.Given as goal

abbrev pub invariant-loop : goal.invariant-loop
invariant-loop l = l.text.items ≡ l.initial.text.items ++ all_text star_text (nowheres l.counter)
