-- What holds at the loop of `push_more_params`.
use Rattle.std.proofs.Common.{◌≡◌, ◌++◌, map, drop}
use Rattle.c0_layout.specs.Lists.{all_text}
use Rattle.c0_layout.specs.Layout.{next_text}
use Rattle.c0_print.specs.Printing.{next_of}
use Rattle.c0_print.proofs.items.push_more_params.Given as goal

abbrev pub invariant-loop-param : goal.invariant-loop-param
invariant-loop-param l = l.text.items ++ all_text next_text (map next_of (drop l.param-index l.params)) ≡ l.initial.text.items ++ all_text next_text (map next_of l.params)
