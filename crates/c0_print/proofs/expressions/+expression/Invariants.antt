-- What holds at the loops of the cycle `expression`.
use Rattle.std.proofs.Common.{◌≡◌, ◌++◌, drop}
use Rattle.parsed_tree.specs.Views.{exprs_view}
use Rattle.c0_layout.specs.Layout.{args_text}
use Rattle.c0_print.specs.Printing.{args_of, more_of}
use Rattle.c0_layout.specs.Behind.{behind}
use Rattle.c0_print.proofs.expressions.+expression.Given as goal

abbrev pub invariant-push_args-loop-e : goal.invariant-push_args-loop-e
invariant-push_args-loop-e l = l.text.items ++ behind l.front (more_of (exprs_view (drop l.e-index l.arguments))) ≡ l.initial.text.items ++ args_text (args_of (exprs_view l.arguments))
