-- What holds at the loops of the cycle `shown`.
use Rattle.std.proofs.Common.{◌≡◌, ◌++◌, drop}
use Rattle.gc0_tree.specs.Views.{exprs_view}
use Rattle.c0_layout.specs.Layout.{args_text}
use Rattle.formula_print.specs.Numbered.{shown_args, shown_more}
use Rattle.c0_layout.specs.Behind.{behind}
use Rattle.formula_print.proofs.formulas.+shown.Given as goal

abbrev pub invariant-push_args-loop-e : goal.invariant-push_args-loop-e
invariant-push_args-loop-e l = l.text.items ++ behind l.front (shown_more l.program l.scope (exprs_view (drop l.e-index l.arguments))) ≡ l.initial.text.items ++ args_text (shown_args l.program l.scope (exprs_view l.arguments))
