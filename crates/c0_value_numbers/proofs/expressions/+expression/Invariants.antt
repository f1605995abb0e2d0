-- What holds in the loop of the calls around `expression`.
use Rattle.std.proofs.Common.{◌≡◌, ◌&&◌, drop}
use Rattle.parsed_tree.specs.Views.{exprs_view}
use Rattle.c0_value_numbers.specs.Texts.{exprs_texts}
use Rattle.c0_value_numbers.specs.Values.{arguments_fit_in_frame}
use Rattle.c0_value_numbers.specs.Expressions.{exprs_tree}
use Rattle.c0_value_numbers.proofs.Fronts.{trees_before}
use Rattle.c0_value_numbers.proofs.expressions.+expression.Given as goal

abbrev pub invariant-arguments-loop-e : goal.invariant-arguments-loop-e
invariant-arguments-loop-e l = record {
  at : l.number ≡ l.e-index;
  tree : trees_before l.made (exprs_tree l.tables l.frame l.texts (exprs_view (drop l.e-index l.es))) ≡ exprs_tree l.tables l.frame l.fn.texts (exprs_view l.es);
  fit : l.fit && arguments_fit_in_frame l.tables l.frame l.params l.number (exprs_view (drop l.e-index l.es)) ≡ arguments_fit_in_frame l.tables l.frame l.params 0 (exprs_view l.es);
  texts : exprs_texts l.texts (exprs_view (drop l.e-index l.es)) ≡ exprs_texts l.fn.texts (exprs_view l.es);
}
