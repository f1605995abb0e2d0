-- What holds in the loop of the calls around `expression`.
use Rattle.std.proofs.Common.{◌≡◌, ◌&&◌, drop, fold}
use Rattle.parsed_tree.specs.Views.{exprs_view}
use Rattle.c0_value_rules.specs.Violations.{earlier}
use Rattle.c0_value_rules.specs.Expressions.{arguments_fit_here, arguments_violations}
use Rattle.c0_value_rules.proofs.expressions.+expression.Given as goal

abbrev pub invariant-arguments-loop-e : goal.invariant-arguments-loop-e
invariant-arguments-loop-e l = record {
  at : l.number ≡ l.e-index;
  fit : l.fit && arguments_fit_here l.tables l.scope l.outcome l.params l.number (exprs_view (drop l.e-index l.given)) ≡ arguments_fit_here l.tables l.scope l.outcome l.params 0 (exprs_view l.given);
  least : fold earlier l.least (arguments_violations l.tables l.scope l.outcome l.params l.number (exprs_view (drop l.e-index l.given))) ≡ fold earlier l.fn.least (arguments_violations l.tables l.scope l.outcome l.params 0 (exprs_view l.given));
}
