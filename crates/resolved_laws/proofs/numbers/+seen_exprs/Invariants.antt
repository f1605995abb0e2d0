use Rattle.std.proofs.Common.{◌≡◌, drop}
use Rattle.gc0_tree.specs.Views.{exprs_view}
use Rattle.lowering_laws.specs.Words.{trees_words}
use Rattle.resolved_laws.proofs.numbers.+seen_exprs.Given as goal

abbrev pub invariant-see_exprs-loop-e : goal.invariant-see_exprs-loop-e
invariant-see_exprs-loop-e l = trees_words (exprs_view (drop l.e-index l.es)) ≡ trees_words (exprs_view l.es)
