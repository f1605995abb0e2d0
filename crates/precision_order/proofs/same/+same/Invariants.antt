use Rattle.std.proofs.Common.{◌≡◌, drop, length}
use Rattle.gc0_tree.specs.Views.{exprs_view}
use Rattle.precision_order.specs.Bare.{all_bare}
use Rattle.precision_order.proofs.same.+same.Given as goal

abbrev pub invariant-same_exprs-loop-index : goal.invariant-same_exprs-loop-index
invariant-same_exprs-loop-index l = record {
  lengths : length l.a ≡ length l.b;
  onward : all_bare (exprs_view (drop l.index l.a)) ≡ all_bare (exprs_view (drop l.index l.b)) → all_bare (exprs_view l.a) ≡ all_bare (exprs_view l.b);
  back : all_bare (exprs_view l.a) ≡ all_bare (exprs_view l.b) → all_bare (exprs_view (drop l.index l.a)) ≡ all_bare (exprs_view (drop l.index l.b));
}
