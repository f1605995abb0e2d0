-- What holds in the loop of `has_acc`.
use Rattle.std.proofs.Common.{◌≡◌, drop}
use Rattle.gc0_tree.specs.Views.{expr_view, conjuncts_view}
use Rattle.self_framing.specs.Left.{has_acc}
use Rattle.self_framing.proofs.left.has_acc.Given as goal

abbrev pub invariant-loop-part : goal.invariant-loop-part
invariant-loop-part l = has_acc (conjuncts_view (drop l.part-index l.parts)) (expr_view l.base) l.field ≡ has_acc (conjuncts_view l.parts) (expr_view l.base) l.field
