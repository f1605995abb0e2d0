-- What holds in the loop of the calls around `read_expr`.
use Rattle.std.proofs.Common.{◌≡◌, drop, fold, map}
use Rattle.gc0_tree.specs.Views.{exprs_view}
use Rattle.c0_meaning.specs.Framing.{all_unframed}
use Rattle.self_framing.specs.declared.fault.FrameFault.TheVariants as fault
use Rattle.self_framing.specs.FrameFaults.{earlier}
use Rattle.self_framing.specs.Left.{permitted}
use Rattle.self_framing.proofs.reads.+expression.Given as goal

abbrev pub invariant-read_exprs-loop-e : goal.invariant-read_exprs-loop-e
invariant-read_exprs-loop-e l = fold earlier l.least (map fault.NotFramed (all_unframed (permitted l.left) (exprs_view (drop l.e-index l.es)))) ≡ fold earlier l.fn.least (map fault.NotFramed (all_unframed (permitted l.left) (exprs_view l.es)))
